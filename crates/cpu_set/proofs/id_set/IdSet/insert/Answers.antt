use Rattle.std.proofs.Common.{arith}
use Rattle.cpu_set.proofs.Combined.{AreWords-set, inserted_fits, set_of_words-inserted}
use Rattle.cpu_set.proofs.id_set.IdSet.insert.Goals as goal

pub invariant_of-self : goal.invariant_of-self
invariant_of-self c = AreWords-set _ _ _ c.self.invariant (omega arith) (inserted_fits _ _ (c.self.invariant.fit _))

pub returns : goal.returns
returns c = rw (← c.self.view_is) (set_of_words-inserted _ _ c.self.invariant (omega arith))
