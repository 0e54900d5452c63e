use Rattle.std.proofs.Common.{arith}
use Rattle.cpu_set.proofs.Combined.{IsFilled-none, IsFilled-more, IsFilled-all}
use Rattle.cpu_set.proofs.id_set.IdSet.insert_in_words.Goals as goal

pub loop-k-init : goal.loop-k-init
loop-k-init c = IsFilled-none _ _ _ c.self.invariant

pub loop-k-preserved : goal.loop-k-preserved
loop-k-preserved c = IsFilled-more _ _ _ _ _ _ (omega arith) c.bits_of_range.type_inv c.bits_of_range.ensures c.loop-k.invariant

pub invariant_of-self : goal.invariant_of-self
invariant_of-self c = c.loop-k.invariant.are

pub returns : goal.returns
returns c = rw (← c.self.view_is) (IsFilled-all _ _ _ _ _ c.self.invariant (omega arith) c.loop-k.invariant)
