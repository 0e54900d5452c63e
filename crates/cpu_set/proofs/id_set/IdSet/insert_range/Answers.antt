use Rattle.std.proofs.Common.{arith}
use Rattle.cpu_set.proofs.Combined.{IsFilled-one, IsFilled-all}
use Rattle.cpu_set.proofs.id_set.IdSet.insert_range.Goals as goal

pub invariant_of-self : goal.invariant_of-self
invariant_of-self c = (IsFilled-one _ _ _ _ c.self.invariant (omega arith) (omega arith) c.bits_between.type_inv c.bits_between.ensures).are

pub returns-then-at-last : goal.returns-then-at-last
returns-then-at-last c =
    rw (← c.self.view_is) (IsFilled-all _ _ _ _ _ c.self.invariant (omega arith) (IsFilled-one _ _ _ _ c.self.invariant (omega arith) (omega arith) c.bits_between.type_inv c.bits_between.ensures))
