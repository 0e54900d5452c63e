use Rattle.std.proofs.Common.{Some, None}
use Rattle.machine.proofs.TwiceLaws.{twice_fault-first, apart_of_none}
use Rattle.machine.proofs.node_sets.check_apart.Goals as goal

pub returns-in-Some-clause-fault : goal.returns-in-Some-clause-fault
returns-in-Some-clause-fault c =
    twice_fault-first _ _ (Some _) (rw c.meet.ensures at c.in-Some.ensures.first, c.in-Some.ensures.in_range)

pub returns-in-None-clause-fault : goal.returns-in-None-clause-fault
returns-in-None-clause-fault c = twice_fault-first _ _ None (rw c.meet.ensures at c.in-None.ensures.first, tt)

pub returns-in-None-clause-apart : goal.returns-in-None-clause-apart
returns-in-None-clause-apart c = apart_of_none _ _ (rw c.meet.ensures at c.in-None.ensures.first)
