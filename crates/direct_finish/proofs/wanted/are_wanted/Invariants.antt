use Rattle.std.proofs.Common.{◌-◌}
use Rattle.std.specs.Prelude.{IfSome}
use Rattle.cpu_set.specs.Members.{IsCpu}
use Rattle.cpu_set.specs.declared.TheConstants.{CPU_LIMIT}
use Rattle.direct_finish.proofs.Stops.{stop}
use Rattle.direct_finish.proofs.wanted.are_wanted.Given as goal

-- the next one is a CPU
abbrev pub invariant-loop-next : goal.invariant-loop-next
invariant-loop-next l = IfSome l.next IsCpu

abbrev pub decreases-loop-next : goal.decreases-loop-next
decreases-loop-next l = CPU_LIMIT - stop l.next
