use Rattle.std.proofs.Common.{◌-◌}
use Rattle.cpu_set.specs.declared.TheConstants.{CPU_LIMIT}
use Rattle.machine.proofs.Lacking.{IsTaken}
use Rattle.machine.proofs.machine.Machine.take_core.Given as goal

-- the core's CPUs below the next one are out
abbrev pub invariant-loop-next : goal.invariant-loop-next
invariant-loop-next l = IsTaken l.self l.core l.initial.cpus l.cpus l.next

abbrev pub decreases-loop-next : goal.decreases-loop-next
decreases-loop-next l = CPU_LIMIT - l.next
