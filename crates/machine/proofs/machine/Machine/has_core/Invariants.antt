use Rattle.std.proofs.Common.{◌-◌}
use Rattle.cpu_set.specs.declared.TheConstants.{CPU_LIMIT}
use Rattle.machine.proofs.CoreSets.{HasBelow}
use Rattle.machine.proofs.machine.Machine.has_core.Given as goal

-- the core's CPUs below the next one are in the set
abbrev pub invariant-loop-next : goal.invariant-loop-next
invariant-loop-next l = HasBelow l.self l.core l.cpus l.next

abbrev pub decreases-loop-next : goal.decreases-loop-next
decreases-loop-next l = CPU_LIMIT - l.next
