use Rattle.std.proofs.Common.{◌-◌, ◌≤◌}
use Rattle.cpu_set.specs.declared.TheConstants.{CPU_LIMIT}
use Rattle.machine.specs.Cores.{is_core_in}
use Rattle.machine.proofs.CoreSets.{IsPicked}
use Rattle.machine.proofs.Marking.{place}
use Rattle.machine.proofs.machine.Machine.cores_in.Given as goal

-- the cores before the next CPU, below which lie all CPUs walked
abbrev pub invariant-loop-next : goal.invariant-loop-next
invariant-loop-next l = (IsPicked l.cpus (is_core_in l.self l.cpus) l.cores l.next) × (l.walked ≤ place l.next)

abbrev pub decreases-loop-next : goal.decreases-loop-next
decreases-loop-next l = CPU_LIMIT - place l.next
