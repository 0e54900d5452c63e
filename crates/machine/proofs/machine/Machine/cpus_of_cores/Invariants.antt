use Rattle.std.proofs.Common.{◌-◌, ◌≤◌}
use Rattle.cpu_set.specs.declared.TheConstants.{CPU_LIMIT}
use Rattle.machine.proofs.CoreSets.{AreFilled}
use Rattle.machine.proofs.Marking.{place}
use Rattle.machine.proofs.machine.Machine.cpus_of_cores.Given as goal

-- the CPUs of the cores before the next one, below which lie all cores walked
abbrev pub invariant-loop-next : goal.invariant-loop-next
invariant-loop-next l = (AreFilled l.self l.fn.cores l.cpus l.next) × (l.walked ≤ place l.next)

abbrev pub decreases-loop-next : goal.decreases-loop-next
decreases-loop-next l = CPU_LIMIT - place l.next
