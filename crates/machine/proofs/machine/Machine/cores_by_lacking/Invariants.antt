use Rattle.std.proofs.Common.{◌-◌}
use Rattle.cpu_set.specs.declared.TheConstants.{CPU_LIMIT}
use Rattle.machine.proofs.Lacking.{AreLeft}
use Rattle.machine.proofs.Marking.{place}
use Rattle.machine.proofs.machine.Machine.cores_by_lacking.Given as goal

-- the cores of the lacking CPUs before the next one are out
abbrev pub invariant-loop-next : goal.invariant-loop-next
invariant-loop-next l = AreLeft l.self l.cpus l.lacking l.cores l.next

abbrev pub decreases-loop-next : goal.decreases-loop-next
decreases-loop-next l = CPU_LIMIT - place l.next
