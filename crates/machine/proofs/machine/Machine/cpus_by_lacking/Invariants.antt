use Rattle.std.proofs.Common.{◌-◌}
use Rattle.std.specs.FinSet as set
use Rattle.cpu_set.specs.declared.TheConstants.{CPU_LIMIT}
use Rattle.machine.specs.Present.{present}
use Rattle.machine.proofs.Lacking.{AreEmptied}
use Rattle.machine.proofs.Marking.{place}
use Rattle.machine.proofs.machine.Machine.cpus_by_lacking.Given as goal

-- the CPUs of the lacking cores before the next one are out
abbrev pub invariant-loop-next : goal.invariant-loop-next
invariant-loop-next l = AreEmptied l.self l.lacking (set.union (present l.self) l.fn.cores) l.cpus l.next

abbrev pub decreases-loop-next : goal.decreases-loop-next
decreases-loop-next l = CPU_LIMIT - place l.next
