use Rattle.std.proofs.Common.{◌-◌}
use Rattle.cpu_set.specs.declared.TheConstants.{CPU_LIMIT}
use Rattle.apply_plan.proofs.CpuWalks.{IsMarked, stop}
use Rattle.apply_plan.proofs.rings.mark.Given as goal

-- the CPUs before the next one are written
abbrev pub invariant-loop-next : goal.invariant-loop-next
invariant-loop-next l = IsMarked l.cpus l.number l.initial.places l.places l.next

abbrev pub decreases-loop-next : goal.decreases-loop-next
decreases-loop-next l = CPU_LIMIT - stop l.next
