use Rattle.std.proofs.Common.{◌-◌}
use Rattle.cpu_set.specs.declared.TheConstants.{CPU_LIMIT}
use Rattle.apply_plan.proofs.CpuWalks.{IsLeastSoFar, stop}
use Rattle.apply_plan.proofs.rings.least_place.Given as goal

-- it is the least at the CPUs before the next one
abbrev pub invariant-loop-next : goal.invariant-loop-next
invariant-loop-next l = IsLeastSoFar l.cpus l.places l.end l.least l.next

abbrev pub decreases-loop-next : goal.decreases-loop-next
decreases-loop-next l = CPU_LIMIT - stop l.next
