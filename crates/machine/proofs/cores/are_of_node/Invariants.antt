use Rattle.std.proofs.Common.{◌-◌}
use Rattle.cpu_set.specs.declared.TheConstants.{CPU_LIMIT}
use Rattle.machine.proofs.Marking.{AreOfNode, place}
use Rattle.machine.proofs.cores.are_of_node.Given as goal

-- the CPUs before the next one are of the node
abbrev pub invariant-loop-next : goal.invariant-loop-next
invariant-loop-next l = AreOfNode l.cpus l.places l.node l.next

abbrev pub decreases-loop-next : goal.decreases-loop-next
decreases-loop-next l = CPU_LIMIT - place l.next
