use Rattle.node.proofs.LeastLemmas.{Walks}
use Rattle.node.proofs.places.first_of.Given as goal

-- the members below the next one are taken
abbrev pub invariant-loop-next : goal.invariant-loop-next
invariant-loop-next l = Walks l.set l.count l.taken l.left l.next

abbrev pub decreases-loop-next : goal.decreases-loop-next
decreases-loop-next l = l.left
