use Rattle.std.proofs.Common.{map}
use Rattle.serde_json.specs.View.{view}
use Rattle.machine.proofs.NodeSteps.{AreUnited}
use Rattle.machine.proofs.node_sets.unite.Given as goal

-- the nodes before this one are without fault, and united
abbrev pub invariant-loop-item : goal.invariant-loop-item
invariant-loop-item l = AreUnited (map view l.items) l.item-index l.all
