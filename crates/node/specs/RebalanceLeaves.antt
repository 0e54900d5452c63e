-- All that stands after a rebalance that answers this.
use Rattle.std.specs.Prelude.{Result}
use Rattle.faults.specs.declared.OrMemory.{OrMemory}
use Rattle.node.specs.declared.fault.NodeFault.{NodeFault}
use Rattle.node.specs.declared.order.Order.{Order}
use Rattle.node.specs.declared.outcome.Outcome.{Outcome}
use Rattle.node.specs.NodeState.{NodeState}
use Rattle.node.specs.Headline.{Headline}
use Rattle.node.specs.Tells.{Tells}
use Rattle.node.specs.BreaksOff.{BreaksOff}

-- all of this after a rebalance in this order: what the host has, what the certificate tells of it, and what is left if a write failed
pub record RebalanceLeaves (order : Order) (old : NodeState) (answer : Result Outcome (OrMemory NodeFault)) (new : NodeState) : Type 0 where
  pub headline : Headline old answer new
  pub told : Tells old answer new
  pub broken : BreaksOff order old answer new
