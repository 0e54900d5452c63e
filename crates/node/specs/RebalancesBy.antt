-- What a rebalance leaves, in whichever order its hand-over goes.
use Rattle.std.specs.Prelude.{◌≡◌, ◌+◌, Result}
use Rattle.faults.specs.declared.OrMemory.{OrMemory}
use Rattle.node.specs.declared.fault.NodeFault.{NodeFault}
use Rattle.node.specs.declared.order.Order.{Order}
use Rattle.node.specs.declared.outcome.Outcome.{Outcome}
use Rattle.node.specs.NodeState.{NodeState}
use Rattle.node.specs.Leaves.{rise_or_memory}
use Rattle.node.specs.Headline.{Headline}
use Rattle.node.specs.Tells.{Tells}
use Rattle.node.specs.BreaksOff.{BreaksOff}
use Rattle.node.specs.Rebalance.{Rebalances}
use Rattle.node.specs.Written.{RebalanceWrites}

-- what the host has then (`headline`), and what the certificate tells of that (`told`). What each container requests if a write
-- failed: then nothing else changed in the kernel but what it tells and counts, the hand-over is over, and its plan was as good
-- as that of `begin` (`broken`). It is `begin` in this order, and what single steps until the hand-over ends would do; `Busy` and
-- an allocation failure change nothing (`rebalances`). A failure is counted (`counted`). How many writing calls it makes: to a plan
-- at most two for each live container, at most one more if a write fails, and none if there is no plan (`made`).
pub record RebalancesBy (order : Order) (old : NodeState) (answer : Result Outcome (OrMemory NodeFault)) (new : NodeState) : Type 0 where
  pub headline : Headline old answer new
  pub told : Tells old answer new
  pub broken : BreaksOff order old answer new
  pub rebalances : Rebalances order old answer new
  pub counted : new.kernel.failures ≡ old.kernel.failures + rise_or_memory answer
  pub made : RebalanceWrites order old answer new
