-- What a rebalance leaves if a write failed.
use Rattle.std.specs.Prelude.{◌≡◌, ◌+◌, ℕ, List, None, Result, Err, map}
use Rattle.cpu_set.specs.Ids.{Ids}
use Rattle.certificate.specs.IsLeast.{IsLeast}
use Rattle.faults.specs.declared.OrMemory.{OrMemory}
use Rattle.faults.specs.declared.OrMemory.TheVariants.{Fault}
use Rattle.apply_plan.specs.Holders.{IsSafe}
use Rattle.node.specs.declared.fault.NodeFault.{NodeFault}
use Rattle.node.specs.declared.fault.NodeFault.TheVariants.{Kernel}
use Rattle.node.specs.declared.order.Order.{Order}
use Rattle.node.specs.declared.outcome.Outcome.{Outcome}
use Rattle.node.specs.declared.phase.Phase.TheVariants.{Unsettled}
use Rattle.node.specs.NodeState.{NodeState}
use Rattle.node.specs.Owners.{owners_of}
use Rattle.node.specs.Ongoing.{IsBroken}
use Rattle.node.specs.Rows.{as_cores, rows_of}
use Rattle.node.specs.Best.{IsBest}
use Rattle.node.specs.Entries.{opened}
use Rattle.node.specs.Tells.{IsTold}

-- what a rebalance leaves if a write failed. The plan was the best, and the certificate tells it. Each container of the
-- hand-over requests what it did before, what it keeps of that, or what the plan gives it; in the direct order, what it may on
-- its way (`AreSince`). Nothing else changed in the kernel but what it tells and counts. What is requested is safe, and no
-- hand-over is open.
pub record IsBrokenOff (order : Order) (old : NodeState) (new : NodeState) : Type 0 where
  pub sets : List Ids
  pub total : ℕ
  pub least : IsLeast (rows_of old) (as_cores old.machine sets)
  pub best : IsBest old total sets
  pub told : IsTold old sets total new.last
  pub broken : IsBroken (opened order old sets) old.kernel new.kernel
  pub counted : new.kernel.failures ≡ old.kernel.failures + 1
  pub safe : IsSafe new.kernel new.kernel.reserved (map (λ o. o.holder) (owners_of new.containers))
  pub phase : new.phase ≡ Unsettled
  pub ongoing : new.ongoing ≡ None
  pub same : new.containers ≡ old.containers

-- a rebalance in this order leaves that if the kernel refused a write
abbrev pub BreaksOff : Order → NodeState → Result Outcome (OrMemory NodeFault) → NodeState → Type 0
BreaksOff order old (Err (Fault (Kernel fault))) new = IsBrokenOff order old new
BreaksOff order old answer new = Unit {0}
