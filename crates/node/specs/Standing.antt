-- A plan that stands already, and what a rebalance then does: nothing but to find it again.
use Rattle.std.specs.Prelude.{◌≡◌, ℕ, true, false, List, None, map, Result, Ok, Err}
use Rattle.std.specs.List.{AllByRecursion}
use Rattle.cpu_set.specs.Ids.{Ids}
use Rattle.faults.specs.declared.OrMemory.{OrMemory}
use Rattle.faults.specs.declared.OrMemory.TheVariants.{Memory}
use Rattle.demand.specs.declared.Kind.TheVariants.{Shared}
use Rattle.node.specs.declared.fault.NodeFault.{NodeFault}
use Rattle.node.specs.declared.order.Order.{Order}
use Rattle.node.specs.declared.outcome.Outcome.{Outcome}
use Rattle.node.specs.declared.outcome.Outcome.TheVariants.{Plan}
use Rattle.node.specs.declared.phase.Phase.TheVariants.{Settled}
use Rattle.node.specs.NodeState.{ContainerState, NodeState, is_underway}
use Rattle.node.specs.Status.{is_live}
use Rattle.node.specs.IsNode.{IsNode}
use Rattle.node.specs.Rows.{requested_by}
use Rattle.node.specs.Best.{asking, IsBest}
use Rattle.node.specs.Entries.{plan_pool}
use Rattle.node.specs.Rebalance.{Rebalances}

-- what the groups of the live pinned containers request, in the order in which they were created
abbrev pub requested_sets : NodeState → List Ids
requested_sets n = map (requested_by n.kernel) (asking n)

-- a live shared container requests the online CPUs that are in none of these sets
abbrev pub HasPool : NodeState → List ℕ × ContainerState → Type 0
HasPool n e = is_live n.kernel e.1 ≡ true → e.1.demand.kind ≡ Shared → requested_by n.kernel e ≡ plan_pool n (requested_sets n)

-- a plan of this total stands. No hand-over is open. What the live pinned containers request is the best that they could have,
-- at this distance, and each live shared one requests the pool of it. It doesn't matter who wrote these sets.
pub record PlanStands (n : NodeState) (total : ℕ) : Type 0 where
  pub settled : is_underway n.phase ≡ false
  pub best : IsBest n total (requested_sets n)
  pub pool : AllByRecursion (HasPool n) n.containers

-- what a rebalance answers and leaves that keeps this plan: its distance, and a kernel of which nothing was asked. So it wrote
-- nothing, and nobody moved. The pool is that of the plan. Else an allocation failed, and all is as before.
abbrev pub KeepsPlan : NodeState → ℕ → Result Outcome (OrMemory NodeFault) → NodeState → Type 0
KeepsPlan old total (Ok (Plan found)) new =
    (found ≡ total)
    × (new ≡ record old { pool = plan_pool old (requested_sets old); phase = Settled; ongoing = None; last = new.last })
KeepsPlan old total (Err Memory) new = new ≡ old
KeepsPlan old total answer new = ⊥

-- where a plan stands, a rebalance keeps it
abbrev pub StandingPlansAreKept : Type 0
StandingPlansAreKept =
    (order : Order) (old : NodeState) (total : ℕ) (answer : Result Outcome (OrMemory NodeFault)) (new : NodeState) → IsNode old → PlanStands old total
    → Rebalances order old answer new → KeepsPlan old total answer new

-- a plan stands once a rebalance answered it
abbrev pub AnsweredPlansStand : Type 0
AnsweredPlansStand = (order : Order) (old : NodeState) (total : ℕ) (new : NodeState) → IsNode old → Rebalances order old (Ok (Plan total)) new → PlanStands new total

-- so a second rebalance in a row keeps what the first one answered
abbrev pub SecondsKeepPlans : Type 0
SecondsKeepPlans =
    (before after : Order) (first : NodeState) (total : ℕ) (old : NodeState) (answer : Result Outcome (OrMemory NodeFault)) (new : NodeState) → IsNode first
    → Rebalances before first (Ok (Plan total)) old → Rebalances after old answer new → KeepsPlan old total answer new
