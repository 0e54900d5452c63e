-- How long a hand-over lasts that is stepped, whatever else happens.
use Rattle.std.specs.Prelude.{◌≡◌, ℕ, ◌+◌, ◌*◌, ◌≤◌, List, [], ◌∷◌, length, Some, None, Result, Ok}
use Rattle.std.specs.List.{AllByRecursion}
use Rattle.apply_plan.specs.declared.Progress.{Progress}
use Rattle.apply_plan.specs.declared.Progress.TheVariants.{More}
use Rattle.node.specs.declared.fault.NodeFault.{NodeFault}
use Rattle.node.specs.NodeState.{Ongoing, NodeState}
use Rattle.node.specs.IsNode.{IsNode}
use Rattle.node.specs.Orders.{left_of}
use Rattle.node.specs.Rebalance.{StepsOn}
use Rattle.node.specs.Machine.{Event, Run}
use Rattle.node.specs.Machine.Event.{StepOn, MissOn}

-- one for a step of a hand-over, and none for any other event
abbrev pub step_in : Event → ℕ
step_in (StepOn answer) = 1
step_in event = 0

-- how many of the events are steps
abbrev pub steps_in : List Event → ℕ
steps_in [] = 0
steps_in (event ∷ later) = step_in event + steps_in later

-- a step answers that more are to come, and no other write fails
abbrev pub IsMore : Event → Type 0
IsMore (StepOn answer) = answer ≡ Ok More
IsMore (MissOn fault) = ⊥
IsMore event = Unit {0}

-- the hand-over is still open. Each step made one write less to come, in the direct order one or more, and nothing one more. At
-- first at most two for each container were to come. If these steps and one more are two for each container, the next one ends it.
pub record GoesOn (o : Ongoing) (old : NodeState) (events : List Event) (new : NodeState) : Type 0 where
  pub still : new.ongoing ≡ Some o
  pub falls : steps_in events + left_of o new.kernel ≤ left_of o old.kernel
  pub few : left_of o old.kernel ≤ 2 * length o.targets.entries
  pub ends : 2 * length o.targets.entries ≤ steps_in events + 1 → (r : Result Progress NodeFault) (after : NodeState) → StepsOn new r after → after.ongoing ≡ None

-- a hand-over ends within two steps for each container, whatever calls and events fall between them; one of no container ends
-- with its first step
abbrev pub HandoversEnd : Type 0
HandoversEnd =
    (old : NodeState) (o : Ongoing) (events : List Event) (new : NodeState) → IsNode old → old.ongoing ≡ Some o → Run old events new
    → AllByRecursion IsMore events → GoesOn o old events new
