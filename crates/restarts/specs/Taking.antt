-- How a new run takes up what the one before it left: by an `adopt` of each container, with the CPUs that its file names.
use Rattle.std.specs.Prelude.{◌≡◌, ℕ, true, false, List, Some, None, map, Result, Ok, Err}
use Rattle.std.specs.List.{AllByRecursion}
use Rattle.faults.specs.declared.OrMemory.{OrMemory}
use Rattle.faults.specs.declared.OrMemory.TheVariants.{Memory, Fault}
use Rattle.cpu_set.specs.Ids.{Ids}
use Rattle.cpuset_tree.specs.Groups.{requested_cpus}
use Rattle.kernel_model.specs.KernelState.{KernelState}
use Rattle.machine.specs.Layout.{Layout}
use Rattle.config_json.specs.declared.Config.{Config as Said}
use Rattle.config_json.specs.ConfigOf.{config_of}
use Rattle.demand.specs.DemandFaultOf.{demand_fault, is_pinned as asks_own}
use Rattle.apply_plan.specs.Holders.{IsSafe}
use Rattle.node.specs.declared.fault.NodeFault.{NodeFault}
use Rattle.node.specs.declared.fault.NodeFault.TheVariants.{NotFree, Kernel}
use Rattle.node.specs.declared.order.Order.{Order}
use Rattle.node.specs.declared.outcome.Outcome.{Outcome}
use Rattle.node.specs.NodeState.{ContainerState, NodeState, container_of, is_underway}
use Rattle.node.specs.Owners.{is_pinned, owners_of}
use Rattle.node.specs.Rows.{requested_by}
use Rattle.node.specs.Status.{is_live}
use Rattle.node.specs.IsNode.{IsMachine, IsNode}
use Rattle.node.specs.Calls.{Adopts}
use Rattle.node.specs.Making.{LateCause}
use Rattle.node.specs.Rebalance.{Rebalances}
use Rattle.node.specs.RebalanceLeaves.{RebalanceLeaves}
use Rattle.node.specs.Machine.{Event, Adopt, Run}
use Rattle.runtime.specs.Boots.{Boots}
use Rattle.restarts.specs.Left.{Left, AreLeft, IsAmong}

-- the config has no fault on the machine, and asks for CPUs of its own only if the container did so before
pub record AsksAsBefore (m : Layout) (config : List ℕ) (a : Left) : Type 0 where
  pub said : Said
  pub read : config_of config ≡ Ok said
  pub right : demand_fault m said.cpu ≡ None
  pub kind : asks_own said.cpu ≡ true → a.pinned ≡ true

-- an `adopt` of one of those that were left, with its CPUs and a config that asks as before
abbrev pub TakesUp : Layout → List Left → Event → Type 0
TakesUp m left (Adopt id bundle config cpus answer) = (a : Left) × IsAmong left a × AsksAsBefore m config a × (id ≡ a.id) × (cpus ≡ a.cpus)
TakesUp m left event = ⊥

-- a container of the node is one of those that were left. It lives, and requests what that did.
pub record IsTaken (left : List Left) (k : KernelState) (e : List ℕ × ContainerState) : Type 0 where
  pub its : Left
  pub among : IsAmong left its
  pub id : e.0 ≡ its.id
  pub kind : is_pinned e.1.demand.kind ≡ true → its.pinned ≡ true
  pub live : is_live k e.1 ≡ true
  pub requests : requested_by k e ≡ its.cpus

-- the node has a live container of this id, whose group requests these CPUs
pub record HasTaken (n : NodeState) (id : List ℕ) (cpus : Ids) : Type 0 where
  pub container : ContainerState
  pub there : container_of n id ≡ Some container
  pub live : is_live n.kernel container ≡ true
  pub requests : requested_cpus n.kernel.tree container.group ≡ cpus

-- so it is of an `adopt` that was answered a pid
abbrev pub StaysTaken : NodeState → Event → Type 0
StaysTaken n (Adopt id bundle config cpus (Ok pid)) = HasTaken n id cpus
StaysTaken n event = Unit {0}

-- what a new run has after any number of these. It is a node, so what is requested is safe, and no hand-over is open. Each of
-- its containers is one that was left, with the CPUs that its file names. Each `adopt` that was answered a pid is there.
pub record IsRestarted (m : Layout) (left : List Left) (tries : List Event) (n : NodeState) : Type 0 where
  pub node : IsNode n
  pub safe : IsSafe n.kernel n.kernel.reserved (map (λ o. o.holder) (owners_of n.containers))
  pub machine : n.machine ≡ m
  pub settled : is_underway n.phase ≡ false
  pub taken : AllByRecursion (IsTaken left n.kernel) n.containers
  pub all : AllByRecursion (StaysTaken n) tries

-- the answer to one more: it is there; or an allocation failed, a write did, or no serial or no pid was left. It is refused for
-- nothing else.
abbrev pub IsTakenOrLate : NodeState → Left → Result ℕ (OrMemory NodeFault) → NodeState → Type 0
IsTakenOrLate old a (Ok pid) new = HasTaken new a.id a.cpus
IsTakenOrLate old a (Err Memory) new = new.containers ≡ old.containers
IsTakenOrLate old a (Err (Fault (Kernel fault))) new = LateCause old a.id fault new
IsTakenOrLate old a (Err (Fault fault)) new = ⊥

-- a new run on the machine, which tried to take up what was left, in any order and as often as it will
pub record Tries (m : Layout) (left : List Left) (tries : List Event) (n : NodeState) : Type 0 where
  pub layout : IsMachine m
  pub left_so : AreLeft m left
  pub first : NodeState
  pub boots : Boots m first
  pub of : AllByRecursion (TakesUp m left) tries
  pub run : Run first tries n

-- whatever each of these tries was answered, a refusal too, they leave such a node
abbrev pub TriesRestart : Type 0
TriesRestart = (m : Layout) (left : List Left) (tries : List Event) (n : NodeState) → Tries m left tries n → IsRestarted m left tries n

-- and none of those that were left is refused, while it is not there yet
abbrev pub NoneIsRefused : Type 0
NoneIsRefused =
    (m : Layout) (left : List Left) (tries : List Event) (n : NodeState) (a : Left) (bundle config : List ℕ) (answer : Result ℕ (OrMemory NodeFault))
    (new : NodeState)
    → Tries m left tries n → IsAmong left a → AsksAsBefore m config a → container_of n a.id ≡ None → Adopts n a.id bundle config a.cpus answer new
    → IsTakenOrLate n a answer new

-- it asks for CPUs of its own by now and did not before, and nothing changes
pub record IsPinnedSince (m : Layout) (config : List ℕ) (a : Left) (old new : NodeState) : Type 0 where
  pub said : Said
  pub read : config_of config ≡ Ok said
  pub now : asks_own said.cpu ≡ true
  pub before : a.pinned ≡ false
  pub same : new ≡ old

-- whatever its config says by now, it is refused a CPU only if that is so
abbrev pub OnlyPinnedSince : Type 0
OnlyPinnedSince =
    (m : Layout) (left : List Left) (tries : List Event) (n : NodeState) (a : Left) (bundle config : List ℕ) (cpu : ℕ) (new : NodeState)
    → Tries m left tries n → IsAmong left a → Adopts n a.id bundle config a.cpus (Err (Fault (NotFree cpu))) new → IsPinnedSince m config a n new

-- the next rebalance starts from there: it leaves what the headline says, as of any node
abbrev pub RebalancesGoOn : Type 0
RebalancesGoOn =
    (m : Layout) (left : List Left) (tries : List Event) (order : Order) (n : NodeState) (answer : Result Outcome (OrMemory NodeFault)) (new : NodeState)
    → Tries m left tries n → Rebalances order n answer new → RebalanceLeaves order n answer new
