-- The node machine: calls and events with their answers, one after another, questions among them.
use Rattle.std.specs.Prelude.{◌≡◌, ℕ, List, [], ◌∷◌, map, Some, Result, Ok}
use Rattle.std.specs.List.{AllByRecursion}
use Rattle.cpu_set.specs.Ids.{Ids}
use Rattle.cpuset_tree.specs.Effective.{effective_cpus}
use Rattle.kernel_model.specs.declared.KernelFault.{KernelFault}
use Rattle.kernel_model.specs.KernelState.{KernelState}
use Rattle.kernel_model.specs.WellFormed.{IsWellFormed}
use Rattle.kernel_model.specs.Cases.{Forks, Exits, GoesOffline, ComesOnline}
use Rattle.machine.specs.Layout.{Layout}
use Rattle.faults.specs.declared.OrMemory.{OrMemory}
use Rattle.apply_plan.specs.declared.Progress.{Progress}
use Rattle.apply_plan.specs.Holders.{AreSafe, IsSafe}
use Rattle.apply_plan.specs.Effects.{HasOnline}
use Rattle.apply_plan.specs.OnWay.{AreOnWay}
use Rattle.apply_plan.specs.Squeezes.{SqueezesOnlyStuck}
use Rattle.node.specs.declared.fault.NodeFault.{NodeFault}
use Rattle.node.specs.declared.order.Order.{Order}
use Rattle.node.specs.declared.order.Order.TheVariants.{InTurn, Directly}
use Rattle.node.specs.declared.outcome.Outcome.{Outcome}
use Rattle.node.specs.declared.outcome.Outcome.TheVariants.{Plan}
use Rattle.node.specs.NodeState.{Ongoing, NodeState}
use Rattle.node.specs.Owners.{owners_of}
use Rattle.node.specs.LeastCores.{least_cores}
use Rattle.node.specs.Orders.{directed_of}
use Rattle.node.specs.IsNode.{IsMachine, IsOfMachine, IsNode}
use Rattle.node.specs.Unused.{IsUnused}
use Rattle.node.specs.Updates.{Updates}
use Rattle.node.specs.Calls.{Opens, Creates, Adopts, Starts, Kills, Deletes}
use Rattle.node.specs.Rebalance.{Begins, StepsOn, Writes, Misses, Rebalances, Moves}
use Rattle.node.specs.Questions.{Question, Answers}
use Rattle.node.specs.RebalanceLeaves.{RebalanceLeaves}

-- a call with its answer, or an event of the kernel with its answer; after the calls that may change something those that
-- only read, as one. `WriteOn` and `MissOn` are no calls of their own: they are one of the writes that a rebalance makes, and one
-- that fails, by which it ends.
pub data Event : Type 0 where
  Create : List ℕ → List ℕ → List ℕ → Result ℕ (OrMemory NodeFault) → Event
  Adopt : List ℕ → List ℕ → List ℕ → Ids → Result ℕ (OrMemory NodeFault) → Event
  Update : List ℕ → List ℕ → List ℕ → Result (Unit {0}) (OrMemory NodeFault) → Event
  Start : List ℕ → Result (Unit {0}) NodeFault → Event
  Kill : List ℕ → List ℕ → Result (Unit {0}) NodeFault → Event
  Delete : List ℕ → Result (Unit {0}) NodeFault → Event
  Rebalance : Order → Result Outcome (OrMemory NodeFault) → Event
  Begin : Order → Result Outcome (OrMemory NodeFault) → Event
  StepOn : Result Progress NodeFault → Event
  WriteOn : Event
  MissOn : KernelFault → Event
  Ask : Question → Event
  Fork : ℕ → Result ℕ (OrMemory KernelFault) → Event
  Exit : ℕ → Result (Unit {0}) KernelFault → Event
  Offline : ℕ → Result (Unit {0}) KernelFault → Event
  Online : ℕ → Result (Unit {0}) KernelFault → Event

-- an event changes the kernel alone
abbrev pub InKernel : NodeState → NodeState → Type 0
InKernel old new = new ≡ record old { kernel = new.kernel }

-- one step: the call's relation, or the event's case; a call that only reads leaves what it found
abbrev pub Step : NodeState → Event → NodeState → Type 0
Step old (Create id bundle config answer) new = Creates old id bundle config answer new
Step old (Adopt id bundle config cpus answer) new = Adopts old id bundle config cpus answer new
Step old (Update id bundle config answer) new = Updates old id bundle config answer new
Step old (Start id answer) new = Starts old id answer new
Step old (Kill id signal answer) new = Kills old id signal answer new
Step old (Delete id answer) new = Deletes old id answer new
Step old (Rebalance order answer) new = Rebalances order old answer new
Step old (Begin order answer) new = Begins order old answer new
Step old (StepOn answer) new = StepsOn old answer new
Step old WriteOn new = Writes old new
Step old (MissOn fault) new = Misses old fault new
Step old (Ask question) new = Answers old question × (new ≡ old)
Step old (Fork parent answer) new = Forks old.kernel parent answer new.kernel × InKernel old new
Step old (Exit pid answer) new = Exits old.kernel pid answer new.kernel × InKernel old new
Step old (Offline cpu answer) new = GoesOffline old.kernel cpu answer new.kernel × InKernel old new
Step old (Online cpu answer) new = ComesOnline old.kernel cpu answer new.kernel × InKernel old new

-- steps, one after another
abbrev pub Run : NodeState → List Event → NodeState → Type 0
Run old [] new = new ≡ old
Run old (event ∷ later) new = (mid : NodeState) × Step old event mid × Run mid later new

-- what `new` makes of a kernel that no node has used is a node
abbrev pub FirstIsNode : Type 0
FirstIsNode = (k : KernelState) (m : Layout) (n : NodeState) → IsWellFormed k → IsMachine m → IsOfMachine k m → IsUnused k → Opens k m n → IsNode n

-- what holds of a node holds after any list of calls and events, with all their refusals
abbrev pub RunsKeep : Type 0
RunsKeep = (old : NodeState) (events : List Event) (new : NodeState) → IsNode old → Run old events new → IsNode new

-- after each of them no live pinned container requests a CPU of another live one, but reserved ones, and each live one
-- requests some
abbrev pub RunsStaySafe : Type 0
RunsStaySafe =
    (old : NodeState) (events : List Event) (new : NodeState) → IsNode old → Run old events new
    → IsSafe new.kernel new.kernel.reserved (map (λ o. o.holder) (owners_of new.containers))

-- if each live container then requests a CPU that is online, the same holds of the CPUs in effect for them
abbrev pub RunsStayApart : Type 0
RunsStayApart =
    (old : NodeState) (events : List Event) (new : NodeState) → IsNode old → Run old events new
    → AllByRecursion (HasOnline new.kernel) (map (λ o. o.holder) (owners_of new.containers))
    → AreSafe new.kernel new.kernel.reserved (effective_cpus new.kernel.tree) (map (λ o. o.holder) (owners_of new.containers))

-- a write of a hand-over, or a step of it, which makes one write at most
abbrev pub IsOneWrite : Event → Type 0
IsOneWrite (StepOn answer) = Unit {0}
IsOneWrite WriteOn = Unit {0}
IsOneWrite (MissOn fault) = Unit {0}
IsOneWrite event = ⊥

-- a rebalance that hands over leaves what `begin`, which writes nothing, and then single writes leave. What holds after each
-- of these holds of what it leaves, wherever a write fails.
abbrev pub RebalancesAreWrites : Type 0
RebalancesAreWrites =
    (order : Order) (old : NodeState) (total : ℕ) (answer : Result (Unit {0}) KernelFault) (new : NodeState) → IsNode old → Moves order old total answer new
    → (writes : List Event) × AllByRecursion IsOneWrite writes × Run old (Begin order (Ok (Plan total)) ∷ writes) new

-- in turn each of them is a step
abbrev pub IsOneStep : Event → Type 0
IsOneStep (StepOn answer) = Unit {0}
IsOneStep event = ⊥

-- so a rebalance in turn leaves what `begin` and then steps alone leave
abbrev pub RebalancesAreSteps : Type 0
RebalancesAreSteps =
    (old : NodeState) (total : ℕ) (answer : Result (Unit {0}) KernelFault) (new : NodeState) → IsNode old → Moves InTurn old total answer new
    → (steps : List Event) × AllByRecursion IsOneStep steps × Run old (Begin InTurn (Ok (Plan total)) ∷ steps) new

-- a write of a direct hand-over squeezes only one that is stuck in a ring, and each container keeps what it has of its target
pub record GoesDirectly (o : Ongoing) (old new : NodeState) : Type 0 where
  pub stuck : SqueezesOnlyStuck (directed_of o) (least_cores old.machine) old.kernel new.kernel
  pub way : AreOnWay (directed_of o) old.kernel new.kernel

-- so it is after each
abbrev pub DirectWritesKeep : Type 0
DirectWritesKeep = (old new : NodeState) (o : Ongoing) → IsNode old → Step old WriteOn new → old.ongoing ≡ Some o → o.order ≡ Directly → GoesDirectly o old new

-- after any list of them a rebalance leaves what the headline says of its answer. With it stand what the certificate tells
-- and what a failed write leaves.
abbrev pub RunsRebalance : Type 0
RunsRebalance =
    (first : NodeState) (events : List Event) (order : Order) (old : NodeState) (answer : Result Outcome (OrMemory NodeFault)) (new : NodeState)
    → IsNode first → Run first events old → Rebalances order old answer new → RebalanceLeaves order old answer new
