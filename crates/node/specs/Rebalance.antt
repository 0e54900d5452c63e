-- Plans and the hand-overs to them, each call a relation by cases on what it answers.
use Rattle.std.specs.Prelude.{◌≡◌, ◌*◌, ℕ, true, false, List, Option, Some, None, Result, Ok, Err}
use Rattle.std.specs.FinSet as set
use Rattle.cpu_set.specs.Ids.{Ids}
use Rattle.cpu_set.specs.Members.{InRange}
use Rattle.machine.specs.Cores.{cpus_of_cores}
use Rattle.machine.specs.Layout.{Layout}
use Rattle.certificate.specs.RowView.{RowView}
use Rattle.certificate.specs.PricesView.{PricesView}
use Rattle.certificate.specs.IsLeast.{IsLeast}
use Rattle.certificate.specs.IsShortage.{asked, chosen, is_offered}
use Rattle.certificate.specs.Packed.{distance_of}
use Rattle.certificate.specs.declared.weights.Weights.TheVariants.{WithMoves}
use Rattle.certificate.specs.Verdict.{AreParts}
use Rattle.certificate.specs.declared.certificates.Certificate.{Certificate}
use Rattle.certificate.specs.declared.certificates.Certificate.TheVariants as certificate
use Rattle.kernel_model.specs.declared.KernelFault.{KernelFault}
use Rattle.faults.specs.declared.OrMemory.{OrMemory}
use Rattle.faults.specs.declared.OrMemory.TheVariants.{Memory, Fault}
use Rattle.apply_plan.specs.declared.Progress.{Progress}
use Rattle.apply_plan.specs.declared.Progress.TheVariants.{More, Done}
use Rattle.solution.specs.Decides.{DecidesPlan, DecidesShort}
use Rattle.node.specs.declared.fault.NodeFault.{NodeFault}
use Rattle.node.specs.declared.fault.NodeFault.TheVariants.{Busy, NoHandover, NoAnswer, Kernel}
use Rattle.node.specs.declared.order.Order.{Order}
use Rattle.node.specs.declared.outcome.Outcome.{Outcome}
use Rattle.node.specs.declared.outcome.Outcome.TheVariants.{Plan, Short}
use Rattle.node.specs.declared.phase.Phase.{Phase}
use Rattle.node.specs.declared.phase.Phase.TheVariants.{Settled, Underway, Unsettled}
use Rattle.node.specs.NodeState.{Ongoing, NodeState, is_underway}
use Rattle.node.specs.IsNode.{IsKept}
use Rattle.node.specs.Rows.{as_cpus, rows_of, scaled_rows_of, planned, lacking}
use Rattle.node.specs.Best.{moved, IsBest}
use Rattle.node.specs.Entries.{plan_pool, opened}
use Rattle.node.specs.Orders.{StepsBy, WritesBy, MissesBy, FinishesBy}

-- what a node's scaled rows come to as a plan of cores. Their CPUs are the best sets that the containers could have. It is a
-- least plan of these rows, with the cores' distance and their moves as its total.
pub record IsAnswer (n : NodeState) (rows : List RowView) (plan : List Ids) (prices : PricesView) (whole : ℕ) : Type 0 where
  pub rows_are : rows ≡ scaled_rows_of n
  pub decides : DecidesPlan rows plan prices whole
  pub least : IsLeast (rows_of n) plan
  pub best : IsBest n (distance_of whole * n.machine.threads) (as_cpus n.machine plan)
  pub parts : AreParts whole (distance_of whole) (moved n (as_cpus n.machine plan))

-- what a node's scaled rows come to: such a plan, or a shortage of them
abbrev pub ComesTo : NodeState → Certificate → Type 0
ComesTo n (certificate.Plan rows plan prices whole weights) = (weights ≡ WithMoves) × IsAnswer n rows plan prices whole
ComesTo n (certificate.Short rows members weights) = (weights ≡ WithMoves) × (rows ≡ scaled_rows_of n) × DecidesShort rows members

-- a plan was made. Its cores' CPUs are the best sets that the containers could have. The cores are a least plan of the rows
-- and of the scaled rows, whose certificate can be written and proves itself. The total is the cores' distance, for each CPU
-- that a core has. The hand-over to the CPUs is open, in this order, and nothing is written yet.
pub record Begun (order : Order) (old : NodeState) (total : ℕ) (new : NodeState) : Type 0 where
  pub plan : List Ids
  pub prices : PricesView
  pub whole : ℕ
  pub distance : ℕ
  pub settled : is_underway old.phase ≡ false
  pub best : IsBest old total (as_cpus old.machine plan)
  pub least : IsLeast (rows_of old) plan
  pub decides : DecidesPlan (scaled_rows_of old) plan prices whole
  pub parts : AreParts whole distance (moved old (as_cpus old.machine plan))
  pub counts : total ≡ distance * old.machine.threads
  pub kept : IsKept (planned old plan prices whole)
  pub is : new ≡ record old {
    pool = plan_pool old (as_cpus old.machine plan);
    phase = Underway;
    ongoing = Some (opened order old (as_cpus old.machine plan));
    last = Some (planned old plan prices whole);
  }

-- how many CPUs the members of a shortage ask for together, and those of the cores that one of them may get
pub record IsNeed (m : Layout) (rows : List RowView) (members : List ℕ) (wanted : ℕ) (allowed : Ids) : Type 0 where
  pub cores : Ids
  pub asks : wanted ≡ asked (chosen rows members) * m.threads
  pub has : (core : ℕ) → set.contains cores core ≡ is_offered (chosen rows members) core
  pub in_range : InRange cores
  pub is : allowed ≡ cpus_of_cores m cores

-- a shortage of the rows: what its members ask for, and what they are allowed; nothing else changes
pub record Lacks (old : NodeState) (wanted : ℕ) (allowed : Ids) (new : NodeState) : Type 0 where
  pub members : List ℕ
  pub settled : is_underway old.phase ≡ false
  pub decides : DecidesShort (scaled_rows_of old) members
  pub kept : IsKept (lacking old members)
  pub need : IsNeed old.machine (scaled_rows_of old) members wanted allowed
  pub is : new ≡ record old { last = Some (lacking old members) }

-- `begin`, or `begin_directly`, by the order: what it answers, and what the node is then
abbrev pub Begins : Order → NodeState → Result Outcome (OrMemory NodeFault) → NodeState → Type 0
Begins order old (Ok (Plan total)) new = Begun order old total new
Begins order old (Ok (Short wanted allowed)) new = Lacks old wanted allowed new
Begins order old (Err Memory) new = (is_underway old.phase ≡ false) × (new ≡ old)
Begins order old (Err (Fault Busy)) new = (is_underway old.phase ≡ true) × (new ≡ old)
Begins order old (Err (Fault fault)) new = ⊥

-- the same where no hand-over is open, as the program asks for it; only memory can be wanting
abbrev pub WorksOut : {E : Type 0} → Order → NodeState → Result Outcome E → NodeState → Type 0
WorksOut order old (Ok outcome) new = Begins order old (Ok outcome) new
WorksOut order old (Err e) new = new ≡ old

-- a step of the hand-over that is open, in its order, and how it stands then
pub record Stepped (old : NodeState) (r : Result Progress KernelFault) (phase : Phase) (ongoing : Option Ongoing) (new : NodeState) : Type 0 where
  pub handover : Ongoing
  pub was : old.ongoing ≡ Some handover
  pub steps : StepsBy handover.order old.machine handover old.kernel r new.kernel
  pub is : new ≡ record old { kernel = new.kernel; phase = phase; ongoing = ongoing }

-- `step`: the write that is due; the hand-over ends if nothing is due after it, or if the write failed
abbrev pub StepsOn : NodeState → Result Progress NodeFault → NodeState → Type 0
StepsOn old (Ok More) new = Stepped old (Ok More) old.phase old.ongoing new
StepsOn old (Ok Done) new = Stepped old (Ok Done) Settled None new
StepsOn old (Err (Kernel fault)) new = Stepped old (Err fault) Unsettled None new
StepsOn old (Err NoHandover) new = (is_underway old.phase ≡ false) × (new ≡ old)
StepsOn old (Err fault) new = ⊥

-- one of the writes of the open hand-over that a rebalance makes, but for the one that ends it
pub record Writes (old new : NodeState) : Type 0 where
  pub handover : Ongoing
  pub was : old.ongoing ≡ Some handover
  pub writes : WritesBy handover.order old.machine handover old.kernel new.kernel
  pub is : new ≡ record old { kernel = new.kernel }

-- one of them that fails, by which the hand-over ends
pub record Misses (old : NodeState) (fault : KernelFault) (new : NodeState) : Type 0 where
  pub handover : Ongoing
  pub was : old.ongoing ≡ Some handover
  pub misses : MissesBy handover.order old.machine handover old.kernel fault new.kernel
  pub is : new ≡ record old { kernel = new.kernel; phase = Unsettled; ongoing = None }

-- how a hand-over stands after its writes
abbrev pub phase_after : Result (Unit {0}) KernelFault → Phase
phase_after (Ok _) = Settled
phase_after (Err fault) = Unsettled

-- all writes of the open hand-over at once, in its order, up to its end or to one that fails
pub record Finishes (old : NodeState) (r : Result (Unit {0}) KernelFault) (new : NodeState) : Type 0 where
  pub handover : Ongoing
  pub was : old.ongoing ≡ Some handover
  pub makes : FinishesBy handover.order old.machine handover old.kernel r new.kernel
  pub is : new ≡ record old { kernel = new.kernel; phase = phase_after r; ongoing = None }

-- `begin` in this order, and the writes of its hand-over until it ends
pub record Moves (order : Order) (old : NodeState) (total : ℕ) (r : Result (Unit {0}) KernelFault) (new : NodeState) : Type 0 where
  pub mid : NodeState
  pub begun : Begun order old total mid
  pub finishes : Finishes mid r new

-- `rebalance`, or `rebalance_directly`, by the order: what `begin` and the writes of its hand-over leave, up to its end
abbrev pub Rebalances : Order → NodeState → Result Outcome (OrMemory NodeFault) → NodeState → Type 0
Rebalances order old (Ok (Plan total)) new = Moves order old total (Ok tt) new
Rebalances order old (Ok (Short wanted allowed)) new = Lacks old wanted allowed new
Rebalances order old (Err (Fault (Kernel fault))) new = (total : ℕ) × Moves order old total (Err fault) new
Rebalances order old (Err error) new = Begins order old (Err error) new

-- `certificate`: what was worked out last
abbrev pub ShowsCertificate : NodeState → Result Certificate NodeFault → Type 0
ShowsCertificate n (Ok c) = n.last ≡ Some c
ShowsCertificate n (Err fault) = (fault ≡ NoAnswer) × (n.last ≡ None)
