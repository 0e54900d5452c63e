-- What plans beside strangers give to whom: to nobody a CPU that a stranger holds.
use Rattle.std.specs.Prelude.{◌≡◌, ℕ, Bool, true, List, ◌++◌, Contains, Option, Some, None, Result, codes}
use Rattle.std.specs.List.{AllByRecursion}
use Rattle.std.specs.FinSet as set
use Rattle.cpu_set.specs.Ids.{Ids, IsDisjoint}
use Rattle.faults.specs.declared.or_memory.OrMemory.{OrMemory}
use Rattle.certificate.specs.RowView.{RowView}
use Rattle.certificate.specs.PricesView.{PricesView}
use Rattle.certificate.specs.declared.weights.Weights.{Weights}
use Rattle.certificate.specs.declared.certificates.Certificate.TheVariants as certificate
use Rattle.cgroup_tree.specs.Asked.{Stranger}
use Rattle.kernel_model.specs.KernelState.{KernelState}
use Rattle.node.specs.declared.fault.NodeFault.{NodeFault}
use Rattle.node.specs.declared.outcome.Outcome.{Outcome}
use Rattle.node.specs.declared.outcome.Outcome.TheVariants.{Plan}
use Rattle.node.specs.IsNode.{IsNode}
use Rattle.node.specs.NodeState.{ContainerState, NodeState}
use Rattle.node.specs.RebalanceLeaves.{RebalanceLeaves}
use Rattle.node.specs.Rows.{as_cpus, requested_by}
use Rattle.node.specs.Status.{is_live}
use Rattle.script.specs.Commands.{Asked}
use Rattle.script.specs.Commands as ask
use Rattle.script.specs.Lines.{line_kept, words_of}
use Rattle.script.specs.Requests.{Wanted, asks, request_of}
use Rattle.script.specs.Runs.{Runs}
use Rattle.runtime.specs.AnswerTexts.{of_either, answer_text}
use Rattle.runtime.specs.Answered.{order_of}
use Rattle.runtime.specs.OutcomeTexts.{outcome_text}
use Rattle.runtime.specs.RuntimeState.{RuntimeState, Told}
use Rattle.strangers.specs.GuardState.{GuardState}
use Rattle.strangers.specs.Guarded.{Guards, away, back, held, withheld}

-- what was worked out last is a plan. None of its sets, which the lines `hold` name, has one of these CPUs; nor has the pool.
pub record KeepsOff (cpus : Ids) (n : NodeState) : Type 0 where
  pub rows : List RowView
  pub plan : List Ids
  pub prices : PricesView
  pub whole : ℕ
  pub weights : Weights
  pub last : n.last ≡ Some (certificate.Plan rows plan prices whole weights)
  pub holds : AllByRecursion (IsDisjoint cpus) (as_cpus n.machine plan)
  pub pool : IsDisjoint cpus n.pool

-- the CPUs that strangers hold, but for the reserved ones, which belong to no container
abbrev pub own_of_strangers : GuardState → Ids
own_of_strangers g = set.difference (held g.strangers) g.runtime.node.kernel.reserved

-- a container requests none of these CPUs while it is live
abbrev pub RequestsNone : Ids → KernelState → List ℕ × ContainerState → Type 0
RequestsNone cpus k e = is_live k e.1 ≡ true → IsDisjoint cpus (requested_by k e)

-- what a line asks for has to do with a folder of this name: it lets go of it, or asks for a container of that name
abbrev pub IsAbout : Wanted → List ℕ → Type 0
IsAbout (asks (ask.forget id)) name = id ≡ name
IsAbout (asks (ask.create id bundle)) name = id ≡ name
IsAbout (asks (ask.adopt id bundle list)) name = id ≡ name
IsAbout wanted name = ⊥

-- so it is with a line
abbrev pub LineIsAbout : List ℕ → Option (List ℕ) → Type 0
LineIsAbout name (Some line) = IsAbout (request_of (words_of line)) name
LineIsAbout name None = ⊥

module _ (sees : Told → List ℕ → Option (List ℕ) → Type 0) where
  -- a line's answer that begins with `plan total` is the text of a plan that gives nobody a CPU that a stranger holds
  abbrev pub PlanKeepsOff : Asked → Type 0
  PlanKeepsOff command = (old new : GuardState) (more : List ℕ) → Guards sees old command (codes "plan total " ++ more) new
      → (total : ℕ) × (codes "plan total " ++ more ≡ outcome_text new.runtime.node (Plan total)) × KeepsOff (own_of_strangers old) new.runtime.node

  -- so it is with each line that plans
  pub record PlansKeepOff : Type 0 where
    pub rebalance : (direct : Bool) → PlanKeepsOff (ask.rebalance direct)
    pub begin : (direct : Bool) → PlanKeepsOff (ask.begin direct)

  -- behind a rebalance that answers a plan no live container requests a CPU that a stranger holds
  abbrev pub RequestsKeepOff : Type 0
  RequestsKeepOff = (direct : Bool) (old new : GuardState) (more : List ℕ) → IsNode old.runtime.node → Guards sees old (ask.rebalance direct) (codes "plan total " ++ more) new
      → AllByRecursion (RequestsNone (own_of_strangers old) new.runtime.node.kernel) new.runtime.node.containers

  -- a stranger stays one, with the CPUs that it held, until a line has to do with its name
  abbrev pub StrangersStay : Type 0
  StrangersStay = (stranger : Stranger) (old new : GuardState) (lines : List (List ℕ)) (text : List ℕ) → Contains old.strangers stranger
      → AllByRecursion (λ line. LineIsAbout stranger.0 (line_kept line) → ⊥) lines → Runs (Guards sees) old lines text new → Contains new.strangers stranger

  -- a rebalance beside strangers leaves what the headline says, of the machine without the CPUs that they hold; with what the
  -- certificate tells and what a failed write leaves. Its answer is the text of that. Then these CPUs come online.
  abbrev pub RebalancesAwayAreTold : Type 0
  RebalancesAwayAreTold = (direct : Bool) (old new : GuardState) (text : List ℕ) → IsNode old.runtime.node → Guards sees old (ask.rebalance direct) text new
      → (r : Result Outcome (OrMemory NodeFault)) × (last : RuntimeState)
      × RebalanceLeaves (order_of direct) (away old.runtime (withheld old)).node r last.node
      × (text ≡ answer_text (outcome_text last.node) of_either r) × (new.runtime ≡ back last (withheld old))
