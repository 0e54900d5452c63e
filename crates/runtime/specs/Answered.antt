-- What a runtime may answer each command of a script, and what it is then.
use Rattle.std.specs.Prelude.{◌≡◌, ◌≢◌, ◌⊎◌, ℕ, Bool, true, false, List, ◌++◌, Option, Some, None, Result, Ok, Err, codes, String, string_bytes}
use Rattle.std.specs.FinSet as set
use Rattle.std.specs.declared.alloc.Global.{Global}
use Rattle.cpu_set.specs.Ids.{Ids}
use Rattle.cpu_set.specs.declared.TheConstants.{CPU_LIMIT}
use Rattle.cpu_list.specs.FirstFault.{first_fault}
use Rattle.cpu_list.specs.ListText.{IsSetOf}
use Rattle.certificate.specs.declared.certificates.Certificate.{Certificate}
use Rattle.certificate_text.specs.Written.{text_of}
use Rattle.apply_plan.specs.declared.Progress.{Progress}
use Rattle.faults.specs.declared.or_memory.OrMemory.{OrMemory}
use Rattle.kernel_model.specs.declared.fault.KernelFault.{KernelFault}
use Rattle.kernel_model.specs.Cases.{Forks, Exits, GoesOffline, ComesOnline}
use Rattle.node.specs.declared.fault.NodeFault.{NodeFault}
use Rattle.node.specs.declared.sets.Sets.{Sets}
use Rattle.node.specs.declared.order.Order.{Order}
use Rattle.node.specs.declared.order.Order.TheVariants.{InTurn, Directly}
use Rattle.node.specs.declared.outcome.Outcome.{Outcome}
use Rattle.node.specs.NodeState.{NodeState}
use Rattle.node.specs.Calls.{Creates, Adopts, Starts, Kills, Deletes}
use Rattle.node.specs.Updates.{Updates}
use Rattle.node.specs.Rebalance.{Begins, StepsOn, Rebalances, ShowsCertificate}
use Rattle.node.specs.Written.{CreateWrites}
use Rattle.node.specs.Machine.{InKernel}
use Rattle.node.specs.Sets.{HasSets}
use Rattle.node.specs.Listed.{listing}
use Rattle.node.specs.Shown.{Shows}
use Rattle.script.specs.Commands.{Asked}
use Rattle.script.specs.Commands as ask
use Rattle.runtime.specs.RuntimeState.{RuntimeState, Told}
use Rattle.runtime.specs.Found.{IsFound, IsSeen}
use Rattle.runtime.specs.RefusalLine.{refusal_line}
use Rattle.runtime.specs.OutcomeTexts.{outcome_text, progress_line}
use Rattle.runtime.specs.AnswerTexts.{of_either, of_kernel, of_kernel_fault, answer_text, done_line, pid_line, sets_line, listing_text, phase_line}
use Rattle.runtime.specs.declared.refusal.Refusal.{Refusal}
use Rattle.runtime.specs.declared.refusal.Refusal.TheVariants.{Memory, Node, BadSet, NoCpus, NoStranger, NoBundle}

-- a container of the bundle whose config was found, with at most so many writes where the kernel refuses it; or there is no
-- such bundle
abbrev pub AnswersFound : NodeState → List ℕ → List ℕ → Option (List ℕ) → List ℕ → NodeState → Type 0
AnswersFound old id bundle None text new = (text ≡ refusal_line NoBundle) × (new ≡ old)
AnswersFound old id bundle (Some config) text new =
    (r : Result ℕ (OrMemory NodeFault)) × Creates old id bundle config r new × CreateWrites old id r new × (text ≡ answer_text pid_line of_either r)

-- an allocation for the bundle's config failed
abbrev pub WantsMemory : NodeState → List ℕ → NodeState → Type 0
WantsMemory old text new = (text ≡ refusal_line Memory) × (new ≡ old)

-- by what may be found of a bundle
abbrev pub AnswersCreate : (List ℕ → Option (List ℕ) → Type 0) → NodeState → List ℕ → List ℕ → List ℕ → NodeState → Type 0
AnswersCreate finds old id bundle text new =
    WantsMemory old text new ⊎ ((found : Option (List ℕ)) × finds bundle found × AnswersFound old id bundle found text new)

-- the CPUs that the list of an `adopt` names; or why the command refuses it: it is no list, or it names none
abbrev pub NamesCpus : List ℕ → Result Ids Refusal → Type 0
NamesCpus list (Ok cpus) = (first_fault CPU_LIMIT list ≡ None) × IsSetOf list cpus × (cpus ≢ set.empty)
NamesCpus list (Err (BadSet error)) = first_fault CPU_LIMIT list ≡ Some error
NamesCpus list (Err NoCpus) = (first_fault CPU_LIMIT list ≡ None) × IsSetOf list set.empty
NamesCpus list (Err why) = ⊥

-- a container of the config that has these CPUs already, with at most so many writes where the kernel refuses it
abbrev pub AnswersNamed : NodeState → List ℕ → List ℕ → List ℕ → Result Ids Refusal → List ℕ → NodeState → Type 0
AnswersNamed old id bundle config (Ok cpus) text new =
    (r : Result ℕ (OrMemory NodeFault)) × Adopts old id bundle config cpus r new × CreateWrites old id r new × (text ≡ answer_text pid_line of_either r)
AnswersNamed old id bundle config (Err why) text new = (text ≡ refusal_line why) × (new ≡ old)

-- of the bundle whose config was found; or there is no such bundle
abbrev pub AnswersTaken : NodeState → List ℕ → List ℕ → List ℕ → Option (List ℕ) → List ℕ → NodeState → Type 0
AnswersTaken old id bundle list None text new = (text ≡ refusal_line NoBundle) × (new ≡ old)
AnswersTaken old id bundle list (Some config) text new =
    (cpus : Result Ids Refusal) × NamesCpus list cpus × AnswersNamed old id bundle config cpus text new

abbrev pub AnswersAdopt : (List ℕ → Option (List ℕ) → Type 0) → NodeState → List ℕ → List ℕ → List ℕ → List ℕ → NodeState → Type 0
AnswersAdopt finds old id bundle list text new =
    WantsMemory old text new ⊎ ((found : Option (List ℕ)) × finds bundle found × AnswersTaken old id bundle list found text new)

-- the config of a container, read again from the bundle whose config was found; or there is no such bundle
abbrev pub AnswersRead : NodeState → List ℕ → List ℕ → Option (List ℕ) → List ℕ → NodeState → Type 0
AnswersRead old id bundle None text new = (text ≡ refusal_line NoBundle) × (new ≡ old)
AnswersRead old id bundle (Some config) text new =
    (r : Result (Unit {0}) (OrMemory NodeFault)) × Updates old id bundle config r new × (text ≡ answer_text done_line of_either r)

abbrev pub AnswersUpdate : (List ℕ → Option (List ℕ) → Type 0) → NodeState → List ℕ → List ℕ → List ℕ → NodeState → Type 0
AnswersUpdate finds old id bundle text new =
    WantsMemory old text new ⊎ ((found : Option (List ℕ)) × finds bundle found × AnswersRead old id bundle found text new)

abbrev pub AnswersStart : NodeState → List ℕ → List ℕ → NodeState → Type 0
AnswersStart old id text new = (r : Result (Unit {0}) NodeFault) × Starts old id r new × (text ≡ answer_text done_line Node r)

abbrev pub AnswersKill : NodeState → List ℕ → List ℕ → List ℕ → NodeState → Type 0
AnswersKill old id signal text new = (r : Result (Unit {0}) NodeFault) × Kills old id signal r new × (text ≡ answer_text done_line Node r)

abbrev pub AnswersDelete : NodeState → List ℕ → List ℕ → NodeState → Type 0
AnswersDelete old id text new = (r : Result (Unit {0}) NodeFault) × Deletes old id r new × (text ≡ answer_text done_line Node r)

-- a text of the state, and a line feed
abbrev pub state_line : String Global → List ℕ
state_line text = string_bytes text ++ codes "\n"

abbrev pub AnswersState : NodeState → List ℕ → List ℕ → NodeState → Type 0
AnswersState old id text new =
    (r : Result (String Global) (OrMemory NodeFault)) × Shows old id r × (text ≡ answer_text state_line of_either r) × (new ≡ old)

abbrev pub AnswersList : NodeState → List ℕ → NodeState → Type 0
AnswersList old text new = (text ≡ listing_text (listing old)) × (new ≡ old)

abbrev pub AnswersSets : NodeState → List ℕ → List ℕ → NodeState → Type 0
AnswersSets old id text new = (r : Result Sets NodeFault) × HasSets old id r × (text ≡ answer_text sets_line Node r) × (new ≡ old)

abbrev pub AnswersPhase : NodeState → List ℕ → NodeState → Type 0
AnswersPhase old text new = (text ≡ phase_line old.phase) × (new ≡ old)

abbrev pub AnswersFork : NodeState → ℕ → List ℕ → NodeState → Type 0
AnswersFork old pid text new = (r : Result ℕ (OrMemory KernelFault))
    × Forks old.kernel pid r new.kernel × InKernel old new × (text ≡ answer_text pid_line of_kernel r)

abbrev pub AnswersExit : NodeState → ℕ → List ℕ → NodeState → Type 0
AnswersExit old pid text new = (r : Result (Unit {0}) KernelFault)
    × Exits old.kernel pid r new.kernel × InKernel old new × (text ≡ answer_text done_line of_kernel_fault r)

abbrev pub AnswersOffline : NodeState → ℕ → List ℕ → NodeState → Type 0
AnswersOffline old cpu text new = (r : Result (Unit {0}) KernelFault)
    × GoesOffline old.kernel cpu r new.kernel × InKernel old new × (text ≡ answer_text done_line of_kernel_fault r)

abbrev pub AnswersOnline : NodeState → ℕ → List ℕ → NodeState → Type 0
AnswersOnline old cpu text new = (r : Result (Unit {0}) KernelFault)
    × ComesOnline old.kernel cpu r new.kernel × InKernel old new × (text ≡ answer_text done_line of_kernel_fault r)

-- the order of a hand-over, by whether it is asked for directly
abbrev pub order_of : Bool → Order
order_of false = InTurn
order_of true = Directly

abbrev pub AnswersRebalance : Bool → NodeState → List ℕ → NodeState → Type 0
AnswersRebalance direct old text new = (r : Result Outcome (OrMemory NodeFault)) × Rebalances (order_of direct) old r new × (text ≡ answer_text (outcome_text new) of_either r)

abbrev pub AnswersBegin : Bool → NodeState → List ℕ → NodeState → Type 0
AnswersBegin direct old text new = (r : Result Outcome (OrMemory NodeFault)) × Begins (order_of direct) old r new × (text ≡ answer_text (outcome_text new) of_either r)

abbrev pub AnswersStep : NodeState → List ℕ → NodeState → Type 0
AnswersStep old text new = (r : Result Progress NodeFault) × StepsOn old r new × (text ≡ answer_text progress_line Node r)

abbrev pub AnswersCertificate : NodeState → List ℕ → NodeState → Type 0
AnswersCertificate old text new =
    (r : Result Certificate NodeFault) × ShowsCertificate old r × (text ≡ answer_text text_of Node r) × (new ≡ old)

-- a node alone knows of no group but its containers'
abbrev pub AnswersForget : NodeState → List ℕ → NodeState → Type 0
AnswersForget old text new = (text ≡ refusal_line NoStranger) × (new ≡ old)

-- which text answers a command, and what the runtime is then: an answer that the node's own call may give, as its text
abbrev pub AnswersBy : (List ℕ → Option (List ℕ) → Type 0) → NodeState → Asked → List ℕ → NodeState → Type 0
AnswersBy finds old (ask.create id bundle) text new = AnswersCreate finds old id bundle text new
AnswersBy finds old (ask.adopt id bundle list) text new = AnswersAdopt finds old id bundle list text new
AnswersBy finds old (ask.update id bundle) text new = AnswersUpdate finds old id bundle text new
AnswersBy finds old (ask.start id) text new = AnswersStart old id text new
AnswersBy finds old (ask.kill id signal) text new = AnswersKill old id signal text new
AnswersBy finds old (ask.delete id) text new = AnswersDelete old id text new
AnswersBy finds old (ask.forget id) text new = AnswersForget old text new
AnswersBy finds old (ask.state id) text new = AnswersState old id text new
AnswersBy finds old ask.list text new = AnswersList old text new
AnswersBy finds old (ask.sets id) text new = AnswersSets old id text new
AnswersBy finds old (ask.rebalance direct) text new = AnswersRebalance direct old text new
AnswersBy finds old (ask.begin direct) text new = AnswersBegin direct old text new
AnswersBy finds old ask.step text new = AnswersStep old text new
AnswersBy finds old ask.phase text new = AnswersPhase old text new
AnswersBy finds old ask.certificate text new = AnswersCertificate old text new
AnswersBy finds old (ask.fork pid) text new = AnswersFork old pid text new
AnswersBy finds old (ask.exit pid) text new = AnswersExit old pid text new
AnswersBy finds old (ask.offline cpu) text new = AnswersOffline old cpu text new
AnswersBy finds old (ask.online cpu) text new = AnswersOnline old cpu text new

-- the text answers a command where this may be seen of a bundle, by what is told of all of them; what is told stays
abbrev pub AnsweredWhere : (Told → List ℕ → Option (List ℕ) → Type 0) → RuntimeState → Asked → List ℕ → RuntimeState → Type 0
AnsweredWhere sees old command text new = AnswersBy (sees old.told) old.node command text new.node × (new ≡ record old { node = new.node })

-- the text answers a command by what is told of the bundles
abbrev pub Answered : RuntimeState → Asked → List ℕ → RuntimeState → Type 0
Answered = AnsweredWhere IsFound

-- the text answers a command by what is told of the bundles and what looks at them may find
abbrev pub AnsweredBy : (List ℕ → Option (List ℕ) → Type 0) → RuntimeState → Asked → List ℕ → RuntimeState → Type 0
AnsweredBy finds = AnsweredWhere (IsSeen finds)
