-- What a script does to the node: a list of its calls and events.
use Rattle.std.proofs.Common.{◌≡◌, ◌⊎◌, ℕ, ◌≤◌, Bool, List, [], ◌∷◌, ◌++◌, length, length-append, Option, Some, None, Result, Ok, Err, inl, inr, codes, get_or, refl, sym, ap, subst, ◌∙◌, arith, append_assoc}
use Rattle.faults.specs.declared.or_memory.OrMemory.{OrMemory}
use Rattle.std.specs.Prelude.{String}
use Rattle.cpu_set.specs.Ids.{Ids}
use Rattle.std.specs.declared.alloc.Global.{Global}
use Rattle.certificate.specs.declared.certificates.Certificate.{Certificate}
use Rattle.certificate_text.specs.Written.{text_of}
use Rattle.apply_plan.specs.declared.Progress.{Progress}
use Rattle.kernel_model.specs.declared.fault.KernelFault.{KernelFault}
use Rattle.node.specs.declared.container.Status.{Status}
use Rattle.node.specs.declared.phase.Phase.{Phase}
use Rattle.node.specs.declared.sets.Sets.{Sets}
use Rattle.node.specs.declared.fault.NodeFault.{NodeFault}
use Rattle.node.specs.declared.outcome.Outcome.{Outcome}
use Rattle.node.specs.declared.outcome.Outcome.TheVariants.{Plan, Short}
use Rattle.node.specs.Asking.{ShortStands}
use Rattle.node.specs.Headline.{IsShort}
use Rattle.node.specs.Tells.{TellsShortage}
use Rattle.node.specs.RebalanceLeaves.{RebalanceLeaves}
use Rattle.node.specs.IsNode.{IsNode}
use Rattle.node.specs.Listed.{listing}
use Rattle.node.specs.NodeState.{NodeState}
use Rattle.node.specs.Rebalance.{Begins, Begun}
use Rattle.node.specs.Machine.{Event, Create, Adopt, Update, Start, Kill, Delete, Rebalance, Begin, StepOn, WriteOn, MissOn, Ask, Fork, Exit, Offline, Online, Step, Run, RunsRebalance}
use Rattle.node.specs.Questions.{Question, State, ListAll, SetsOf, Pool, PhaseIs, ShowCertificate}
use Rattle.script.specs.Commands.{Asked}
use Rattle.script.specs.Commands as ask
use Rattle.script.specs.Lines.{line_kept, words_of}
use Rattle.script.specs.Requests.{Wanted, nothing, bad, asks, request_of}
use Rattle.script.specs.Runs.{AnswersLine, AnswersRequest, Runs}
use Rattle.runtime.specs.AnswerTexts.{of_either, of_kernel, of_kernel_fault, answer_text, done_line, pid_line, set_text, sets_line, listing_text, phase_line}
use Rattle.runtime.specs.Answered.{Answered, AnsweredWhere, AnswersBy, NamesCpus, order_of, state_line}
use Rattle.runtime.specs.Found.{IsFound}
use Rattle.runtime.specs.OutcomeTexts.{outcome_text, progress_line}
use Rattle.runtime.specs.RefusalLine.{refusal_line}
use Rattle.runtime.specs.RuntimeState.{RuntimeState, Told}
use Rattle.runtime.specs.declared.refusal.Refusal.{Refusal}
use Rattle.runtime.specs.declared.refusal.Refusal.TheVariants.{Memory, Node, NoStranger, NoBundle}

-- the text of what a question was answered
abbrev pub question_text : Question → List ℕ
question_text (State id answer) = answer_text state_line of_either answer
question_text (ListAll answer) = listing_text answer
question_text (SetsOf id answer) = answer_text sets_line Node answer
question_text (Pool answer) = set_text answer
question_text (PhaseIs answer) = phase_line answer
question_text (ShowCertificate answer) = answer_text text_of Node answer

-- the text of what a call or an event answered, in the node that it left
abbrev pub event_text : NodeState → Event → List ℕ
event_text new (Create id bundle config answer) = answer_text pid_line of_either answer
event_text new (Adopt id bundle config cpus answer) = answer_text pid_line of_either answer
event_text new (Update id bundle config answer) = answer_text done_line of_either answer
event_text new (Start id answer) = answer_text done_line Node answer
event_text new (Kill id signal answer) = answer_text done_line Node answer
event_text new (Delete id answer) = answer_text done_line Node answer
event_text new (Rebalance order answer) = answer_text (outcome_text new) of_either answer
event_text new (Begin order answer) = answer_text (outcome_text new) of_either answer
event_text new (StepOn answer) = answer_text progress_line Node answer
event_text new WriteOn = []
event_text new (MissOn fault) = []
event_text new (Ask question) = question_text question
event_text new (Fork parent answer) = answer_text pid_line of_kernel answer
event_text new (Exit pid answer) = answer_text done_line of_kernel_fault answer
event_text new (Offline cpu answer) = answer_text done_line of_kernel_fault answer
event_text new (Online cpu answer) = answer_text done_line of_kernel_fault answer

-- what may be seen of a bundle: its config, or none
abbrev pub Sees : Type 1
Sees = List ℕ → Option (List ℕ) → Type 0

-- the call or event that a command asks for. Of a `create`, an `adopt` or an `update` it has the config that is found of the
-- bundle. Of an `adopt` it has the CPUs that the list names.
abbrev pub IsFor : Sees → Asked → Event → Type 0
IsFor sees (ask.create id bundle) event =
    (config : List ℕ) × (answer : Result ℕ (OrMemory NodeFault)) × sees bundle (Some config) × (event ≡ Create id bundle config answer)
IsFor sees (ask.adopt id bundle list) event =
    (config : List ℕ) × (cpus : Ids) × (answer : Result ℕ (OrMemory NodeFault)) × sees bundle (Some config) × NamesCpus list (Ok cpus)
    × (event ≡ Adopt id bundle config cpus answer)
IsFor sees (ask.update id bundle) event =
    (config : List ℕ) × (answer : Result (Unit {0}) (OrMemory NodeFault)) × sees bundle (Some config) × (event ≡ Update id bundle config answer)
IsFor sees (ask.start id) event = (answer : Result (Unit {0}) NodeFault) × (event ≡ Start id answer)
IsFor sees (ask.kill id signal) event = (answer : Result (Unit {0}) NodeFault) × (event ≡ Kill id signal answer)
IsFor sees (ask.delete id) event = (answer : Result (Unit {0}) NodeFault) × (event ≡ Delete id answer)
IsFor sees (ask.forget id) event = ⊥
IsFor sees (ask.state id) event = (answer : Result (String Global) (OrMemory NodeFault)) × (event ≡ Ask (State id answer))
IsFor sees ask.list event = (answer : List (List ℕ × Status)) × (event ≡ Ask (ListAll answer))
IsFor sees (ask.sets id) event = (answer : Result Sets NodeFault) × (event ≡ Ask (SetsOf id answer))
IsFor sees (ask.rebalance direct) event = (answer : Result Outcome (OrMemory NodeFault)) × (event ≡ Rebalance (order_of direct) answer)
IsFor sees (ask.begin direct) event = (answer : Result Outcome (OrMemory NodeFault)) × (event ≡ Begin (order_of direct) answer)
IsFor sees ask.step event = (answer : Result Progress NodeFault) × (event ≡ StepOn answer)
IsFor sees ask.phase event = (answer : Phase) × (event ≡ Ask (PhaseIs answer))
IsFor sees ask.certificate event = (answer : Result Certificate NodeFault) × (event ≡ Ask (ShowCertificate answer))
IsFor sees (ask.fork pid) event = (answer : Result ℕ (OrMemory KernelFault)) × (event ≡ Fork pid answer)
IsFor sees (ask.exit pid) event = (answer : Result (Unit {0}) KernelFault) × (event ≡ Exit pid answer)
IsFor sees (ask.offline cpu) event = (answer : Result (Unit {0}) KernelFault) × (event ≡ Offline cpu answer)
IsFor sees (ask.online cpu) event = (answer : Result (Unit {0}) KernelFault) × (event ≡ Online cpu answer)

-- a command makes this one, once, and prints the text of its answer
pub record IsCall (sees : Sees) (command : Asked) (old : NodeState) (text : List ℕ) (new : NodeState) : Type 0 where
  pub event : Event
  pub its : IsFor sees command event
  pub step : Step old event new
  pub answer : text ≡ event_text new event

-- an allocation for the bundle's config failed, or no such bundle is found
abbrev pub FindsNone : Sees → List ℕ → List ℕ → Type 0
FindsNone sees bundle text = (text ≡ refusal_line Memory) ⊎ ((text ≡ refusal_line NoBundle) × sees bundle None)

-- so that a `create` or an `update` makes no call; nor does an `adopt` then, and where its list names no CPUs. A `forget` makes
-- none.
abbrev pub MakesNone : Sees → Asked → List ℕ → Type 0
MakesNone sees (ask.create id bundle) text = FindsNone sees bundle text
MakesNone sees (ask.adopt id bundle list) text =
    FindsNone sees bundle text ⊎ ((why : Refusal) × NamesCpus list (Err why) × (text ≡ refusal_line why))
MakesNone sees (ask.update id bundle) text = FindsNone sees bundle text
MakesNone sees (ask.forget id) text = text ≡ refusal_line NoStranger
MakesNone sees command text = ⊥

-- a command is refused with no call
abbrev pub IsNoCall : Sees → Asked → NodeState → List ℕ → NodeState → Type 0
IsNoCall sees command old text new = MakesNone sees command text × (new ≡ old)

-- a command is answered by the text of the call or event that it asks for, also of a call that only reads. Three exceptions
-- make no call. A `forget` is refused. The bundle of a `create`, an `adopt` or an `update` is not found, or an allocation for
-- its config failed. The list of an `adopt` names no CPUs.
abbrev pub CommandsAreCalls : (Told → Sees) → Type 0
CommandsAreCalls sees = (old new : RuntimeState) (command : Asked) (text : List ℕ) → AnsweredWhere sees old command text new
    → IsCall (sees old.told) command old.node text new.node ⊎ IsNoCall (sees old.told) command old.node text new.node

-- the calls and events that a command makes, one or none, and the text that it prints
abbrev pub CommandMakes : Sees → NodeState → Asked → List Event → List ℕ → NodeState → Type 0
CommandMakes sees old command events text new =
    ((call : IsCall sees command old text new) × (events ≡ call.event ∷ [])) ⊎ (IsNoCall sees command old text new × (events ≡ []))

-- a line that asks for nothing makes none and prints nothing; a bad one makes none and is refused
abbrev pub RequestMakes : Sees → NodeState → Wanted → List Event → List ℕ → NodeState → Type 0
RequestMakes sees old nothing events text new = (events ≡ []) × (text ≡ []) × (new ≡ old)
RequestMakes sees old bad events text new = (events ≡ []) × (text ≡ codes "refused E110 BadLine\n") × (new ≡ old)
RequestMakes sees old (asks command) events text new = CommandMakes sees old command events text new

-- what a line makes and prints; one that is too long makes none and is refused
abbrev pub LineMakes : Sees → NodeState → Option (List ℕ) → List Event → List ℕ → NodeState → Type 0
LineMakes sees old None events text new = (events ≡ []) × (text ≡ codes "refused E112 LineTooLong\n") × (new ≡ old)
LineMakes sees old (Some line) events text new = RequestMakes sees old (request_of (words_of line)) events text new

-- what lines make and print, one after another
abbrev pub LinesMake : Sees → NodeState → List (List ℕ) → List Event → List ℕ → NodeState → Type 0
LinesMake sees old [] events text new = (events ≡ []) × (text ≡ []) × (new ≡ old)
LinesMake sees old (line ∷ lines) events text new = (mid : NodeState) × (here later : List Event) × (first more : List ℕ)
    × LineMakes sees old (line_kept line) here first mid × LinesMake sees mid lines later more new
    × (events ≡ here ++ later) × (text ≡ first ++ more)

-- the lines make these calls and events, at most one a line, and print the text. These lead from the one node to the other,
-- and what is told of the bundles stays.
pub record AreCalls (sees : Told → Sees) (old : RuntimeState) (lines : List (List ℕ)) (text : List ℕ) (new : RuntimeState) : Type 0 where
  pub events : List Event
  pub made : LinesMake (sees old.told) old.node lines events text new.node
  pub few : length events ≤ length lines
  pub run : Run old.node events new.node
  pub told : new.told ≡ old.told

-- answered lines are calls and events in this way
abbrev pub LinesAreCalls : (Told → Sees) → Type 0
LinesAreCalls sees = (old new : RuntimeState) (lines : List (List ℕ)) (text : List ℕ) → Runs (AnsweredWhere sees) old lines text new → AreCalls sees old lines text new

-- whatever lines of a script over a node were answered before, a rebalance leaves what the headline says of an outcome or a
-- refusal. With it stand what the certificate tells and what a failed write leaves. Its answer is the text of that.
abbrev pub RebalancesAreTold : Type 0
RebalancesAreTold = (direct : Bool) (first old new : RuntimeState) (lines : List (List ℕ)) (text answer : List ℕ)
    → IsNode first.node → Runs Answered first lines text old → Answered old (ask.rebalance direct) answer new
    → (r : Result Outcome (OrMemory NodeFault)) × RebalanceLeaves (order_of direct) old.node r new.node × (answer ≡ answer_text (outcome_text new.node) of_either r)

-- an answer that begins with `plan total` is the text of a plan, and these hold of it
abbrev pub PlansAreTold : Type 0
PlansAreTold = (direct : Bool) (first old new : RuntimeState) (lines : List (List ℕ)) (text more : List ℕ)
    → IsNode first.node → Runs Answered first lines text old → Answered old (ask.rebalance direct) (codes "plan total " ++ more) new
    → (total : ℕ) × RebalanceLeaves (order_of direct) old.node (Ok (Plan total)) new.node × (codes "plan total " ++ more ≡ outcome_text new.node (Plan total))

-- an answer that begins with `short demand` is the text of a shortage, and they hold of it
abbrev pub ShortagesAreTold : Type 0
ShortagesAreTold = (direct : Bool) (first old new : RuntimeState) (lines : List (List ℕ)) (text more : List ℕ)
    → IsNode first.node → Runs Answered first lines text old → Answered old (ask.rebalance direct) (codes "short demand " ++ more) new
    → (wanted : ℕ) × (allowed : Ids) × RebalanceLeaves (order_of direct) old.node (Ok (Short wanted allowed)) new.node × (codes "short demand " ++ more ≡ outcome_text new.node (Short wanted allowed))

-- an answer to `begin` that begins with `plan total` is the text of the best plan that the containers could have, whose
-- hand-over is open
abbrev pub BegunAreTold : Type 0
BegunAreTold = (direct : Bool) (old new : RuntimeState) (more : List ℕ) → Answered old (ask.begin direct) (codes "plan total " ++ more) new
    → (total : ℕ) × Begun (order_of direct) old.node total new.node × (codes "plan total " ++ more ≡ outcome_text new.node (Plan total))

-- an answer to `begin` that begins with `short demand` is the text of a shortage. The certificate names live containers that
-- ask for CPUs of their own.
abbrev pub BegunShortAreTold : Type 0
BegunShortAreTold = (direct : Bool) (old new : RuntimeState) (more : List ℕ) → IsNode old.node → Answered old (ask.begin direct) (codes "short demand " ++ more) new
    → (wanted : ℕ) × (allowed : Ids) × IsShort old.node wanted allowed new.node × TellsShortage old.node wanted allowed new.node × (codes "short demand " ++ more ≡ outcome_text new.node (Short wanted allowed))

-- a rebalance in the midst of a script: what was answered before it and behind it. It left what the headline says, with what
-- the certificate tells and what a failed write leaves.
pub record IsRebalanceOf (direct : Bool) (first : RuntimeState) (before after : List (List ℕ)) (text : List ℕ) (last : RuntimeState) : Type 0 where
  pub old : RuntimeState
  pub new : RuntimeState
  pub outcome : Result Outcome (OrMemory NodeFault)
  pub earlier : List ℕ
  pub later : List ℕ
  pub run : Runs Answered first before earlier old
  pub leaves : RebalanceLeaves (order_of direct) old.node outcome new.node
  pub rest : Runs Answered new after later last
  pub told : text ≡ earlier ++ (answer_text (outcome_text new.node) of_either outcome ++ later)

-- each line of a whole script that asks for a rebalance is such
abbrev pub ScriptsRebalance : Type 0
ScriptsRebalance = (direct : Bool) (first last : RuntimeState) (before after : List (List ℕ)) (line text : List ℕ) → IsNode first.node
    → line_kept line ≡ Some line → request_of (words_of line) ≡ asks (ask.rebalance direct) → Runs Answered first (before ++ line ∷ after) text last
    → IsRebalanceOf direct first before after text last

Run-append : (old mid new : NodeState) (first later : List Event) → Run old first mid → Run mid later new → Run old (first ++ later) new
Run-append old mid new [] later e run = subst (λ n. Run n later new) e run
Run-append old mid new (event ∷ first) later (next, step, rest) run = (next, step, Run-append next mid new first later rest run)

pub is_call : (sees : Sees) (old : NodeState) (command : Asked) (text : List ℕ) (new : NodeState) → AnswersBy sees old command text new
    → IsCall sees command old text new ⊎ IsNoCall sees command old text new
is_call sees old (ask.create id bundle) text new (inl h) = inr (inl h.0, h.1)
is_call sees old (ask.create id bundle) text new (inr (None, found, h)) = inr (inr (h.0, found), h.1)
is_call sees old (ask.create id bundle) text new (inr (Some config, found, (r, h, writes, e))) = inl (record { event = Create id bundle config r; its = (config, r, found, refl); step = h; answer = e })
is_call sees old (ask.adopt id bundle list) text new (inl h) = inr (inl (inl h.0), h.1)
is_call sees old (ask.adopt id bundle list) text new (inr (None, found, h)) = inr (inl (inr (h.0, found)), h.1)
is_call sees old (ask.adopt id bundle list) text new (inr (Some config, found, (Err why, names, h))) = inr (inr (why, names, h.0), h.1)
is_call sees old (ask.adopt id bundle list) text new (inr (Some config, found, (Ok cpus, names, (r, h, writes, e)))) =
    inl (record { event = Adopt id bundle config cpus r; its = (config, cpus, r, found, names, refl); step = h; answer = e })
is_call sees old (ask.update id bundle) text new (inl h) = inr (inl h.0, h.1)
is_call sees old (ask.update id bundle) text new (inr (None, found, h)) = inr (inr (h.0, found), h.1)
is_call sees old (ask.update id bundle) text new (inr (Some config, found, (r, h, e))) = inl (record { event = Update id bundle config r; its = (config, r, found, refl); step = h; answer = e })
is_call sees old (ask.start id) text new (r, h, e) = inl (record { event = Start id r; its = (r, refl); step = h; answer = e })
is_call sees old (ask.kill id signal) text new (r, h, e) = inl (record { event = Kill id signal r; its = (r, refl); step = h; answer = e })
is_call sees old (ask.delete id) text new (r, h, e) = inl (record { event = Delete id r; its = (r, refl); step = h; answer = e })
is_call sees old (ask.forget id) text new h = inr h
is_call sees old (ask.state id) text new (r, h, e, same) = inl (record { event = Ask (State id r); its = (r, refl); step = (h, same); answer = e })
is_call sees old ask.list text new h = inl (record { event = Ask (ListAll (listing old)); its = (listing old, refl); step = (refl, h.1); answer = h.0 })
is_call sees old (ask.sets id) text new (r, h, e, same) = inl (record { event = Ask (SetsOf id r); its = (r, refl); step = (h, same); answer = e })
is_call sees old (ask.rebalance direct) text new (r, h, e) = inl (record { event = Rebalance (order_of direct) r; its = (r, refl); step = h; answer = e })
is_call sees old (ask.begin direct) text new (r, h, e) = inl (record { event = Begin (order_of direct) r; its = (r, refl); step = h; answer = e })
is_call sees old ask.step text new (r, h, e) = inl (record { event = StepOn r; its = (r, refl); step = h; answer = e })
is_call sees old ask.phase text new h = inl (record { event = Ask (PhaseIs old.phase); its = (old.phase, refl); step = (refl, h.1); answer = h.0 })
is_call sees old ask.certificate text new (r, h, e, same) = inl (record { event = Ask (ShowCertificate r); its = (r, refl); step = (h, same); answer = e })
is_call sees old (ask.fork pid) text new (r, h, rest, e) = inl (record { event = Fork pid r; its = (r, refl); step = (h, rest); answer = e })
is_call sees old (ask.exit pid) text new (r, h, rest, e) = inl (record { event = Exit pid r; its = (r, refl); step = (h, rest); answer = e })
is_call sees old (ask.offline cpu) text new (r, h, rest, e) = inl (record { event = Offline cpu r; its = (r, refl); step = (h, rest); answer = e })
is_call sees old (ask.online cpu) text new (r, h, rest, e) = inl (record { event = Online cpu r; its = (r, refl); step = (h, rest); answer = e })

pub commands_are_calls : (sees : Told → Sees) → CommandsAreCalls sees
commands_are_calls sees old new command text h = is_call (sees old.told) old.node command text new.node h.0

-- at most one, which leads from the one node to the other
abbrev AreOne : (List Event → Type 0) → NodeState → NodeState → Type 0
AreOne AreMade old new = (events : List Event) × AreMade events × (length events ≤ 1) × Run old events new

by_command : (sees : Sees) (old : NodeState) (command : Asked) (text : List ℕ) (new : NodeState) → AnswersBy sees old command text new
    → AreOne (λ events. CommandMakes sees old command events text new) old new
by_command sees old command text new h =
    elim (is_call sees old command text new h) [
      | inl c ↦ (c.event ∷ [], inl (c, refl), omega arith, (new, c.step, refl))
      | inr none ↦ ([], inr (none, refl), omega arith, none.1)
    ]

by_request : (sees : Told → Sees) (old new : RuntimeState) (request : Wanted) (text : List ℕ) → AnswersRequest (AnsweredWhere sees) old request text new
    → AreOne (λ events. RequestMakes (sees old.told) old.node request events text new.node) old.node new.node × (new.told ≡ old.told)
by_request sees old new nothing text h =
    let same = ap (λ (s : RuntimeState). s.node) h.1 in
    (([], (refl, h.0, same), omega arith, same), ap (λ (s : RuntimeState). s.told) h.1)
by_request sees old new bad text h =
    let same = ap (λ (s : RuntimeState). s.node) h.1 in
    (([], (refl, h.0, same), omega arith, same), ap (λ (s : RuntimeState). s.told) h.1)
by_request sees old new (asks command) text h = (by_command (sees old.told) old.node command text new.node h.0, ap (λ (s : RuntimeState). s.told) h.1)

by_line : (sees : Told → Sees) (old new : RuntimeState) (line : Option (List ℕ)) (text : List ℕ) → AnswersLine (AnsweredWhere sees) old line text new
    → AreOne (λ events. LineMakes (sees old.told) old.node line events text new.node) old.node new.node × (new.told ≡ old.told)
by_line sees old new None text h =
    let same = ap (λ (s : RuntimeState). s.node) h.1 in
    (([], (refl, h.0, same), omega arith, same), ap (λ (s : RuntimeState). s.told) h.1)
by_line sees old new (Some line) text h = by_request sees old new (request_of (words_of line)) text h

pub lines_are_calls : (sees : Told → Sees) → LinesAreCalls sees
lines_are_calls sees old new [] text h =
    let same = ap (λ (s : RuntimeState). s.node) h.1 in
    record { events = []; made = (refl, h.0, same); few = omega arith; run = same; told = ap (λ (s : RuntimeState). s.told) h.1 }
lines_are_calls sees old new (line ∷ lines) text (mid, first, more, answered, run, e) =
    let here = by_line sees old mid (line_kept line) first answered in
    let later = lines_are_calls sees mid new lines more run in
    let few : length here.0.0 ≤ 1 = here.0.2 in
    let fewer : length later.events ≤ length lines = later.few in
    let made = subst (λ t. LinesMake (sees t) mid.node lines later.events more new.node) here.1 later.made in
    record {
      events = here.0.0 ++ later.events;
      made = (mid.node, here.0.0, later.events, first, more, here.0.1, made, refl, e);
      few = omega (arith, length-append here.0.0 later.events, few, fewer);
      run = Run-append old.node mid.node new.node here.0.0 later.events here.0.3 later.run;
      told = later.told ∙ here.1;
    }

pub rebalances_are_told : RunsRebalance → RebalancesAreTold
rebalances_are_told leaves direct first old new lines text answer node run ((r, h, e), same) =
    let before = lines_are_calls IsFound first old lines text run in
    (r, leaves first.node before.events (order_of direct) old.node r new.node node before.run h, e)

-- no other text begins so
plan_told : (direct : Bool) (old new : NodeState) (more : List ℕ) (r : Result Outcome (OrMemory NodeFault)) → RebalanceLeaves (order_of direct) old r new
    → codes "plan total " ++ more ≡ answer_text (outcome_text new) of_either r → (total : ℕ) × RebalanceLeaves (order_of direct) old (Ok (Plan total)) new × (codes "plan total " ++ more ≡ outcome_text new (Plan total))
plan_told direct old new more (Ok (Plan total)) h e = (total, h, e)
plan_told direct old new more (Ok (Short wanted allowed)) h e = absurd (let same : 112 ≡ 115 = ap (λ t. get_or t 0 0) e in let f : ⊥ = omega (arith, same) in f)
plan_told direct old new more (Err error) h e = absurd (let same : 112 ≡ 114 = ap (λ t. get_or t 0 0) e in let f : ⊥ = omega (arith, same) in f)

pub plans_are_told : RunsRebalance → PlansAreTold
plans_are_told leaves direct first old new lines text more node run answered =
    let told = rebalances_are_told leaves direct first old new lines text (codes "plan total " ++ more) node run answered in
    plan_told direct old.node new.node more told.0 told.1 told.2

begun_told : (direct : Bool) (old new : NodeState) (more : List ℕ) (r : Result Outcome (OrMemory NodeFault)) → Begins (order_of direct) old r new → codes "plan total " ++ more ≡ answer_text (outcome_text new) of_either r
    → (total : ℕ) × Begun (order_of direct) old total new × (codes "plan total " ++ more ≡ outcome_text new (Plan total))
begun_told direct old new more (Ok (Plan total)) b e = (total, b, e)
begun_told direct old new more (Ok (Short wanted allowed)) b e = absurd (let same : 112 ≡ 115 = ap (λ t. get_or t 0 0) e in let f : ⊥ = omega (arith, same) in f)
begun_told direct old new more (Err error) b e = absurd (let same : 112 ≡ 114 = ap (λ t. get_or t 0 0) e in let f : ⊥ = omega (arith, same) in f)

pub begun_are_told : BegunAreTold
begun_are_told direct old new more ((r, b, e), same) = begun_told direct old.node new.node more r b e

begun_short_told : ShortStands → (direct : Bool) (old new : NodeState) (more : List ℕ) (r : Result Outcome (OrMemory NodeFault)) → IsNode old → Begins (order_of direct) old r new → codes "short demand " ++ more ≡ answer_text (outcome_text new) of_either r
    → (wanted : ℕ) × (allowed : Ids) × IsShort old wanted allowed new × TellsShortage old wanted allowed new × (codes "short demand " ++ more ≡ outcome_text new (Short wanted allowed))
begun_short_told stands direct old new more (Ok (Plan total)) node b e = absurd (let same : 115 ≡ 112 = ap (λ t. get_or t 0 0) e in let f : ⊥ = omega (arith, same) in f)
begun_short_told stands direct old new more (Ok (Short wanted allowed)) node b e =
    let short = stands old wanted allowed new node b in (wanted, allowed, short.0, short.1, e)
begun_short_told stands direct old new more (Err error) node b e = absurd (let same : 115 ≡ 114 = ap (λ t. get_or t 0 0) e in let f : ⊥ = omega (arith, same) in f)

pub begun_short_are_told : ShortStands → BegunShortAreTold
begun_short_are_told stands direct old new more node ((r, b, e), same) = begun_short_told stands direct old.node new.node more r node b e

short_told : (direct : Bool) (old new : NodeState) (more : List ℕ) (r : Result Outcome (OrMemory NodeFault)) → RebalanceLeaves (order_of direct) old r new
    → codes "short demand " ++ more ≡ answer_text (outcome_text new) of_either r
    → (wanted : ℕ) × (allowed : Ids) × RebalanceLeaves (order_of direct) old (Ok (Short wanted allowed)) new × (codes "short demand " ++ more ≡ outcome_text new (Short wanted allowed))
short_told direct old new more (Ok (Plan total)) h e = absurd (let same : 115 ≡ 112 = ap (λ t. get_or t 0 0) e in let f : ⊥ = omega (arith, same) in f)
short_told direct old new more (Ok (Short wanted allowed)) h e = (wanted, allowed, h, e)
short_told direct old new more (Err error) h e = absurd (let same : 115 ≡ 114 = ap (λ t. get_or t 0 0) e in let f : ⊥ = omega (arith, same) in f)

pub shortages_are_told : RunsRebalance → ShortagesAreTold
shortages_are_told leaves direct first old new lines text more node run answered =
    let told = rebalances_are_told leaves direct first old new lines text (codes "short demand " ++ more) node run answered in
    short_told direct old.node new.node more told.0 told.1 told.2

-- lines that were answered, cut before one of them and behind it
pub runs_cut : (sees : Told → Sees) (old last : RuntimeState) (before after : List (List ℕ)) (line text : List ℕ)
    → Runs (AnsweredWhere sees) old (before ++ line ∷ after) text last
    → (mid : RuntimeState) × (new : RuntimeState) × (earlier : List ℕ) × (answer : List ℕ) × (later : List ℕ)
    × Runs (AnsweredWhere sees) old before earlier mid × AnswersLine (AnsweredWhere sees) mid (line_kept line) answer new × Runs (AnsweredWhere sees) new after later last
    × (text ≡ earlier ++ (answer ++ later))
runs_cut sees old last [] after line text (new, answer, later, answered, run, e) = (old, new, [], answer, later, (refl, refl), answered, run, e)
runs_cut sees old last (other ∷ before) after line text (next, first, more, answered, run, e) =
    let c = runs_cut sees next last before after line more run in
    (c.0, c.1, first ++ c.2, c.3, c.4, (next, first, c.2, answered, c.5, refl), c.6, c.7, e ∙ ap (λ t. first ++ t) c.8 ∙ sym (append_assoc first c.2 (c.3 ++ c.4)))

pub scripts_rebalance : RunsRebalance → ScriptsRebalance
scripts_rebalance leaves direct first last before after line text node whole asked run =
    let c = runs_cut IsFound first last before after line text run in
    let answered : Answered c.0 (ask.rebalance direct) c.3 c.1 =
    subst (λ wanted. AnswersRequest Answered c.0 wanted c.3 c.1) asked (subst (λ read. AnswersLine Answered c.0 read c.3 c.1) whole c.6) in
    let told = rebalances_are_told leaves direct first c.0 c.1 before c.2 c.3 node c.5 answered in
    record {
      old = c.0;
      new = c.1;
      outcome = told.0;
      earlier = c.2;
      later = c.4;
      run = c.5;
      leaves = told.1;
      rest = c.7;
      told = c.8 ∙ ap (λ answer. c.2 ++ (answer ++ c.4)) told.2;
    }
