-- Answers beside strangers, made of those of the runtime within.
use Rattle.std.proofs.Common.{◌≡◌, ℕ, Bool, true, false, if◌then◌else◌, is_some, is_ok, List, Option, None, Result, Ok, Err, codes, Bor, refl, sym, ap, ◌∙◌, subst}
use Rattle.std.specs.FinSet as set
use Rattle.cpu_set.specs.Ids.{Ids}
use Rattle.byte_output.specs.Output.{Writes}
use Rattle.cgroup_tree.specs.Asked.{Stranger}
use Rattle.kernel_model.specs.Refusals.{online_refusal}
use Rattle.node.specs.declared.fault.NodeFault.{NodeFault}
use Rattle.node.specs.declared.sets.Sets.{Sets as Shown}
use Rattle.node.specs.IsNode.{IsNode}
use Rattle.node.specs.NodeState.{NodeState, container_of}
use Rattle.node.specs.Sets.{HasSets}
use Rattle.script.specs.Commands.{Asked, asked}
use Rattle.script.specs.Commands as ask
use Rattle.script.specs.declared.command.Command.{Command}
use Rattle.script.specs.declared.command.Command.TheVariants as variant
use Rattle.script.specs.Ends.{Replies}
use Rattle.script.specs.WrittenLemmas.{Replies-written}
use Rattle.runtime.specs.Answered.{AnsweredWhere}
use Rattle.runtime.specs.RuntimeState.{RuntimeState, Told}
use Rattle.strangers.specs.GuardState.{GuardState}
use Rattle.strangers.specs.Guarded.{AnswersAlone, AnswersAway, AnswersPlaced, Forgets, Guards, IsPlanning, away, back, can_leave, held, knows, withheld, without}
use Rattle.strangers.proofs.StaysLemmas.{may_come}

-- there is a container exactly where its sets can be shown
sets_shown : (n : NodeState) (id : List ℕ) (r : Result Shown NodeFault) → HasSets n id r → is_ok r ≡ is_some (container_of n id)
sets_shown n id (Ok sets) (c, there, is) = sym (ap is_some there)
sets_shown n id (Err fault) (none, gone) = sym (ap is_some gone)

abbrev pub guard_of : RuntimeState → List Stranger → GuardState
guard_of runtime strangers = record { runtime = runtime; strangers = strangers }

module _ (sees : Told → List ℕ → Option (List ℕ) → Type 0) {E : Type 0} (out out' : Option (List ℕ)) (result : Result (Unit {0}) E) where
  -- a line that was answered while these CPUs were away, which are those that are withheld
  module _ (old : RuntimeState) (strangers : List Stranger) (command : Asked) (cpus gone : Ids) (first last : RuntimeState) (which : gone ≡ can_leave cpus old.node.kernel) (all : cpus ≡ held strangers)
      (went : first ≡ away old gone) (r : Replies (AnsweredWhere sees first command) out out' result last) where
    is_withheld : gone ≡ withheld (guard_of old strangers)
    is_withheld = which ∙ ap (λ (c : Ids). can_leave c old.node.kernel) all

    answered : AnsweredWhere sees (away old (withheld (guard_of old strangers))) command r.text last
    answered = subst (λ (s : RuntimeState). AnsweredWhere sees s command r.text last) (went ∙ ap (away old) is_withheld) r.answers

    pub replies_away : (new : RuntimeState) → new ≡ back last gone → Replies (AnswersAway sees (guard_of old strangers) command) out out' result (guard_of new strangers)
    replies_away new is = record {
      text = r.text;
      answers = (last, answered, ap (λ (s : RuntimeState). guard_of s strangers) (is ∙ ap (back last) is_withheld));
      written = r.written;
    }

    pub comes_back : IsPlanning command → IsNode old.node → IsNode last.node → (q : ℕ) → set.contains gone q ≡ true → online_refusal last.node.kernel q ≡ None
    comes_back planning node end q m =
        may_come sees (held strangers) command planning old r.text last node end answered q (subst (λ (s : Ids). set.contains s q ≡ true) is_withheld m)

  -- a line that was answered as by the runtime alone
  pub replies_alone : (old : GuardState) (command : Asked) (new : RuntimeState) → Replies (AnsweredWhere sees old.runtime command) out out' result new
      → Replies (AnswersAlone sees old command) out out' result (guard_of new old.strangers)
  replies_alone old command new r = record { text = r.text; answers = (r.answers, refl); written = r.written }

  -- one that asked for a container
  module _ (old : GuardState) (command : Asked) (id : List ℕ) (new : RuntimeState) (r : Replies (AnsweredWhere sees old.runtime command) out out' result new) (shown : Result Shown NodeFault)
      (has : HasSets new.node id shown) where
    placed_by : (strangers : List Stranger) → strangers ≡ (if is_ok shown then without old.strangers id else old.strangers)
        → Replies (AnswersPlaced sees old command id) out out' result (guard_of new strangers)
    placed_by strangers is = record {
      text = r.text;
      answers = (r.answers, is ∙ ap (λ (b : Bool). if b then without old.strangers id else old.strangers) (sets_shown new.node id shown has));
      written = r.written;
    }

    pub placed : (strangers : List Stranger) → is_ok shown ≡ true → strangers ≡ without old.strangers id → Replies (AnswersPlaced sees old command id) out out' result (guard_of new strangers)
    placed strangers there is = placed_by strangers (is ∙ ap (λ (b : Bool). if b then without old.strangers id else old.strangers) (sym there))

    pub not_placed : is_ok shown ≡ false → Replies (AnswersPlaced sees old command id) out out' result (guard_of new old.strangers)
    not_placed none = placed_by old.strangers (ap (λ (b : Bool). if b then without old.strangers id else old.strangers) (sym none))

  -- a `forget`
  module _ (old : GuardState) (id : List ℕ) where
    pub forgot : (strangers : List Stranger) → knows old.strangers id ≡ true → strangers ≡ without old.strangers id → Writes out out' result (codes "ok\n")
        → Replies (Forgets sees (knows old.strangers id) old id) out out' result (guard_of old.runtime strangers)
    forgot strangers there is written =
        subst (λ (b : Bool). Replies (Forgets sees b old id) out out' result (guard_of old.runtime strangers)) (sym there)
        (Replies-written (Forgets sees true old id) out out' result (guard_of old.runtime strangers) (codes "ok\n") (refl, ap (guard_of old.runtime) is) written)

    pub forgot_none : (new : RuntimeState) → knows old.strangers id ≡ false → Replies (AnsweredWhere sees old.runtime (ask.forget id)) out out' result new
        → Replies (Forgets sees (knows old.strangers id) old id) out out' result (guard_of new old.strangers)
    forgot_none new none r =
        subst (λ (b : Bool). Replies (Forgets sees b old id) out out' result (guard_of new old.strangers)) (sym none)
        (record { text = r.text; answers = (r.answers, refl); written = r.written })

-- what plans or moves is answered while the CPUs are away
module _ (sees : Told → List ℕ → Option (List ℕ) → Type 0) (old : GuardState) where
  planned : (command : Asked) → IsPlanning command → (text : List ℕ) (new : GuardState) → AnswersAway sees old command text new → Guards sees old command text new
  planned (ask.rebalance direct) planning text new away = away
  planned (ask.begin direct) planning text new away = away
  planned ask.step planning text new away = away
  planned command none text new away = absurd none

  pub replies_planned : {E : Type 0} (out out' : Option (List ℕ)) (result : Result (Unit {0}) E) (command : Asked) → IsPlanning command → (new : GuardState)
      → Replies (AnswersAway sees old command) out out' result new → Replies (Guards sees old command) out out' result new
  replies_planned out out' result command planning new r = record { text = r.text; answers = planned command planning r.text new r.answers; written = r.written }

-- what asks neither for a container, nor for a plan or a move, nor to let go of a folder, is answered as by the runtime alone
module _ (sees : Told → List ℕ → Option (List ℕ) → Type 0) (old : GuardState) (text : List ℕ) (new : GuardState) where
  pub others :
      (c : Command) → ((id : Bor (List ℕ)) → c ≡ variant.Forget id → ⊥) → ((id bundle : Bor (List ℕ)) → c ≡ variant.Create id bundle → ⊥)
      → ((id bundle cpus : Bor (List ℕ)) → c ≡ variant.Adopt id bundle cpus → ⊥) → (c ≡ variant.Rebalance → ⊥) → (c ≡ variant.RebalanceDirectly → ⊥) → (c ≡ variant.Begin → ⊥)
      → (c ≡ variant.BeginDirectly → ⊥) → (c ≡ variant.Step → ⊥) → AnswersAlone sees old (asked c) text new → Guards sees old (asked c) text new
  others (variant.Forget id) f cr a r rd b bd s alone = absurd (f id refl)
  others (variant.Create id bundle) f cr a r rd b bd s alone = absurd (cr id bundle refl)
  others (variant.Adopt id bundle cpus) f cr a r rd b bd s alone = absurd (a id bundle cpus refl)
  others variant.Rebalance f cr a r rd b bd s alone = absurd (r refl)
  others variant.RebalanceDirectly f cr a r rd b bd s alone = absurd (rd refl)
  others variant.Begin f cr a r rd b bd s alone = absurd (b refl)
  others variant.BeginDirectly f cr a r rd b bd s alone = absurd (bd refl)
  others variant.Step f cr a r rd b bd s alone = absurd (s refl)
  others (variant.Update id bundle) f cr a r rd b bd s alone = alone
  others (variant.Start id) f cr a r rd b bd s alone = alone
  others (variant.Kill id signal) f cr a r rd b bd s alone = alone
  others (variant.Delete id) f cr a r rd b bd s alone = alone
  others (variant.State id) f cr a r rd b bd s alone = alone
  others variant.List f cr a r rd b bd s alone = alone
  others (variant.Sets id) f cr a r rd b bd s alone = alone
  others variant.Phase f cr a r rd b bd s alone = alone
  others variant.Certificate f cr a r rd b bd s alone = alone
  others (variant.Fork pid) f cr a r rd b bd s alone = alone
  others (variant.Exit pid) f cr a r rd b bd s alone = alone
  others (variant.Offline cpu) f cr a r rd b bd s alone = alone
  others (variant.Online cpu) f cr a r rd b bd s alone = alone
