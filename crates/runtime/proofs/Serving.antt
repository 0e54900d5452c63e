-- The calls that make containers, as lines of a script.
use Rattle.std.proofs.Common.{◌≡◌, ◌⊎◌, ℕ, Bool, true, false, List, [], ◌∷◌, ◌++◌, length, Option, Some, None, Result, Ok, inl, inr, refl, sym, ap, subst, ◌∙◌, arith}
use Rattle.std.proofs.lemmas.Bool.{false≢true}
use Rattle.std.specs.Prelude.{nat_le, cond}
use Rattle.std.specs.List.{Contains, AllByRecursion}
use Rattle.std.proofs.lemmas.List.Elements.{Contains-append_cases, Contains-append_right, Contains-push_cases}
use Rattle.faults.specs.declared.or_memory.OrMemory.{OrMemory}
use Rattle.cpu_set.specs.Ids.{Ids}
use Rattle.node.specs.declared.fault.NodeFault.{NodeFault}
use Rattle.node.specs.NodeState.{ContainerState, NodeState}
use Rattle.node.specs.Rebalance.{Rebalances}
use Rattle.node.specs.Machine.{Event, Create, Adopt, Update, RunsRebalance}
use Rattle.node.specs.Said.{IsAskedIn, IsReadBy}
use Rattle.node.specs.Served.{HasAsked, RunsServeConfigs}
use Rattle.script.specs.Commands.{Asked}
use Rattle.script.specs.Commands as ask
use Rattle.script.specs.Lines.{line_kept, words_of}
use Rattle.script.specs.Requests.{Wanted, nothing, bad, asks, request_of}
use Rattle.script.specs.Runs.{AnswersLine, AnswersRequest}
use Rattle.script.specs.declared.line_buffer.TheConstants.{MOST_LINE_BYTES}
use Rattle.runtime.specs.Answered.{AnsweredBy, order_of}
use Rattle.runtime.specs.Found.{IsSeen}
use Rattle.runtime.specs.ScriptLaws.{Sees, IsFor, RequestMakes, LineMakes, LinesMake, lines_are_calls, runs_cut}
use Rattle.runtime.proofs.Seen.{by_lines as looks_are_told}
use Rattle.runtime.specs.ConfigsServed.{MakesIt, HasItsConfig, ScriptsServeConfigs}

-- a line that asks for the container of an id and a bundle, whose config is found
pub record IsAskedBy (sees : Sees) (lines : List (List ℕ)) (id bundle config : List ℕ) : Type 0 where
  pub line : List ℕ
  pub there : Contains lines line
  pub whole : line_kept line ≡ Some line
  pub asked : MakesIt (request_of (words_of line)) id bundle
  pub found : sees bundle (Some config)

-- the event makes this container, or reads its config again
abbrev IsPlacing : List ℕ → List ℕ → List ℕ → Result ℕ (OrMemory NodeFault) → Event → Type 0
IsPlacing id bundle config r event =
    (event ≡ Create id bundle config r) ⊎ ((cpus : Ids) × (event ≡ Adopt id bundle config cpus r)) ⊎ (event ≡ Update id bundle config (Ok tt))

abbrev is_placing : Event → Bool
is_placing (Create id bundle config r) = true
is_placing (Adopt id bundle config cpus r) = true
is_placing (Update id bundle config r) = true
is_placing event = false

other_event : (id bundle config : List ℕ) (r : Result ℕ (OrMemory NodeFault)) (event : Event) → IsPlacing id bundle config r event → is_placing event ≡ false → ⊥
other_event id bundle config r event (inl e) other = false≢true (sym other ∙ ap is_placing e)
other_event id bundle config r event (inr (inl (cpus, e))) other = false≢true (sym other ∙ ap is_placing e)
other_event id bundle config r event (inr (inr e)) other = false≢true (sym other ∙ ap is_placing e)

kept_line : (line read : List ℕ) → line_kept line ≡ Some read → read ≡ line
kept_line line read h = at (nat_le (length line) MOST_LINE_BYTES) h where
  at : (b : Bool) → cond b (Some line) None ≡ Some read → read ≡ line
  at true e = cc
  at false e = absurd (cc)

none_there : (events : List Event) (event : Event) → events ≡ [] → Contains events event → ⊥
none_there events event none h = omega (arith, h.1, ap length none)

only_there : (events : List Event) (its event : Event) → events ≡ its ∷ [] → Contains events event → its ≡ event
only_there events its event one h = by (Contains-push_cases [] its event (subst (λ (es : List Event). Contains es event) one h)) where
  by : Contains [] event ⊎ (its ≡ event) → its ≡ event
  by (inl none) = absurd (none_there [] event refl none)
  by (inr is) = is

-- the command of the call that makes this container
by_command : (sees : Sees) (command : Asked) (event : Event) (id bundle config : List ℕ) (r : Result ℕ (OrMemory NodeFault)) → IsFor sees command event
    → IsPlacing id bundle config r event → MakesIt (asks command) id bundle × sees bundle (Some config)
by_command sees (ask.create i b) event id bundle config r (c, answer, found, is) (inl e) =
    let same : Create i b c answer ≡ Create id bundle config r = sym is ∙ e in
    let id_same : i ≡ id = cc in
    let bundle_same : b ≡ bundle = cc in
    let config_same : c ≡ config = cc in (
      inl (ap (λ x. asks (ask.create x b)) id_same ∙ ap (λ x. asks (ask.create id x)) bundle_same),
      subst (λ x. sees x (Some config)) bundle_same (subst (λ x. sees b (Some x)) config_same found),
    )
by_command sees (ask.create i b) event id bundle config r (c, answer, found, is) (inr (inl (cpus, e))) = absurd (cc)
by_command sees (ask.create i b) event id bundle config r (c, answer, found, is) (inr (inr e)) = absurd (cc)
by_command sees (ask.adopt i b list) event id bundle config r (c, others, answer, found, names, is) (inl e) = absurd (cc)
by_command sees (ask.adopt i b list) event id bundle config r (c, others, answer, found, names, is) (inr (inr e)) = absurd (cc)
by_command sees (ask.adopt i b list) event id bundle config r (c, others, answer, found, names, is) (inr (inl (cpus, e))) =
    let same : Adopt i b c others answer ≡ Adopt id bundle config cpus r = sym is ∙ e in
    let id_same : i ≡ id = cc in
    let bundle_same : b ≡ bundle = cc in
    let config_same : c ≡ config = cc in (
      inr (inl (list, ap (λ x. asks (ask.adopt x b list)) id_same ∙ ap (λ x. asks (ask.adopt id x list)) bundle_same)),
      subst (λ x. sees x (Some config)) bundle_same (subst (λ x. sees b (Some x)) config_same found),
    )
by_command sees (ask.update i b) event id bundle config r (c, answer, found, is) (inl e) = absurd (cc)
by_command sees (ask.update i b) event id bundle config r (c, answer, found, is) (inr (inl (cpus, e))) = absurd (cc)
by_command sees (ask.update i b) event id bundle config r (c, answer, found, is) (inr (inr e)) =
    let same : Update i b c answer ≡ Update id bundle config (Ok tt) = sym is ∙ e in
    let id_same : i ≡ id = cc in
    let bundle_same : b ≡ bundle = cc in
    let config_same : c ≡ config = cc in (
      inr (inr (ap (λ x. asks (ask.update x b)) id_same ∙ ap (λ x. asks (ask.update id x)) bundle_same)),
      subst (λ x. sees x (Some config)) bundle_same (subst (λ x. sees b (Some x)) config_same found),
    )
by_command sees (ask.start i) event id bundle config r (answer, is) placing = absurd (other_event id bundle config r event placing (ap is_placing is))
by_command sees (ask.kill i signal) event id bundle config r (answer, is) placing = absurd (other_event id bundle config r event placing (ap is_placing is))
by_command sees (ask.forget i) event id bundle config r none placing = absurd none
by_command sees (ask.delete i) event id bundle config r (answer, is) placing = absurd (other_event id bundle config r event placing (ap is_placing is))
by_command sees (ask.state i) event id bundle config r (answer, is) placing = absurd (other_event id bundle config r event placing (ap is_placing is))
by_command sees ask.list event id bundle config r (answer, is) placing = absurd (other_event id bundle config r event placing (ap is_placing is))
by_command sees (ask.sets i) event id bundle config r (answer, is) placing = absurd (other_event id bundle config r event placing (ap is_placing is))
by_command sees (ask.rebalance direct) event id bundle config r (answer, is) placing = absurd (other_event id bundle config r event placing (ap is_placing is))
by_command sees (ask.begin direct) event id bundle config r (answer, is) placing = absurd (other_event id bundle config r event placing (ap is_placing is))
by_command sees ask.step event id bundle config r (answer, is) placing = absurd (other_event id bundle config r event placing (ap is_placing is))
by_command sees ask.phase event id bundle config r (answer, is) placing = absurd (other_event id bundle config r event placing (ap is_placing is))
by_command sees ask.certificate event id bundle config r (answer, is) placing = absurd (other_event id bundle config r event placing (ap is_placing is))
by_command sees (ask.fork pid) event id bundle config r (answer, is) placing = absurd (other_event id bundle config r event placing (ap is_placing is))
by_command sees (ask.exit pid) event id bundle config r (answer, is) placing = absurd (other_event id bundle config r event placing (ap is_placing is))
by_command sees (ask.offline cpu) event id bundle config r (answer, is) placing = absurd (other_event id bundle config r event placing (ap is_placing is))
by_command sees (ask.online cpu) event id bundle config r (answer, is) placing = absurd (other_event id bundle config r event placing (ap is_placing is))

module _ (sees : Sees) (id bundle config : List ℕ) (r : Result ℕ (OrMemory NodeFault)) (made : Event) (placing : IsPlacing id bundle config r made) where
  by_request : (old : NodeState) (wanted : Wanted) (events : List Event) (text : List ℕ) (new : NodeState) → RequestMakes sees old wanted events text new
      → Contains events made → MakesIt wanted id bundle × sees bundle (Some config)
  by_request old nothing events text new m h = absurd (none_there events made m.0 h)
  by_request old bad events text new m h = absurd (none_there events made m.0 h)
  by_request old (asks command) events text new (inl (call, is)) h =
      by_command sees command call.event id bundle config r call.its (subst (IsPlacing id bundle config r) (sym (only_there events call.event made is h)) placing)
  by_request old (asks command) events text new (inr (other, none)) h = absurd (none_there events made none h)

  by_line : (old : NodeState) (line : List ℕ) (read : Option (List ℕ)) (events : List Event) (text : List ℕ) (new : NodeState) → line_kept line ≡ read → LineMakes sees old read events text new
      → Contains events made → (line_kept line ≡ Some line) × MakesIt (request_of (words_of line)) id bundle × sees bundle (Some config)
  by_line old line None events text new is m h = absurd (none_there events made m.0 h)
  by_line old line (Some l) events text new is m h =
      let same : l ≡ line = kept_line line l is in
      let c = by_request old (request_of (words_of l)) events text new m h in
      (is ∙ ap Some same, subst (λ x. MakesIt (request_of (words_of x)) id bundle) same c.0, c.1)

  by_lines : (old : NodeState) (lines : List (List ℕ)) (events : List Event) (text : List ℕ) (new : NodeState) → LinesMake sees old lines events text new
      → Contains events made → IsAskedBy sees lines id bundle config
  by_lines old [] events text new m h = absurd (none_there events made m.0 h)
  by_lines old (line ∷ lines) events text new (mid, here, later, first, more, m, ms, e, t) h =
      by (by_lines mid lines later more new ms) (Contains-append_cases here later made (subst (λ (es : List Event). Contains es made) e h))
    where
      by : (Contains later made → IsAskedBy sees lines id bundle config)
          → Contains here made ⊎ Contains later made → IsAskedBy sees (line ∷ lines) id bundle config
      by behind (inl there) =
          let c = by_line old line (line_kept line) here first mid refl m there in
          record { line = line; there = (0, omega arith, refl); whole = c.0; asked = c.1; found = c.2 }
      by behind (inr there) =
          let c = behind there in
          record { line = c.line; there = Contains-append_right (line ∷ []) lines c.line c.there; whole = c.whole; asked = c.asked; found = c.found }

-- the line by which a container was made, or its config read again
module _ (sees : Sees) (events : List Event) (e : List ℕ × ContainerState) (config : List ℕ) (old : NodeState) (lines : List (List ℕ)) (text : List ℕ) (new : NodeState)
    (m : LinesMake sees old lines events text new) where
  asked_by : (made : Event) → IsPlacing e.0 e.1.bundle config (Ok e.1.pid) made → Contains events made → IsAskedBy sees lines e.0 e.1.bundle config
  asked_by made placing h = by_lines sees e.0 e.1.bundle config (Ok e.1.pid) made placing old lines events text new m h

  placing_of : (earlier : List Event) (its : Event) → IsReadBy earlier its e config → IsPlacing e.0 e.1.bundle config (Ok e.1.pid) its
  placing_of earlier its (inl is) = inl is
  placing_of earlier its (inr (inl (cpus, is))) = inr (inl (cpus, is))
  placing_of earlier its (inr (inr (is, was))) = inr (inr is)

  asked_in : IsAskedIn events e config → IsAskedBy sees lines e.0 e.1.bundle config
  asked_in a =
      asked_by a.its (placing_of a.earlier a.its a.read)
      (subst (λ (es : List Event). Contains es a.its) (sym a.cut) (Contains-append_right a.earlier (a.its ∷ a.later) a.its (0, omega arith, refl)))

all_more : {A : Type 0} (P Q : A → Type 0) → ((x : A) → P x → Q x) → (xs : List A) → AllByRecursion P xs → AllByRecursion Q xs
all_more P Q follows [] h = h
all_more P Q follows (x ∷ xs) h = (follows x h.0, all_more P Q follows xs h.1)

pub scripts_serve_configs : (finds : Sees) → RunsRebalance → RunsServeConfigs → ScriptsServeConfigs finds
scripts_serve_configs finds leaves serves direct first last before after line text node none whole asked run =
    let c = runs_cut (IsSeen finds) first last before after line text run in
    let answered : AnsweredBy finds c.0 (ask.rebalance direct) c.3 c.1 =
    subst (λ wanted. AnswersRequest (AnsweredBy finds) c.0 wanted c.3 c.1) asked (subst (λ read. AnswersLine (AnsweredBy finds) c.0 read c.3 c.1) whole c.6) in
    let calls = lines_are_calls (IsSeen finds) first c.0 before c.2 c.5 in
    record {
      its = record {
        old = c.0;
        new = c.1;
        outcome = answered.0.0;
        earlier = c.2;
        later = c.4;
        run = looks_are_told finds first c.0 before c.2 c.5;
        leaves = leaves first.node calls.events (order_of direct) c.0.node answered.0.0 c.1.node node calls.run answered.0.1;
        rest = looks_are_told finds c.1 last after c.4 c.7;
        told = c.8 ∙ ap (λ answer. c.2 ++ (answer ++ c.4)) answered.0.2;
      };
      calls = calls;
      serves = λ total is.
          all_more (HasAsked calls.events c.1.node.machine c.1.node.kernel c.1.node.pool)
          (HasItsConfig (IsSeen finds first.told) before calls.events c.1.node.machine c.1.node.kernel c.1.node.pool)
          (λ e a. let l = asked_in (IsSeen finds first.told) calls.events e a.config first.node before c.2 c.0.node calls.made a.asked in
          record { line = l.line; config = a.config; said = a.said; there = l.there; whole = l.whole; asked = l.asked; found = l.found; last = a.asked; said_so = a.said_so; has = a.has })
          c.1.node.containers
          (serves first.node calls.events (order_of direct) c.0.node total c.1.node node none calls.run (subst (λ r. Rebalances (order_of direct) c.0.node r c.1.node) is answered.0.1));
    }
