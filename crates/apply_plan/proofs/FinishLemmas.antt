-- What the writes of a hand-over up to its end are as single steps, and what these leave.
use Rattle.std.proofs.Common.{◌≡◌, ℕ, zero, suc, ◌+◌, ◌*◌, ◌≤◌, true, length, refl, sym, ap, ◌∙◌, subst, arith}
use Rattle.std.proofs.lemmas.Bool.{false≢true}
use Rattle.std.proofs.lemmas.List.{take_all}
use Rattle.std.specs.Prelude.{find, Option, Some, None, is_some, Result, Ok, Err, IsOk}
use Rattle.kernel_model.specs.declared.fault.KernelFault.{KernelFault}
use Rattle.kernel_model.specs.declared.fault.KernelFault.TheVariants.{Failed}
use Rattle.kernel_model.specs.KernelState.{KernelState, writes}
use Rattle.kernel_model.specs.Cases.{rise}
use Rattle.apply_plan.specs.declared.scan.Write.{Write}
use Rattle.apply_plan.specs.declared.handover.Progress.{Progress}
use Rattle.apply_plan.specs.declared.handover.Progress.TheVariants.{More, Done}
use Rattle.apply_plan.specs.Holders.{IsSafe}
use Rattle.apply_plan.specs.Targets.{Targets, holders_of, IsHandover, ArePlaced}
use Rattle.apply_plan.specs.DueWrite.{must_release, must_move, first_write, due, written, missed, progress_of, Steps, HaveTargets, Between, writes_to_come, Spends}
use Rattle.apply_plan.specs.Leaves.{KeepsRest}
use Rattle.apply_plan.specs.LeavesLemmas.{rest_then}
use Rattle.apply_plan.specs.Finishes.{StepsMore, last_answer, Finishes}
use Rattle.apply_plan.specs.Walks.{Writes, HasWritten, Stops, HaveReleased, NoneMust, HaveMoved, TakesTargets}
use Rattle.apply_plan.specs.KernelFactLemmas.{placed_alike}
use Rattle.apply_plan.specs.HandoverLemmas.{at_most_two, step_safe, step_between, step_done, step_counts, step_spends, done_none, step_keeps, keeps_itself}
use Rattle.apply_plan.proofs.WalkLemmas.{none_found}

module _ (h : Targets) where
  -- writes after writes
  writes_joined : (n m : ℕ) (old mid new : KernelState) → Writes h n old mid → Writes h m mid new → HasWritten h old new
  writes_joined zero m old mid new same later = (m, subst (λ k. Writes h m k new) same later)
  writes_joined (suc n) m old mid new (first, rest) later =
      let joined = writes_joined n m (written old (due h old)) mid new rest later in (suc joined.0, (first, joined.1))

  joined : (old mid new : KernelState) → HasWritten h old mid → HasWritten h mid new → HasWritten h old new
  joined old mid new a b = writes_joined a.0 b.0 old mid new a.1 b.1

  stops_after : (old mid new : KernelState) (fault : KernelFault) → HasWritten h old mid → Stops h mid fault new → Stops h old fault new
  stops_after old mid new fault made s = record { mid = s.mid; made = joined old mid s.mid made s.made; wanted = s.wanted; fault = s.fault; is = s.is }

  -- a due write after which another is due is a step
  more_is_told : (d : Option Write) → is_some d ≡ true → More ≡ progress_of d
  more_is_told None some = absurd (let x : ⊥ = cc in x)
  more_is_told (Some w) some = refl

  steps_more : (old : KernelState) → is_some (due h (written old (due h old))) ≡ true → Steps h old (Ok More) (written old (due h old))
  steps_more old some = (refl, more_is_told (due h (written old (due h old))) some)

  one_before : (old mid new : KernelState) (r : Result (Unit {0}) KernelFault) → Steps h old (Ok More) mid → Finishes h mid r new → Finishes h old r new
  one_before old mid new r s f = record { steps = suc f.steps; mid = f.mid; more = (mid, s, f.more); ends = f.ends }

  -- after these writes nothing is due: the last of them ended the hand-over
  done_at : (n : ℕ) (old new : KernelState) → Writes h n old new → due h new ≡ None → Finishes h old (Ok tt) new
  done_at zero old new same none = record {
    steps = 0;
    mid = old;
    more = refl;
    ends = (same ∙ ap (written old) (sym (ap (due h) (sym same) ∙ none)), ap progress_of (sym none));
  }
  done_at (suc zero) old new (first, same) none = record { steps = 0; mid = old; more = refl; ends = (same, ap progress_of (sym none)) }
  done_at (suc (suc n)) old new (first, later) none =
      one_before old (written old (due h old)) new (Ok tt) (steps_more old later.0) (done_at (suc n) (written old (due h old)) new later none)

  -- the write after them failed
  due_first : (n : ℕ) (old mid : KernelState) → Writes h n old mid → is_some (due h mid) ≡ true → is_some (due h old) ≡ true
  due_first zero old mid same some = ap (λ k. is_some (due h k)) (sym same) ∙ some
  due_first (suc n) old mid (first, later) some = first

  fails_at : (n : ℕ) (old mid : KernelState) → Writes h n old mid → is_some (due h mid) ≡ true → Finishes h old (Err Failed) (missed (due h mid) mid)
  fails_at zero old mid same some = record {
    steps = 0;
    mid = old;
    more = refl;
    ends = (refl, ap (λ k. missed (due h k) k) same, ap (λ k. is_some (due h k)) (sym same) ∙ some);
  }
  fails_at (suc n) old mid (first, later) some =
      let next = written old (due h old) in
      one_before old next (missed (due h mid) mid) (Err Failed) (steps_more old (due_first n next mid later some)) (fails_at n next mid later some)

  pub stopped : (old new : KernelState) (fault : KernelFault) → Stops h old fault new → Finishes h old (Err fault) new
  stopped old new fault s =
      subst (λ (f : KernelFault). Finishes h old (Err f) new) (sym s.fault)
      (subst (λ (k : KernelState). Finishes h old (Err Failed) k) (sym s.is) (fails_at s.made.0 old s.mid s.made.1 s.wanted))

-- after both walks nothing is due
module _ (h : Targets) (old mid new : KernelState) where
  both : (made : HaveReleased h (length h.entries) old mid) → HaveMoved h (length h.entries) mid new → Finishes h old (Ok tt) new
  both made moved =
      let all = joined h old mid new made.made moved.made in
      let rest : due h new ≡ None =
      ap (λ o. first_write new h.reserved o (find (must_move new) h.entries)) (none_found (must_release new h.reserved) h.entries moved.keep)
      ∙ ap (first_write new h.reserved None)
      (none_found (must_move new) h.entries (subst (NoneMust (must_move new)) (take_all (length h.entries) h.entries (omega arith)) moved.hold)) in
      done_at h all.0 old new all.1 rest

  -- the second walk, by what it answers
  pub walked : (r : Result (Unit {0}) KernelFault) → HaveReleased h (length h.entries) old mid → TakesTargets h mid r new → Finishes h old r new
  walked (Ok _) made moved = both made moved
  walked (Err fault) made stops = stopped h old new fault (stops_after h old mid new fault made.made stops)

-- what each step leaves, all leave
module _ (h : Targets) (valid : IsHandover h) where
  step_places : (old new : KernelState) (r : Result Progress KernelFault) → ArePlaced old h.entries → Steps h old r new → ArePlaced new h.entries
  step_places old new r placed s = placed_alike old new h.entries (step_keeps h valid old new placed r s).alike placed

  module _ (P : KernelState → Type 0) (keeps : (old new : KernelState) → ArePlaced old h.entries → Steps h old (Ok More) new → P old → P new) where
    along : (n : ℕ) (old mid : KernelState) → StepsMore h n old mid → ArePlaced old h.entries → P old → P mid × ArePlaced mid h.entries
    along zero old mid same placed p = (subst P (sym same) p, subst (λ k. ArePlaced k h.entries) (sym same) placed)
    along (suc n) old mid (next, s, more) placed p = along n next mid more (step_places old next (Ok More) placed s) (keeps old next placed s p)

  module _ (old new : KernelState) (placed : ArePlaced old h.entries) (r : Result (Unit {0}) KernelFault) (f : Finishes h old r new) where
    placed_then : ArePlaced f.mid h.entries
    placed_then = (along (λ k. Unit {0}) (λ a b p s u. tt) f.steps old f.mid f.more placed tt).1

    pub finish_places : ArePlaced new h.entries
    finish_places = step_places f.mid new (last_answer r) placed_then f.ends

    pub finish_safe : IsSafe old h.reserved (holders_of h.entries) → IsSafe new h.reserved (holders_of h.entries)
    finish_safe safe =
        step_safe h valid f.mid new placed_then (last_answer r) f.ends
        (along (λ k. IsSafe k h.reserved (holders_of h.entries)) (λ a b p s. step_safe h valid a b p (Ok More) s) f.steps old f.mid f.more placed safe).0

    pub finish_between : (first : KernelState) → Between h first old → Between h first new
    finish_between first between =
        step_between h valid f.mid new placed_then first (last_answer r) f.ends
        (along (Between h first) (λ a b p s. step_between h valid a b p first (Ok More) s) f.steps old f.mid f.more placed between).0

    pub finish_keeps : KeepsRest h old new
    finish_keeps =
        rest_then h old f.mid new
        (along (KeepsRest h old) (λ a b p s k. rest_then h old a b k (step_keeps h valid a b p (Ok More) s)) f.steps old f.mid f.more placed (keeps_itself h old)).0
        (step_keeps h valid f.mid new placed_then (last_answer r) f.ends)

    same_rise : (x : Result (Unit {0}) KernelFault) → rise (last_answer x) ≡ rise x
    same_rise (Ok _) = refl
    same_rise (Err fault) = refl

    pub finish_counts : new.failures ≡ old.failures + rise r
    finish_counts =
        let more : f.mid.failures ≡ old.failures =
        (along (λ k. k.failures ≡ old.failures)
        (λ a b p s e. let one : b.failures ≡ a.failures + 0 = step_counts h valid a b p (Ok More) s in omega (arith, one, e)) f.steps old f.mid f.more placed refl).0 in
        step_counts h valid f.mid new placed_then (last_answer r) f.ends ∙ ap (λ n. n + rise (last_answer r)) more ∙ ap (λ n. old.failures + n) (same_rise r)

    pub finish_spends : Spends h old (rise r) new
    finish_spends =
        let more : Spends h old 0 f.mid =
        (along (λ k. Spends h old 0 k)
        (λ a b p s e. let one : Spends h a 0 b = step_spends h valid a b p (Ok More) s in omega (arith, one, e)) f.steps old f.mid f.more placed (omega arith)).0 in
        let last : Spends h f.mid (rise (last_answer r)) new = step_spends h valid f.mid new placed_then (last_answer r) f.ends in
        omega (arith, more, last, same_rise r)

    pub finish_few : writes new ≤ writes old + 2 * length h.entries + rise r
    finish_few = omega (arith, finish_spends, at_most_two h old)

-- at the end each live container has its target
pub finish_done : (h : Targets) (valid : IsHandover h) (old new : KernelState) → ArePlaced old h.entries → (r : Result (Unit {0}) KernelFault) → Finishes h old r new → IsOk r
    → HaveTargets new h.entries
finish_done h valid old new placed (Ok _) f ok =
    step_done h valid f.mid new (placed_then h valid old new placed (Ok tt) f) (Ok Done) f.ends (finish_places h valid old new placed (Ok tt) f) refl
finish_done h valid old new placed (Err fault) f ok = absurd (false≢true ok)

-- and each write that was to come was made
pub finish_all : (h : Targets) (valid : IsHandover h) (old new : KernelState) → ArePlaced old h.entries → (r : Result (Unit {0}) KernelFault) → Finishes h old r new → IsOk r
    → writes new ≡ writes old + writes_to_come h old
finish_all h valid old new placed (Ok v) f ok =
    let none : writes_to_come h new ≡ 0 = done_none h f.mid new (Ok Done) f.ends refl in
    let spends : Spends h old 0 new = finish_spends h valid old new placed (Ok v) f in
    omega (arith, none, spends)
finish_all h valid old new placed (Err fault) f ok = absurd (false≢true ok)
