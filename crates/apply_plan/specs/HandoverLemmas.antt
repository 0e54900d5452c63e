-- What a step of a hand-over leaves, whatever it answers.
use Rattle.std.proofs.Common.{◌≡◌, ℕ, ◌+◌, ◌*◌, ◌≤◌, Bool, true, false, List, [], ◌∷◌, length, refl, sym, ap, ◌∙◌, subst, arith, inr}
use Rattle.std.proofs.lemmas.Option.{none-some}
use Rattle.std.proofs.lemmas.List.Sums.{sum_by-cons}
use Rattle.std.specs.List.{AllByRecursion, sum_by}
use Rattle.std.specs.Prelude.{◌⊎◌, cond, find, Option, Some, None, is_some, Result, Ok, Err}
use Rattle.cpu_set.specs.Ids.{Ids, is_same, is_empty}
use Rattle.cpuset_tree.specs.Groups.{same_group}
use Rattle.cpuset_tree.specs.TreeLemmas.{writes_request}
use Rattle.proctable.specs.Processes.{is_alive}
use Rattle.kernel_model.specs.declared.fault.KernelFault.{KernelFault}
use Rattle.kernel_model.specs.KernelState.{KernelState, writes}
use Rattle.kernel_model.specs.Cases.{rise}
use Rattle.apply_plan.specs.declared.entry.Entry.{Entry}
use Rattle.apply_plan.specs.declared.scan.Write.{Write}
use Rattle.apply_plan.specs.declared.handover.Progress.{Progress}
use Rattle.apply_plan.specs.declared.handover.Progress.TheVariants.{Done}
use Rattle.apply_plan.specs.Holders.{IsSafe}
use Rattle.apply_plan.specs.Kept.{kept}
use Rattle.apply_plan.specs.Targets.{Targets, holders_of, IsHandover, IsPlaced, ArePlaced}
use Rattle.apply_plan.specs.DueWrite.{held, kept_of, must_release, must_move, release_of, move_of, due, written, progress_of, Steps, writes_of, writes_to_come, HasTarget, HaveTargets, IsBetween, Between, Lowers, made_by_step, Spends}
use Rattle.apply_plan.specs.Leaves.{KeepsRest}
use Rattle.apply_plan.specs.ListLemmas.{all_map, find_none, find_among, sum_bounded}
use Rattle.apply_plan.specs.KernelFactLemmas.{with_request, is_write, missed_makes, stands}
use Rattle.apply_plan.specs.WriteLemmas.{holds_target}
use Rattle.apply_plan.specs.StepLemmas.{waits_at_most, released_safe, released_lowers, moved_safe, moved_lowers, stays_between, keeps_between}
use Rattle.apply_plan.specs.DueLemmas.{Due, Releases, Moves, Rests, due_is}
use Rattle.kernel_model.specs.KernelLemmas.{itself_alike}

module _ (h : Targets) (valid : IsHandover h) (old : KernelState) (placed : ArePlaced old h.entries) where
  -- the group of an entry that was found is in the tree
  there : (test : Entry → Bool) (e : Entry) → find test h.entries ≡ Some e → IsPlaced old e.group
  there test e found = find_among test (λ a. IsPlaced old a.group) h.entries e placed found

  written_safe : (d : Option Write) → Due old h.reserved h.entries d → IsSafe old h.reserved (holders_of h.entries) → IsSafe (written old d) h.reserved (holders_of h.entries)
  written_safe d (Releases e found) safe =
      released_safe old (with_request old e.group (kept_of old h.reserved e)) h valid e found
      (is_write old e.group (kept_of old h.reserved e) (there (must_release old h.reserved) e found).there) safe
  written_safe d (Moves e none found) safe =
      moved_safe old (with_request old e.group e.target) h valid e none found (is_write old e.group e.target (there (must_move old) e found).there) safe
  written_safe d (Rests r m) safe = safe

  written_lowers : (d : Option Write) → Due old h.reserved h.entries d → writes_to_come h old ≡ writes_to_come h (written old d) + cond (is_some d) 1 0
  written_lowers d (Releases e found) =
      released_lowers old (with_request old e.group (kept_of old h.reserved e)) h valid e found
      (is_write old e.group (kept_of old h.reserved e) (there (must_release old h.reserved) e found).there)
  written_lowers d (Moves e none found) =
      moved_lowers old (with_request old e.group e.target) h valid e none found (is_write old e.group e.target (there (must_move old) e found).there)
  written_lowers d (Rests r m) = omega arith

  written_between : (first : KernelState) (d : Option Write) → Due old h.reserved h.entries d → Between h first old → Between h first (written old d)
  written_between first d (Releases e found) between =
      stays_between first old (with_request old e.group (kept_of old h.reserved e)) h valid e (kept_of old h.reserved e)
      (is_write old e.group (kept_of old h.reserved e) (there (must_release old h.reserved) e found).there) (must_release old h.reserved) found
      (λ a is b. subst (λ x. (kept_of old h.reserved e ≡ held first x) ⊎ ((kept_of old h.reserved e ≡ kept h.reserved x.target (held first x)) ⊎ (kept_of old h.reserved e ≡ x.target)))
      (sym is) (keeps_between first old h valid e (find_among (must_release old h.reserved) (λ a. is_empty a.target ≡ false) h.entries e valid.some found)
      (subst (IsBetween h.reserved first old) is b)))
      between
  written_between first d (Moves e none found) between =
      stays_between first old (with_request old e.group e.target) h valid e e.target
      (is_write old e.group e.target (there (must_move old) e found).there) (must_move old) found (λ a is b. inr (inr (ap (λ x. x.target) (sym is)))) between
  written_between first d (Rests r m) between = between

  -- where nothing is due, each live container has its target
  rests_at_targets : (d : Option Write) → Due old h.reserved h.entries d → d ≡ None → HaveTargets old h.entries
  rests_at_targets d (Releases e found) is = absurd (none-some (release_of old h.reserved e) (sym is))
  rests_at_targets d (Moves e none found) is = absurd (none-some (move_of e) (sym is))
  rests_at_targets d (Rests r m) is = all_map (λ a. must_move old a ≡ false) (HasTarget old) (λ a f live. holds_target old a f live) h.entries (find_none (must_move old) h.entries m)

pub keeps_itself : (h : Targets) (k : KernelState) → KeepsRest h k k
keeps_itself h k = record {
  table = refl;
  present = refl;
  reserved = refl;
  online = refl;
  nodes = refl;
  alike = itself_alike k.tree;
  mems = λ g. refl;
  others = λ g o. refl;
}

module _ (h : Targets) (valid : IsHandover h) (old : KernelState) (placed : ArePlaced old h.entries) where
  pub write_keeps : (e : Entry) (cpus : Ids) (test : Entry → Bool) → find test h.entries ≡ Some e → KeepsRest h old (with_request old e.group cpus)
  write_keeps e cpus test found = record {
    table = refl;
    present = refl;
    reserved = refl;
    online = refl;
    nodes = refl;
    alike = stands old e.group cpus;
    mems = (writes_request.0 old.tree e.group cpus).mems;
    others = λ g apart. (writes_request.0 old.tree e.group cpus).others g (find_among test (λ a. same_group a.group g ≡ false) h.entries e apart found);
  }

  written_keeps : (d : Option Write) → Due old h.reserved h.entries d → KeepsRest h old (written old d)
  written_keeps d (Releases e found) = write_keeps e (kept_of old h.reserved e) (must_release old h.reserved) found
  written_keeps d (Moves e none found) = write_keeps e e.target (must_move old) found
  written_keeps d (Rests r m) = keeps_itself h old

pub at_most_two : (h : Targets) (k : KernelState) → writes_to_come h k ≤ 2 * length h.entries
at_most_two h k = sum_bounded (writes_of k h.reserved) 2 h.entries (λ e. waits_at_most h.reserved (is_alive k.table e.pid) (held k e) e)

pub nothing_due : (d : Option Write) → progress_of d ≡ Done → d ≡ None
nothing_due None e = refl
nothing_due (Some w) e = absurd (let x : ⊥ = cc in x)

-- where nothing is due, nothing is to come
none_to_come : (k : KernelState) (reserved : Ids) (entries : List Entry) → AllByRecursion (λ e. must_release k reserved e ≡ false) entries
    → AllByRecursion (λ e. must_move k e ≡ false) entries → sum_by (writes_of k reserved) entries ≡ 0
none_to_come k reserved [] keep hold = refl
none_to_come k reserved (e ∷ later) keep hold = both (none (cond (is_same (kept_of k reserved e) e.target) 1 2) 1 (must_release k reserved e) (must_move k e) keep.0 hold.0) (none_to_come k reserved later keep.1 hold.1) where
  none : (x y : ℕ) (r m : Bool) → r ≡ false → m ≡ false → cond r x (cond m y 0) ≡ 0
  none x y false false _ _ = refl
  none x y true m is _ = absurd (let no : ⊥ = cc is in no)
  none x y false true _ is = absurd (let no : ⊥ = cc is in no)

  both : writes_of k reserved e ≡ 0 → sum_by (writes_of k reserved) later ≡ 0 → sum_by (writes_of k reserved) (e ∷ later) ≡ 0
  both a b = omega (arith, sum_by-cons (writes_of k reserved) e later, a, b)

rests_none : (h : Targets) (k : KernelState) (d : Option Write) → Due k h.reserved h.entries d → d ≡ None → writes_to_come h k ≡ 0
rests_none h k d (Releases e found) is = absurd (none-some (release_of k h.reserved e) (sym is))
rests_none h k d (Moves e none found) is = absurd (none-some (move_of e) (sym is))
rests_none h k d (Rests r m) is = none_to_come k h.reserved h.entries (find_none (must_release k h.reserved) h.entries r) (find_none (must_move k) h.entries m)

pub done_none : (h : Targets) (old new : KernelState) (r : Result Progress KernelFault) → Steps h old r new → r ≡ Ok Done → writes_to_come h new ≡ 0
done_none h old new (Ok answer) s is = rests_none h new (due h new) (due_is new h.reserved h.entries) (nothing_due (due h new) (sym s.1 ∙ cc))
done_none h old new (Err fault) s is = absurd (let x : ⊥ = cc in x)

module _ (h : Targets) (valid : IsHandover h) (old new : KernelState) (placed : ArePlaced old h.entries) where
  due_now : Due old h.reserved h.entries (due h old)
  due_now = due_is old h.reserved h.entries

  pub step_safe : (r : Result Progress KernelFault) → Steps h old r new → IsSafe old h.reserved (holders_of h.entries) → IsSafe new h.reserved (holders_of h.entries)
  step_safe (Ok answer) s safe = subst (λ k. IsSafe k h.reserved (holders_of h.entries)) (sym s.0) (written_safe h valid old placed (due h old) due_now safe)
  step_safe (Err fault) s safe = subst (λ k. IsSafe k h.reserved (holders_of h.entries)) (sym s.1) (record { apart = safe.apart; some = safe.some })

  pub step_lowers : (r : Result Progress KernelFault) → Steps h old r new → Lowers h old r new
  step_lowers (Ok answer) s = subst (λ k. writes_to_come h old ≡ writes_to_come h k + cond (is_some (due h old)) 1 0) (sym s.0) (written_lowers h valid old placed (due h old) due_now)
  step_lowers (Err fault) s = ap (writes_to_come h) (sym s.1)

  pub step_between : (first : KernelState) (r : Result Progress KernelFault) → Steps h old r new → Between h first old → Between h first new
  step_between first (Ok answer) s between = subst (Between h first) (sym s.0) (written_between h valid old placed first (due h old) due_now between)
  step_between first (Err fault) s between = subst (Between h first) (sym s.1) between

  pub step_done : (r : Result Progress KernelFault) → Steps h old r new → ArePlaced new h.entries → r ≡ Ok Done → HaveTargets new h.entries
  step_done (Ok answer) s there is = rests_at_targets h valid new there (due h new) (due_is new h.reserved h.entries) (nothing_due (due h new) (sym s.1 ∙ cc))
  step_done (Err fault) s there is = absurd (let x : ⊥ = cc in x)

  pub step_counts : (r : Result Progress KernelFault) → Steps h old r new → new.failures ≡ old.failures + rise r
  step_counts (Ok answer) s = ap (λ k. k.failures) s.0 ∙ same (due h old) where
    same : (d : Option Write) → (written old d).failures ≡ old.failures + 0
    same None = omega arith
    same (Some w) = omega arith
  step_counts (Err fault) s = ap (λ k. k.failures) s.1 ∙ ap (λ f. old.failures + rise {A = Progress} (Err f)) (sym s.0)

  pub step_makes : (r : Result Progress KernelFault) → Steps h old r new → writes new ≡ writes old + made_by_step h old
  step_makes (Ok answer) s = ap writes s.0 ∙ more (due h old) where
    more : (d : Option Write) → writes (written old d) ≡ writes old + cond (is_some d) 1 0
    more None = omega arith
    more (Some w) = omega arith
  step_makes (Err fault) s = ap writes s.1 ∙ missed_makes (due h old) old

  pub step_spends : (r : Result Progress KernelFault) → Steps h old r new → Spends h old (rise r) new
  step_spends (Ok answer) s =
      let made : writes new ≡ writes old + made_by_step h old = step_makes (Ok answer) s in
      let less : writes_to_come h old ≡ writes_to_come h new + made_by_step h old = step_lowers (Ok answer) s in
      omega (arith, made, less)
  step_spends (Err fault) s =
      let made : writes new ≡ writes old + 1 = step_makes (Err fault) s ∙ ap (λ (b : Bool). writes old + cond b 1 0) s.2 in
      let same : writes_to_come h old ≡ writes_to_come h new = step_lowers (Err fault) s in
      let risen : rise {A = Progress} (Err fault) ≡ 1 = ap (λ (f : KernelFault). rise {A = Progress} (Err f)) s.0 in
      omega (arith, made, same, risen)

  pub step_keeps : (r : Result Progress KernelFault) → Steps h old r new → KeepsRest h old new
  step_keeps (Ok answer) s = subst (KeepsRest h old) (sym s.0) (written_keeps h valid old placed (due h old) due_now)
  step_keeps (Err fault) s = subst (KeepsRest h old) (sym s.1) (record {
    table = refl;
    present = refl;
    reserved = refl;
    online = refl;
    nodes = refl;
    alike = itself_alike old.tree;
    mems = λ g. refl;
    others = λ g o. refl;
  })
