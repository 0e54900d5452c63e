-- What a step of a direct hand-over leaves, whatever it answers.
use Rattle.std.proofs.Common.{◌≡◌, ℕ, ◌+◌, ◌≤◌, true, false, refl, sym, ap, ◌∙◌, subst, arith, inl, inr}
use Rattle.std.proofs.lemmas.Bool.{false≢true}
use Rattle.std.specs.Prelude.{◌⊎◌, cond, find, Option, Some, None, IfSome, is_none, is_some, Result, Ok, Err}
use Rattle.std.specs.List.{AllByRecursion}
use Rattle.std.specs.FinSet as set
use Rattle.cpu_set.specs.Ids.{Ids}
use Rattle.kernel_model.specs.declared.fault.KernelFault.{KernelFault}
use Rattle.kernel_model.specs.KernelState.{KernelState, writes}
use Rattle.kernel_model.specs.Cases.{rise}
use Rattle.kernel_model.specs.KernelLemmas.{itself_alike}
use Rattle.apply_plan.specs.declared.entry.Entry.{Entry}
use Rattle.apply_plan.specs.declared.scan.Write.{Write}
use Rattle.apply_plan.specs.declared.handover.Progress.{Progress}
use Rattle.apply_plan.specs.declared.handover.Progress.TheVariants.{More, Done}
use Rattle.apply_plan.specs.Holders.{IsSafe}
use Rattle.apply_plan.specs.Targets.{holders_of, IsHandover, IsPlaced, ArePlaced}
use Rattle.apply_plan.specs.DueWrite.{held, must_move, progress_of, written, missed, HasTarget, HaveTargets}
use Rattle.apply_plan.specs.Leaves.{KeepsRest}
use Rattle.apply_plan.specs.ListLemmas.{all_map, all_map2, find_among, find_none}
use Rattle.apply_plan.specs.WriteLemmas.{holds_target, Left, all_left}
use Rattle.apply_plan.specs.KernelFactLemmas.{with_request, is_write, missed_makes}
use Rattle.apply_plan.specs.HandoverLemmas.{write_keeps, keeps_itself, nothing_due}
use Rattle.apply_plan.specs.DirectWords.{are_free}
use Rattle.apply_plan.specs.MayWrite.{OnWay, MayWrite, left_directly}
use Rattle.apply_plan.specs.Directed.{Directed, allowed_of, Least, Serves}
use Rattle.apply_plan.specs.OnWay.{AreOnWay, Makes}
use Rattle.apply_plan.specs.DirectWrite.{due_directly, StepsDirectly, LowersDirectly, made_directly}
use Rattle.apply_plan.specs.DirectLemmas.{both_of, each_lowers, blocking_lets, lets_moves}
use Rattle.apply_plan.specs.DirectCaseLemmas.{Direct, Rests, direct_is, makes}
use Rattle.apply_plan.specs.RingLemmas.{one_is_there}

module _ (d : Directed) (valid : IsHandover d.targets) (old : KernelState) (placed : ArePlaced old d.targets.entries) where
  -- what one write leaves, whichever it is of those that may be made
  module _ (w : Write) (m : Makes d old w) where
    there : IsPlaced old m.e.group
    there = find_among m.test (λ a. IsPlaced old a.group) d.targets.entries m.e placed m.found

    pub made_places : IsPlaced old w.group
    made_places = subst (λ (x : Write). IsPlaced old x.group) (sym m.is) there

    pub made_safe : IsSafe old d.targets.reserved (holders_of d.targets.entries) → IsSafe (written old (Some w)) d.targets.reserved (holders_of d.targets.entries)
    made_safe safe =
        subst (λ (x : Write). IsSafe (written old (Some x)) d.targets.reserved (holders_of d.targets.entries)) (sym m.is)
        ((each_lowers d.targets old m.test m.e m.cpus valid placed m.found m.may).0 safe)

    pub made_lowers : left_directly d.targets (written old (Some w)) + 1 ≤ left_directly d.targets old
    made_lowers =
        subst (λ (x : Write). left_directly d.targets (written old (Some x)) + 1 ≤ left_directly d.targets old) (sym m.is)
        (each_lowers d.targets old m.test m.e m.cpus valid placed m.found m.may).1

    pub made_keeps : KeepsRest d.targets old (written old (Some w))
    made_keeps = subst (λ (x : Write). KeepsRest d.targets old (written old (Some x))) (sym m.is) (write_keeps d.targets valid old placed m.e m.cpus m.test m.found)

    -- it is of one that must move
    pub made_moves : must_move old m.e ≡ true
    made_moves = by m.may where
      by : MayWrite d.targets old m.e m.cpus → must_move old m.e ≡ true
      by (inl take) = (both_of (must_move old m.e) (are_free old d.targets.reserved d.targets.entries m.e m.e.target) take.0).0
      by (inr way) = lets_moves old d.targets.reserved m.e
          (blocking_lets old (with_request old m.e.group m.cpus) d.targets valid m.e m.cpus (is_write old m.e.group m.cpus there.there) m.test m.found way.blocked)

    -- what each entry holds after it
    pub made_left : AllByRecursion (Left old (written old (Some w)) m.e m.cpus) d.targets.entries
    made_left =
        subst (λ (x : Write). AllByRecursion (Left old (written old (Some x)) m.e m.cpus) d.targets.entries) (sym m.is)
        (all_left old (with_request old m.e.group m.cpus) m.e m.cpus (is_write old m.e.group m.cpus there.there) m.test d.targets.entries valid.groups m.found)

    pub made_on_way : (first : KernelState) → AreOnWay d first old → AreOnWay d first (written old (Some w))
    made_on_way first all =
        all_map2 (Left old (written old (Some w)) m.e m.cpus) (λ a. OnWay d.targets.reserved (allowed_of d a) first a (held old a))
        (λ a. OnWay d.targets.reserved (allowed_of d a) first a (held (written old (Some w)) a)) one d.targets.entries made_left all where
          chain : (a : Entry) → a ≡ m.e → OnWay d.targets.reserved (allowed_of d a) first a (held old a) → (q : ℕ)
              → (set.contains (held old m.e) q ≡ true) ⊎ ((set.contains m.e.target q ≡ true) ⊎ ((set.contains d.targets.reserved q ≡ true) ⊎ (set.contains (allowed_of d m.e) q ≡ true)))
              → (set.contains (held first a) q ≡ true) ⊎ ((set.contains a.target q ≡ true) ⊎ ((set.contains d.targets.reserved q ≡ true) ⊎ (set.contains (allowed_of d a) q ≡ true)))
          chain a is before q (inl x) = before.within q (ap (λ (z : Entry). set.contains (held old z) q) is ∙ x)
          chain a is before q (inr (inl x)) = inr (inl (ap (λ (z : Entry). set.contains z.target q) is ∙ x))
          chain a is before q (inr (inr (inl x))) = inr (inr (inl x))
          chain a is before q (inr (inr (inr x))) = inr (inr (inr (ap (λ (z : Entry). set.contains (allowed_of d z) q) is ∙ x)))

          one : (a : Entry) → Left old (written old (Some w)) m.e m.cpus a → OnWay d.targets.reserved (allowed_of d a) first a (held old a)
              → OnWay d.targets.reserved (allowed_of d a) first a (held (written old (Some w)) a)
          one a (inl p) before = record {
            keeps = λ q x t.
                ap (λ (s : Ids). set.contains s q) p.1
                ∙ m.on_way.keeps q (ap (λ (z : Entry). set.contains (held old z) q) (sym p.0) ∙ before.keeps q x t) (ap (λ (z : Entry). set.contains z.target q) (sym p.0) ∙ t);
            within = λ q x. chain a p.0 before q (m.on_way.within q (ap (λ (s : Ids). set.contains s q) (sym p.1) ∙ x));
          }
          one a (inr p) before = record {
            keeps = λ q x t. ap (λ (s : Ids). set.contains s q) p ∙ before.keeps q x t;
            within = λ q x. before.within q (ap (λ (s : Ids). set.contains s q) (sym p) ∙ x);
          }

-- the write that is due, or none
module _ (d : Directed) (valid : IsHandover d.targets) (least : Least) (gives : Serves d least) (old : KernelState) (placed : ArePlaced old d.targets.entries) where
  pub direct_places : (o : Option Write) → Direct d least old o → IfSome o (λ w. IsPlaced old w.group)
  direct_places None is = tt
  direct_places (Some w) is = made_places d valid old placed w (makes d valid least gives old w is)

  direct_safe : (o : Option Write) → Direct d least old o → IsSafe old d.targets.reserved (holders_of d.targets.entries) → IsSafe (written old o) d.targets.reserved (holders_of d.targets.entries)
  direct_safe None is safe = safe
  direct_safe (Some w) is safe = made_safe d valid old placed w (makes d valid least gives old w is) safe

  direct_lowers : (o : Option Write) → Direct d least old o → left_directly d.targets (written old o) + cond (is_some o) 1 0 ≤ left_directly d.targets old
  direct_lowers None is = omega arith
  direct_lowers (Some w) is = made_lowers d valid old placed w (makes d valid least gives old w is)

  direct_on_way : (first : KernelState) (o : Option Write) → Direct d least old o → AreOnWay d first old → AreOnWay d first (written old o)
  direct_on_way first None is all = all
  direct_on_way first (Some w) is all = made_on_way d valid old placed w (makes d valid least gives old w is) first all

  direct_keeps : (o : Option Write) → Direct d least old o → KeepsRest d.targets old (written old o)
  direct_keeps None is = keeps_itself d.targets old
  direct_keeps (Some w) is = made_keeps d valid old placed w (makes d valid least gives old w is)

  -- a write is due exactly if one must move
  direct_moves : (o : Option Write) → Direct d least old o → is_none o ≡ is_none (find (must_move old) d.targets.entries)
  direct_moves None (Rests none no_yield no_take) = ap is_none (sym (one_is_there d.targets valid old none.no_mover no_yield no_take))
  direct_moves (Some w) is = by (find (must_move old) d.targets.entries) refl where
    m : Makes d old w
    m = makes d valid least gives old w is

    by : (o : Option Entry) → find (must_move old) d.targets.entries ≡ o → false ≡ is_none o
    by (Some e) at = refl
    by None at = absurd (false≢true (sym (find_among m.test (λ a. must_move old a ≡ false) d.targets.entries m.e (find_none (must_move old) d.targets.entries at) m.found)
        ∙ made_moves d valid old placed w m))

  pub due_if_moves : is_none (due_directly d least old) ≡ is_none (find (must_move old) d.targets.entries)
  due_if_moves = direct_moves (due_directly d least old) (direct_is d least old)

  pub due_places : IfSome (due_directly d least old) (λ w. IsPlaced old w.group)
  due_places = direct_places (due_directly d least old) (direct_is d least old)

  pub told : (progress : Progress) → progress ≡ cond (is_none (find (must_move old) d.targets.entries)) Done More → progress ≡ progress_of (due_directly d least old)
  told progress is = is ∙ ap (λ b. cond b Done More) (sym due_if_moves) ∙ by (due_directly d least old) where
    by : (o : Option Write) → cond (is_none o) Done More ≡ progress_of o
    by None = refl
    by (Some w) = refl

module _ (d : Directed) (valid : IsHandover d.targets) (least : Least) (gives : Serves d least) (old new : KernelState) (placed : ArePlaced old d.targets.entries) where
  now : Direct d least old (due_directly d least old)
  now = direct_is d least old

  pub step_safe : (r : Result Progress KernelFault) → StepsDirectly d least old r new → IsSafe old d.targets.reserved (holders_of d.targets.entries) → IsSafe new d.targets.reserved (holders_of d.targets.entries)
  step_safe (Ok answer) s safe =
      subst (λ k. IsSafe k d.targets.reserved (holders_of d.targets.entries)) (sym s.0) (direct_safe d valid least gives old placed (due_directly d least old) now safe)
  step_safe (Err fault) s safe = subst (λ k. IsSafe k d.targets.reserved (holders_of d.targets.entries)) (sym s.1) (record { apart = safe.apart; some = safe.some })

  pub step_lowers : (r : Result Progress KernelFault) → StepsDirectly d least old r new → LowersDirectly d least old r new
  step_lowers (Ok answer) s =
      subst (λ k. left_directly d.targets k + cond (is_some (due_directly d least old)) 1 0 ≤ left_directly d.targets old) (sym s.0)
      (direct_lowers d valid least gives old placed (due_directly d least old) now)
  step_lowers (Err fault) s = ap (left_directly d.targets) s.1

  pub step_on_way : (first : KernelState) (r : Result Progress KernelFault) → StepsDirectly d least old r new → AreOnWay d first old → AreOnWay d first new
  step_on_way first (Ok answer) s all = subst (AreOnWay d first) (sym s.0) (direct_on_way d valid least gives old placed first (due_directly d least old) now all)
  step_on_way first (Err fault) s all =
      subst (AreOnWay d first) (sym s.1)
      (all_map (λ a. OnWay d.targets.reserved (allowed_of d a) first a (held old a)) (λ a. OnWay d.targets.reserved (allowed_of d a) first a (held (missed (due_directly d least old) old) a))
      (λ a o. record { keeps = o.keeps; within = o.within }) d.targets.entries all)

  pub step_done : (r : Result Progress KernelFault) → StepsDirectly d least old r new → ArePlaced new d.targets.entries → r ≡ Ok Done → HaveTargets new d.targets.entries
  step_done (Ok answer) s there is =
      all_map (λ a. must_move new a ≡ false) (HasTarget new) (λ a stays live. holds_target new a stays live) d.targets.entries
      (find_none (must_move new) d.targets.entries (none_of (find (must_move new) d.targets.entries)
      (sym (due_if_moves d valid least gives new there) ∙ ap is_none (nothing_due (due_directly d least new) (sym s.1 ∙ cc))))) where
        none_of : (o : Option Entry) → is_none o ≡ true → o ≡ None
        none_of None e = refl
        none_of (Some x) e = absurd (false≢true e)
  step_done (Err fault) s there is = absurd (let x : ⊥ = cc is in x)

  pub step_counts : (r : Result Progress KernelFault) → StepsDirectly d least old r new → new.failures ≡ old.failures + rise r
  step_counts (Ok answer) s = ap (λ k. k.failures) s.0 ∙ same (due_directly d least old) where
    same : (o : Option Write) → (written old o).failures ≡ old.failures + 0
    same None = omega arith
    same (Some w) = omega arith
  step_counts (Err fault) s = ap (λ k. k.failures) s.1 ∙ ap (λ f. old.failures + rise {A = Progress} (Err f)) (sym s.0)

  pub step_makes : (r : Result Progress KernelFault) → StepsDirectly d least old r new → writes new ≡ writes old + made_directly d least old
  step_makes (Ok answer) s = ap writes s.0 ∙ same (due_directly d least old) where
    same : (o : Option Write) → writes (written old o) ≡ writes old + cond (is_some o) 1 0
    same None = omega arith
    same (Some w) = omega arith
  step_makes (Err fault) s = ap writes s.1 ∙ missed_makes (due_directly d least old) old

  pub step_keeps : (r : Result Progress KernelFault) → StepsDirectly d least old r new → KeepsRest d.targets old new
  step_keeps (Ok answer) s = subst (KeepsRest d.targets old) (sym s.0) (direct_keeps d valid least gives old placed (due_directly d least old) now)
  step_keeps (Err fault) s = subst (KeepsRest d.targets old) (sym s.1) (record {
    table = refl;
    present = refl;
    reserved = refl;
    online = refl;
    nodes = refl;
    alike = itself_alike old.tree;
    mems = λ g. refl;
    others = λ g o. refl;
  })
