-- A direct hand-over squeezes only whoever is stuck in a ring.
use Rattle.std.proofs.Common.{◌≡◌, Bool, true, false, not, ◌&&◌, ◌||◌, refl, sym, ap, ◌∙◌, subst, inl, inr}
use Rattle.std.proofs.lemmas.Bool.{false≢true}
use Rattle.std.specs.Prelude.{find, Option, Some, None, is_none, is_some, Result, Ok, Err}
use Rattle.std.specs.List.{AllByRecursion}
use Rattle.std.specs.FinSet as set
use Rattle.cpu_set.specs.Ids.{Ids, is_empty}
use Rattle.cpu_set.specs.PointwiseLaws.{is_same_decides}
use Rattle.kernel_model.specs.declared.fault.KernelFault.{KernelFault}
use Rattle.kernel_model.specs.KernelState.{KernelState}
use Rattle.apply_plan.specs.declared.entry.Entry.{Entry}
use Rattle.apply_plan.specs.declared.scan.Write.{Write}
use Rattle.apply_plan.specs.declared.handover.Progress.{Progress}
use Rattle.apply_plan.specs.Targets.{IsHandover, IsPlaced, ArePlaced}
use Rattle.apply_plan.specs.DueWrite.{held, must_move, written, missed}
use Rattle.apply_plan.specs.ListLemmas.{all_map, all_map2, all_of, find_none, find_passes, find_among}
use Rattle.apply_plan.specs.WriteLemmas.{by_test, Left, all_left}
use Rattle.apply_plan.specs.DirectWords.{has_own, are_free, lets_go, blocks, spare, places, way}
use Rattle.apply_plan.specs.Rings.{next, in_ring, rings_stand}
use Rattle.apply_plan.specs.Directed.{Directed, allowed_of, Least, Serves}
use Rattle.apply_plan.specs.MayWrite.{write_of}
use Rattle.apply_plan.specs.DirectWrite.{goes, is_mover, is_grower, must_yield, shares, shared_way, has_room, has_place, steps_aside, aside, squeezed, due_directly, StepsDirectly}
use Rattle.apply_plan.specs.Squeezes.{IsSqueezed, IsFull, IsStuck, SqueezesOnlyStuck}
use Rattle.apply_plan.specs.DirectLemmas.{both_of, none_own, own_none, lets_moves}
use Rattle.apply_plan.specs.SetMemberLaws.{in_meet, union_left, union_right, no_more}
use Rattle.apply_plan.specs.DirectCaseLemmas as cases
use Rattle.apply_plan.specs.DirectCaseLemmas.{Direct, NoneGoes, direct_is, extra, extra_within, extra_some, of_spare}
use Rattle.cpu_set.specs.SetLaws.{empty_of_none, is_empty-empty}
use Rattle.apply_plan.specs.KernelFactLemmas.{is_write}

module _ (d : Directed) (valid : IsHandover d.targets) (least : Least) (gives : Serves d least) (k : KernelState) where
  -- where no target is free that is taken first, none that is pinned or lets go takes its own
  module _ (none : NoneGoes k d.targets.reserved d.targets.entries) where
    no_grower : (a : Entry) → is_grower k d.targets.reserved d.targets.entries a ≡ false → is_mover k d.targets.reserved d.targets.entries a ≡ false
        → (a.pinned || lets_go k d.targets.reserved a) ≡ true → goes k d.targets.reserved d.targets.entries a ≡ false
    no_grower a grows moves one = by a.pinned (lets_go k d.targets.reserved a) (goes k d.targets.reserved d.targets.entries a) grows moves one where
      by : (p l g : Bool) → (p && g) ≡ false → (l && g) ≡ false → (p || l) ≡ true → g ≡ false
      by true l g a b c = a
      by false true g a b c = b
      by false false g a b c = absurd (false≢true c)

    pub none_of_them_goes : AllByRecursion (λ a. (a.pinned || lets_go k d.targets.reserved a) ≡ true → goes k d.targets.reserved d.targets.entries a ≡ false) d.targets.entries
    none_of_them_goes =
        all_map2 (λ a. is_grower k d.targets.reserved d.targets.entries a ≡ false) (λ a. is_mover k d.targets.reserved d.targets.entries a ≡ false)
        (λ a. (a.pinned || lets_go k d.targets.reserved a) ≡ true → goes k d.targets.reserved d.targets.entries a ≡ false) no_grower d.targets.entries
        (find_none (is_grower k d.targets.reserved d.targets.entries) d.targets.entries none.no_grower)
        (find_none (is_mover k d.targets.reserved d.targets.entries) d.targets.entries none.no_mover)

    pub each_of_them_waits : AllByRecursion (λ a. lets_go k d.targets.reserved a ≡ true → is_some (next k d.targets.reserved d.targets.entries a) ≡ true) d.targets.entries
    each_of_them_waits =
        all_map (λ a. is_mover k d.targets.reserved d.targets.entries a ≡ false) (λ a. lets_go k d.targets.reserved a ≡ true → is_some (next k d.targets.reserved d.targets.entries a) ≡ true)
        (λ a stays lets. some_if (next k d.targets.reserved d.targets.entries a)
        (by (lets_go k d.targets.reserved a) (must_move k a) (are_free k d.targets.reserved d.targets.entries a a.target) (set.is_subset (spare k d.targets.reserved d.targets.entries) a.target && rings_stand k d.targets.reserved d.targets.entries)
        lets (lets_moves k d.targets.reserved a lets) stays)) d.targets.entries
        (find_none (is_mover k d.targets.reserved d.targets.entries) d.targets.entries none.no_mover) where
          some_if : (o : Option Entry) → is_none o ≡ false → is_some o ≡ true
          some_if (Some x) e = refl
          some_if None e = absurd (false≢true (sym e))

          by : (l m f g : Bool) → l ≡ true → m ≡ true → (l && ((m && f) && not (not l && g))) ≡ false → f ≡ false
          by true true false g a b c = refl
          by true true true g a b c = absurd (false≢true (sym c))
          by false m f g a b c = absurd (false≢true a)
          by true false f g a b c = absurd (false≢true b)

  -- where none that shares yields and none steps aside, whoever must yield is full
  module _ (no_share : find (shares k d.targets.reserved d.targets.entries) d.targets.entries ≡ None)
      (no_aside : find (steps_aside k d.targets.reserved d.targets.entries (allowed_of d) least) d.targets.entries ≡ None) where
    full_one : (a : Entry) → shares k d.targets.reserved d.targets.entries a ≡ false → steps_aside k d.targets.reserved d.targets.entries (allowed_of d) least a ≡ false
        → must_yield k d.targets.reserved d.targets.entries a ≡ true → IsFull d least k a
    full_one a shared aside yields =
        let pinned : a.pinned ≡ true = own a.pinned (must_yield k d.targets.reserved d.targets.entries a) yields shared in
        let both_off = none_of a.pinned (must_yield k d.targets.reserved d.targets.entries a) (has_room k d.targets.reserved d.targets.entries a) (has_place k d.targets.reserved d.targets.entries (allowed_of d) least a) pinned yields aside in
        record { pinned = pinned; no_room = both_off.0; no_place = both_off.1 } where
          own : (p y : Bool) → y ≡ true → (not p && y) ≡ false → p ≡ true
          own true y a b = refl
          own false y a b = absurd (false≢true (sym b ∙ a))

          none_of : (p y r l : Bool) → p ≡ true → y ≡ true → (p && (y && (r || l))) ≡ false → (r ≡ false) × (l ≡ false)
          none_of true true false false a b c = (refl, refl)
          none_of true true true l a b c = absurd (false≢true (sym c))
          none_of true true false true a b c = absurd (false≢true (sym c))
          none_of false y r l a b c = absurd (false≢true a)
          none_of true false r l a b c = absurd (false≢true b)

    pub all_are_full : AllByRecursion (λ a. must_yield k d.targets.reserved d.targets.entries a ≡ true → IsFull d least k a) d.targets.entries
    all_are_full =
        all_map2 (λ a. shares k d.targets.reserved d.targets.entries a ≡ false) (λ a. steps_aside k d.targets.reserved d.targets.entries (allowed_of d) least a ≡ false)
        (λ a. must_yield k d.targets.reserved d.targets.entries a ≡ true → IsFull d least k a) full_one d.targets.entries
        (find_none (shares k d.targets.reserved d.targets.entries) d.targets.entries no_share)
        (find_none (steps_aside k d.targets.reserved d.targets.entries (allowed_of d) least) d.targets.entries no_aside)

    pub is_stuck : (e : Entry) → NoneGoes k d.targets.reserved d.targets.entries → find (must_yield k d.targets.reserved d.targets.entries) d.targets.entries ≡ Some e → IsStuck d least k e
    is_stuck e none found =
        let yields = find_passes (must_yield k d.targets.reserved d.targets.entries) d.targets.entries e found in
        record {
          none_goes = none_of_them_goes none;
          each_waits = each_of_them_waits none;
          all_full = all_are_full;
          ring = (both_of (blocks k d.targets.reserved d.targets.entries e) (in_ring k d.targets.reserved d.targets.entries e) yields).1;
          full = find_among (must_yield k d.targets.reserved d.targets.entries) (λ a. must_yield k d.targets.reserved d.targets.entries a ≡ true → IsFull d least k a) d.targets.entries e all_are_full found yields;
        }

  -- one that steps aside has CPUs of its own then
  aside_has_own : (e : Entry) → steps_aside k d.targets.reserved d.targets.entries (allowed_of d) least e ≡ true
      → has_own d.targets.reserved (aside k d.targets.reserved d.targets.entries (allowed_of d) least e) ≡ true
  aside_has_own e passes = by_test (has_own d.targets.reserved (aside k d.targets.reserved d.targets.entries (allowed_of d) least e)) (λ own. own)
      (λ none. absurd (false≢true (by_test (has_room k d.targets.reserved d.targets.entries e)
      (λ room. sym (own_none d.targets.reserved (set.intersection (way k d.targets.reserved d.targets.entries e) k.tree.online)
      (λ q m. none_own d.targets.reserved (aside k d.targets.reserved d.targets.entries (allowed_of d) least e) none q
      (union_left (way k d.targets.reserved d.targets.entries e) (extra d valid least gives k e) q (in_meet (way k d.targets.reserved d.targets.entries e) k.tree.online q m).0))) ∙ room)
      (λ no_room. sym (extra_some d valid least gives k e no_room
      (no_more (is_empty (least (places k d.targets.reserved d.targets.entries (allowed_of d e) e) 1))
      (place e.pinned (must_yield k d.targets.reserved d.targets.entries e) (has_room k d.targets.reserved d.targets.entries e) (has_place k d.targets.reserved d.targets.entries (allowed_of d) least e) no_room passes)))
      ∙ is_empty-empty (extra d valid least gives k e) (empty_of_none (extra d valid least gives k e) (λ q from. by_test (set.contains (extra d valid least gives k e) q)
      (λ m. absurd (false≢true (sym (of_spare d valid least gives k e q (extra_within d valid least gives k e q m)).1
      ∙ none_own d.targets.reserved (aside k d.targets.reserved d.targets.entries (allowed_of d) least e) none q
      (union_right (way k d.targets.reserved d.targets.entries e) (extra d valid least gives k e) q m))))
      (λ m. m)))))))
    where
      place : (p y r l : Bool) → r ≡ false → (p && (y && (r || l))) ≡ true → l ≡ true
      place true true false l a b = b
      place true true true l a b = absurd (false≢true (sym a))
      place true false r l a b = absurd (false≢true b)
      place false y r l a b = absurd (false≢true b)

module _ (d : Directed) (valid : IsHandover d.targets) (least : Least) (gives : Serves d least) (old : KernelState) (placed : ArePlaced old d.targets.entries) where
  -- whoever is squeezed by a write is the one that was written
  module _ (test : Entry → Bool) (e : Entry) (cpus : Ids) (found : find test d.targets.entries ≡ Some e) where
    -- the kernel after the write
    abbrev pub after : KernelState
    after = written old (Some (write_of e cpus))

    of_it : ((a : Entry) → a ≡ e → held after a ≡ cpus → IsSqueezed d.targets.reserved old after a → IsStuck d least old a) → SqueezesOnlyStuck d least old after
    of_it stuck =
        all_map (Left old after e cpus) (λ a. IsSqueezed d.targets.reserved old after a → IsStuck d least old a) one d.targets.entries
        (all_left old after e cpus (is_write old e.group cpus (find_among test (λ a. IsPlaced old a.group) d.targets.entries e placed found).there) test d.targets.entries valid.groups found)
      where
        one : (a : Entry) → Left old after e cpus a → IsSqueezed d.targets.reserved old after a → IsStuck d least old a
        one a (inl p) is = stuck a p.0 p.1 is
        one a (inr p) is = absurd (false≢true (sym is.has ∙ ap (has_own d.targets.reserved) p ∙ is.had))

  -- which was stuck
  pub by_write : (w : Write) → Direct d least old (Some w) → SqueezesOnlyStuck d least old (written old (Some w))
  by_write w (cases.Takes test e found takes) = of_it test e e.target found
      (λ a is has squeezed. absurd (false≢true (sym squeezed.way ∙ (is_same_decides _ _).1 (has ∙ ap (λ (x : Entry). x.target) (sym is)))))
  by_write w (cases.Shares e none found) = of_it (shares old d.targets.reserved d.targets.entries) e (shared_way old d.targets.reserved d.targets.entries e) found
      (λ a is has squeezed. absurd (false≢true (sym (ap not (ap (λ (x : Entry). x.pinned) (sym is) ∙ squeezed.pinned))
      ∙ (both_of (not e.pinned) (must_yield old d.targets.reserved d.targets.entries e) (find_passes (shares old d.targets.reserved d.targets.entries) d.targets.entries e found)).0)))
  by_write w (cases.StepsAside e none no_share found) = of_it (steps_aside old d.targets.reserved d.targets.entries (allowed_of d) least) e (aside old d.targets.reserved d.targets.entries (allowed_of d) least e) found
      (λ a is has squeezed. absurd (false≢true (sym squeezed.has ∙ ap (has_own d.targets.reserved) has
      ∙ aside_has_own d valid least gives old e (find_passes (steps_aside old d.targets.reserved d.targets.entries (allowed_of d) least) d.targets.entries e found))))
  by_write w (cases.IsSqueezed e none no_share no_aside found) = of_it (must_yield old d.targets.reserved d.targets.entries) e (squeezed old d.targets.reserved d.targets.entries e) found
      (λ a is has squeezed. subst (IsStuck d least old) (sym is) (is_stuck d valid least gives old no_share no_aside e none found))

  pub none_squeezed : (new : KernelState) → ((a : Entry) → held new a ≡ held old a) → SqueezesOnlyStuck d least old new
  none_squeezed new same = all_of (λ a. IsSqueezed d.targets.reserved old new a → IsStuck d least old a)
      (λ a is. absurd (false≢true (sym is.has ∙ ap (has_own d.targets.reserved) (same a) ∙ is.had))) d.targets.entries

  by_due : (o : Option Write) → Direct d least old o → SqueezesOnlyStuck d least old (written old o)
  by_due None direct = none_squeezed old (λ a. refl)
  by_due (Some w) direct = by_write w direct

  pub step_squeezes : (new : KernelState) (r : Result Progress KernelFault) → StepsDirectly d least old r new → SqueezesOnlyStuck d least old new
  step_squeezes new (Ok answer) s = subst (SqueezesOnlyStuck d least old) (sym s.0) (by_due (due_directly d least old) (direct_is d least old))
  step_squeezes new (Err fault) s = subst (SqueezesOnlyStuck d least old) (sym s.1) (none_squeezed (missed (due_directly d least old) old) (λ a. refl))
