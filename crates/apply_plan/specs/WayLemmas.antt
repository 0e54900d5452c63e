-- A container on its way: what it gets is safe, is not asked of it, and has all that it holds of its target.
use Rattle.std.proofs.Common.{◌≡◌, ℕ, Bool, true, false, not, ◌&&◌, ◌||◌, refl, sym, ap, ◌∙◌, inl, inr}
use Rattle.std.proofs.lemmas.Bool.{false≢true}
use Rattle.std.specs.Prelude.{◌⊎◌, find, Some, is_none}
use Rattle.std.specs.List.{AllByRecursion}
use Rattle.std.specs.FinSet as set
use Rattle.cpu_set.specs.Ids.{Ids, is_empty}
use Rattle.cpuset_tree.specs.Groups.{same_group}
use Rattle.cpuset_tree.specs.GroupLemmas.{same_group_itself}
use Rattle.proctable.specs.Processes.{is_alive}
use Rattle.kernel_model.specs.KernelState.{KernelState}
use Rattle.apply_plan.specs.declared.entry.Entry.{Entry}
use Rattle.apply_plan.specs.Targets.{Targets, IsHandover, AreTargetsApart}
use Rattle.apply_plan.specs.DueWrite.{held}
use Rattle.apply_plan.specs.ListLemmas.{all_map, all_map2, none_found}
use Rattle.apply_plan.specs.WriteLemmas.{by_test, targets_swap}
use Rattle.apply_plan.specs.DirectWords.{has_own, is_rival, holds_some, asks, blocks, taken, asked, spare, places, way, all_of_those}
use Rattle.apply_plan.specs.MayWrite.{OnWay, GivesWay}
use Rattle.apply_plan.specs.DirectLemmas.{both_of, own_none, ask_parts, found_pairs, or_true}
use Rattle.apply_plan.specs.SetMemberLaws.{in_meet, in_minus, in_union, minus_has, union_left, in_all, of_all}

module _ (h : Targets) (valid : IsHandover h) (test : Entry → Bool) (e : Entry) (found : find test h.entries ≡ Some e) where
  -- outside the reserved CPUs its target meets no other's where one of the two is pinned
  pub apart_from_it : AllByRecursion (λ a. same_group e.group a.group ≡ false → AreTargetsApart h.reserved e a) h.entries
  apart_from_it =
      found_pairs test (λ a b. same_group a.group b.group) (λ a. same_group_itself a.group) (AreTargetsApart h.reserved) (λ a b. targets_swap h.reserved a b)
      h.entries e valid.apart found

module _ (h : Targets) (k : KernelState) (e : Entry) (allowed : Ids)
    (apart : AllByRecursion (λ a. same_group e.group a.group ≡ false → AreTargetsApart h.reserved e a) h.entries) where
  asks_of : Ids
  asks_of = asked k h.reserved h.entries e

  stays : Ids
  stays = set.difference (held k e) (set.difference (asked k h.reserved h.entries e) h.reserved)

  comes : Ids
  comes = set.difference e.target (taken k h.entries e)

  -- what is asked of it is not in its target
  not_asked : (q : ℕ) → set.contains e.target q ≡ true → set.contains (set.difference (asked k h.reserved h.entries e) h.reserved) q ≡ false
  not_asked q t = by_test (set.contains (set.difference (asked k h.reserved h.entries e) h.reserved) q)
      (λ m.
      let parts = in_minus (asked k h.reserved h.entries e) h.reserved q m in
      let in_reserve = of_all (asks k h.reserved e) (λ d. d.target) q (set.contains h.reserved q) h.entries
      (all_map (λ a. same_group e.group a.group ≡ false → AreTargetsApart h.reserved e a)
      (λ d. asks k h.reserved e d ≡ true → set.contains d.target q ≡ true → set.contains h.reserved q ≡ true)
      (λ d other asks_it there. let known = ask_parts k h.reserved e d asks_it in other known.1.0 (ap (λ p. e.pinned || p) known.0 ∙ or_true e.pinned) q t there) h.entries apart)
      parts.0 in
      absurd (false≢true (sym parts.1 ∙ in_reserve)))
      (λ m. m)

  pub way_keeps : (q : ℕ) → set.contains (held k e) q ≡ true → set.contains e.target q ≡ true → set.contains (way k h.reserved h.entries e) q ≡ true
  way_keeps q m t =
      union_left (set.difference (held k e) (set.difference (asked k h.reserved h.entries e) h.reserved)) (set.difference e.target (taken k h.entries e)) q
      (minus_has (held k e) (set.difference (asked k h.reserved h.entries e) h.reserved) q m (not_asked q t))

  -- what a CPU of the way is
  pub of_way : (q : ℕ) → set.contains (way k h.reserved h.entries e) q ≡ true
      → ((set.contains (held k e) q ≡ true) × (set.contains (set.difference (asked k h.reserved h.entries e) h.reserved) q ≡ false))
      ⊎ ((set.contains e.target q ≡ true) × (set.contains (taken k h.entries e) q ≡ false))
  of_way q m = by (in_union (set.difference (held k e) (set.difference (asked k h.reserved h.entries e) h.reserved)) (set.difference e.target (taken k h.entries e)) q m) where
    by : (set.contains (set.difference (held k e) (set.difference (asked k h.reserved h.entries e) h.reserved)) q ≡ true) ⊎ (set.contains (set.difference e.target (taken k h.entries e)) q ≡ true)
        → ((set.contains (held k e) q ≡ true) × (set.contains (set.difference (asked k h.reserved h.entries e) h.reserved) q ≡ false))
        ⊎ ((set.contains e.target q ≡ true) × (set.contains (taken k h.entries e) q ≡ false))
    by (inl x) = inl (in_minus (held k e) (set.difference (asked k h.reserved h.entries e) h.reserved) q x)
    by (inr x) = inr (in_minus e.target (taken k h.entries e) q x)

  -- and what a place is
  pub of_places : (q : ℕ) → set.contains (places k h.reserved h.entries allowed e) q ≡ true
      → (set.contains allowed q ≡ true) × ((set.contains (spare k h.reserved h.entries) q ≡ true) × (set.contains (asked k h.reserved h.entries e) q ≡ false))
  of_places q m =
      let parts = in_minus (set.intersection allowed (spare k h.reserved h.entries)) (asked k h.reserved h.entries e) q m in
      let both_in = in_meet allowed (spare k h.reserved h.entries) q parts.0 in
      (both_in.0, (both_in.1, parts.1))

  -- some CPUs of its way, of the reserved ones and of its places
  module _ (cpus : Ids) (within : (q : ℕ) → set.contains cpus q ≡ true
      → (set.contains (way k h.reserved h.entries e) q ≡ true) ⊎ ((set.contains h.reserved q ≡ true) ⊎ (set.contains (places k h.reserved h.entries allowed e) q ≡ true))) where
    -- what it gets anew
    abbrev pub gained : Ids
    gained = set.difference cpus (held k e)

    -- no rival has any of those that it gets anew
    none_holds : (d : Entry) → (is_rival k e d ≡ true → (q : ℕ) → set.contains (held k d) q ≡ true → set.contains (taken k h.entries e) q ≡ true)
        → (is_alive k.table d.pid ≡ true → (q : ℕ) → set.contains (held k d) q ≡ true → set.contains (all_of_those (λ d. is_alive k.table d.pid) (held k) h.entries) q ≡ true)
        → holds_some k h.reserved e gained d ≡ false
    none_holds d in_taken in_held = by_test (is_rival k e d)
        (λ rival. ap (λ b. is_rival k e d && b) (own_none h.reserved (set.intersection gained (held k d)) (member rival)) ∙ and_false (is_rival k e d))
        (λ none. ap (λ b. b && has_own h.reserved (set.intersection gained (held k d))) none)
      where
        and_false : (x : Bool) → (x && false) ≡ false
        and_false true = refl
        and_false false = refl

        live : is_rival k e d ≡ true → is_alive k.table d.pid ≡ true
        live rival = (both_of (not (same_group e.group d.group)) (is_alive k.table d.pid) (both_of (e.pinned || d.pinned) (not (same_group e.group d.group) && is_alive k.table d.pid) rival).1).1

        member : is_rival k e d ≡ true → (q : ℕ) → set.contains (set.intersection gained (held k d)) q ≡ true → set.contains h.reserved q ≡ true
        member rival q m =
            let in_both = in_meet gained (held k d) q m in
            let new_one = in_minus cpus (held k e) q in_both.0 in
            by in_both.1 new_one.1 (within q new_one.0)
          where
            by_way : set.contains (held k d) q ≡ true → set.contains (held k e) q ≡ false
                → ((set.contains (held k e) q ≡ true) × (set.contains (set.difference (asked k h.reserved h.entries e) h.reserved) q ≡ false))
                ⊎ ((set.contains e.target q ≡ true) × (set.contains (taken k h.entries e) q ≡ false))
                → set.contains h.reserved q ≡ true
            by_way there new_one (inl x) = absurd (false≢true (sym new_one ∙ x.0))
            by_way there new_one (inr x) = absurd (false≢true (sym x.1 ∙ in_taken rival q there))

            by : set.contains (held k d) q ≡ true → set.contains (held k e) q ≡ false
                → (set.contains (way k h.reserved h.entries e) q ≡ true) ⊎ ((set.contains h.reserved q ≡ true) ⊎ (set.contains (places k h.reserved h.entries allowed e) q ≡ true))
                → set.contains h.reserved q ≡ true
            by there new_one (inl w) = by_way there new_one (of_way q w)
            by there new_one (inr (inl r)) = r
            by there new_one (inr (inr p)) =
                absurd (false≢true (sym (in_minus (set.difference k.tree.online h.reserved) (all_of_those (λ d. is_alive k.table d.pid) (held k) h.entries) q (of_places q p).1.0).1
                ∙ in_held (live rival) q there))

    -- none is asked of it
    yields_to : (d : Entry) → (asks k h.reserved e d ≡ true → (q : ℕ) → set.contains d.target q ≡ true → set.contains (asked k h.reserved h.entries e) q ≡ true)
        → (same_group e.group d.group ≡ false → AreTargetsApart h.reserved e d) → asks k h.reserved e d ≡ true → has_own h.reserved (set.intersection cpus d.target) ≡ false
    yields_to d inside other asks_it = own_none h.reserved (set.intersection cpus d.target) (λ q m. let in_both = in_meet cpus d.target q m in by q in_both.1 (within q in_both.0)) where
      reserved_if : (q : ℕ) → set.contains (asked k h.reserved h.entries e) q ≡ true → set.contains (set.difference (asked k h.reserved h.entries e) h.reserved) q ≡ false → set.contains h.reserved q ≡ true
      reserved_if q there off = by_test (set.contains h.reserved q) (λ r. r)
          (λ f. absurd (false≢true (sym off ∙ minus_has (asked k h.reserved h.entries e) h.reserved q there f)))

      by_way : (q : ℕ) → set.contains d.target q ≡ true
          → ((set.contains (held k e) q ≡ true) × (set.contains (set.difference (asked k h.reserved h.entries e) h.reserved) q ≡ false))
          ⊎ ((set.contains e.target q ≡ true) × (set.contains (taken k h.entries e) q ≡ false))
          → set.contains h.reserved q ≡ true
      by_way q there (inl x) = reserved_if q (inside asks_it q there) x.1
      by_way q there (inr x) =
          let known = ask_parts k h.reserved e d asks_it in
          other known.1.0 (ap (λ p. e.pinned || p) known.0 ∙ or_true e.pinned) q x.0 there

      by : (q : ℕ) → set.contains d.target q ≡ true
          → (set.contains (way k h.reserved h.entries e) q ≡ true) ⊎ ((set.contains h.reserved q ≡ true) ⊎ (set.contains (places k h.reserved h.entries allowed e) q ≡ true))
          → set.contains h.reserved q ≡ true
      by q there (inl w) = by_way q there (of_way q w)
      by q there (inr (inl r)) = r
      by q there (inr (inr p)) = absurd (false≢true (sym (of_places q p).1.1 ∙ inside asks_it q there))

    pub gives_way : blocks k h.reserved h.entries e ≡ true → is_empty cpus ≡ false → GivesWay h k e cpus
    gives_way blocked some = record {
      blocked = blocked;
      some = some;
      free = ap is_none (none_found (holds_some k h.reserved e gained) h.entries
          (all_map2 (λ d. is_rival k e d ≡ true → (q : ℕ) → set.contains (held k d) q ≡ true → set.contains (taken k h.entries e) q ≡ true)
          (λ d. is_alive k.table d.pid ≡ true → (q : ℕ) → set.contains (held k d) q ≡ true → set.contains (all_of_those (λ d. is_alive k.table d.pid) (held k) h.entries) q ≡ true)
          (λ d. holds_some k h.reserved e gained d ≡ false) none_holds h.entries
          (in_all (is_rival k e) (held k) h.entries) (in_all (λ d. is_alive k.table d.pid) (held k) h.entries)));
      yields = all_map2 (λ d. asks k h.reserved e d ≡ true → (q : ℕ) → set.contains d.target q ≡ true → set.contains (asked k h.reserved h.entries e) q ≡ true)
          (λ d. same_group e.group d.group ≡ false → AreTargetsApart h.reserved e d)
          (λ d. asks k h.reserved e d ≡ true → has_own h.reserved (set.intersection cpus d.target) ≡ false)
          yields_to h.entries (in_all (asks k h.reserved e) (λ d. d.target) h.entries) apart;
    }

    pub on_way : ((q : ℕ) → set.contains (way k h.reserved h.entries e) q ≡ true → set.contains cpus q ≡ true) → OnWay h.reserved allowed k e cpus
    on_way has = record {
      keeps = λ q m t. has q (way_keeps q m t);
      within = λ q m. by q (within q m);
    } where
      by_way : (q : ℕ)
          → ((set.contains (held k e) q ≡ true) × (set.contains (set.difference (asked k h.reserved h.entries e) h.reserved) q ≡ false))
          ⊎ ((set.contains e.target q ≡ true) × (set.contains (taken k h.entries e) q ≡ false))
          → (set.contains (held k e) q ≡ true) ⊎ ((set.contains e.target q ≡ true) ⊎ ((set.contains h.reserved q ≡ true) ⊎ (set.contains allowed q ≡ true)))
      by_way q (inl x) = inl x.0
      by_way q (inr x) = inr (inl x.0)

      by : (q : ℕ) → (set.contains (way k h.reserved h.entries e) q ≡ true) ⊎ ((set.contains h.reserved q ≡ true) ⊎ (set.contains (places k h.reserved h.entries allowed e) q ≡ true))
          → (set.contains (held k e) q ≡ true) ⊎ ((set.contains e.target q ≡ true) ⊎ ((set.contains h.reserved q ≡ true) ⊎ (set.contains allowed q ≡ true)))
      by q (inl w) = by_way q (of_way q w)
      by q (inr (inl r)) = inr (inr (inl r))
      by q (inr (inr p)) = inr (inr (inr (of_places q p).0))
