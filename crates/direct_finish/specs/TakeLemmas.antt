-- What is left when one container took its target, of which no rival holds any.
use Rattle.std.proofs.Common.{◌≡◌, ℕ, ◌+◌, ◌<◌, ◌≤◌, length, get_or, Bool, true, false, not, ◌&&◌, ◌||◌, refl, sym, ap, ◌∙◌, subst, inl}
use Rattle.std.proofs.lemmas.Bool.{false≢true}
use Rattle.std.specs.Prelude.{cond, find, Some, Ok}
use Rattle.std.specs.List.{AllByRecursion}
use Rattle.std.specs.FinSet as set
use Rattle.cpu_set.specs.Ids.{Ids, is_same}
use Rattle.cpu_set.specs.PointwiseLaws.{contains-empty}
use Rattle.cpuset_tree.specs.Groups.{same_group, requested_cpus}
use Rattle.cpuset_tree.specs.GroupLemmas.{same_group_itself}
use Rattle.proctable.specs.Processes.{is_alive}
use Rattle.kernel_model.specs.KernelState.{KernelState}
use Rattle.apply_plan.specs.declared.Entry.{Entry}
use Rattle.apply_plan.specs.Holders.{AreApart}
use Rattle.apply_plan.specs.Targets.{Targets, holder_of, IsHandover, IsPlaced}
use Rattle.apply_plan.specs.DueWrite.{held, must_move, written}
use Rattle.apply_plan.specs.ListLemmas.{all_map2, find_among, of_pairs_map}
use Rattle.apply_plan.specs.WriteLemmas.{IsWrite, ApartAs, apart_swap, by_test}
use Rattle.apply_plan.specs.KernelFactLemmas.{is_write, made_is_placed}
use Rattle.apply_plan.specs.DirectWords.{has_own, are_free, may_take, lets_go}
use Rattle.apply_plan.specs.MayWrite.{write_of, left_directly}
use Rattle.apply_plan.specs.DirectLemmas.{both_of, own_none, found_pairs, each_lowers}
use Rattle.apply_plan.specs.SetMemberLaws.{in_minus, minus_has}
use Rattle.apply_plan.specs.TurnLemmas.{is_alone}
use Rattle.apply_plan.specs.DirectedLemmas.{found_at}
use Rattle.direct_finish.specs.declared.bounds.Bounds.{Bounds}
use Rattle.direct_finish.specs.FinishesDirectly.{TakesFree}
use Rattle.direct_finish.specs.Bounded.{IsBounded, own_of}
use Rattle.direct_finish.specs.BoundLemmas.{rests_bounded, rests_if_grows}
use Rattle.direct_finish.specs.Follows.{IsReady}

module _ (h : Targets) (valid : IsHandover h) (old : KernelState) (place : ℕ) (e : Entry) (within : place < length h.entries) (at : e ≡ get_or h.entries place e)
    (may : may_take old h.reserved h.entries e ≡ true) where
  -- it is found by its group
  abbrev pub is_it : Entry → Bool
  is_it a = same_group e.group a.group

  found : find is_it h.entries ≡ Some e
  found = found_at h.entries place e valid.groups within at

  -- the kernel after it has its target
  abbrev pub new : KernelState
  new = written old (Some (write_of e e.target))

  pub takes_free : TakesFree h old (write_of e e.target)
  takes_free = record { test = is_it; e = e; found = found; is = refl; may = may }

  module _ (b after : Bounds) (worth : Bool) (ready : IsReady h old b) (before : Ids) (is_held : before ≡ held old e)
      (all_is : after.held ≡ set.difference b.held (cond (worth && e.pinned) before set.empty)) (own_is : own_of after ≡ set.difference (own_of b) (cond (worth && e.pinned) before set.empty)) where
    w : IsWrite old new e.group e.target
    w = is_write old e.group e.target (find_among is_it (λ a. IsPlaced old a.group) h.entries e ready.placed found).there

    live : is_alive old.table e.pid ≡ true
    live = (both_of (is_alive old.table e.pid) (not (is_same (held old e) e.target)) (both_of (must_move old e) (are_free old h.reserved h.entries e e.target) may).0).0

    pub lowers : left_directly h new + 1 ≤ left_directly h old
    lowers = (each_lowers h old is_it e e.target valid ready.placed found (inl (may, refl))).1

    -- the others are apart from it
    apart : AllByRecursion (λ a. same_group e.group a.group ≡ false → ApartAs old h.reserved e a) h.entries
    apart = found_pairs is_it (λ a c. same_group a.group c.group) (λ a. same_group_itself a.group) (ApartAs old h.reserved) (λ a c. apart_swap old h.reserved a c) h.entries e
        (of_pairs_map holder_of (AreApart old h.reserved (requested_cpus old.tree)) h.entries ready.safe.apart) found

    -- of what others hold outside the reserved CPUs, nothing is dropped
    stays : (s : Ids) (q : ℕ) → (e.pinned ≡ true → set.contains (held old e) q ≡ false) → set.contains s q ≡ true
        → set.contains (set.difference s (cond (worth && e.pinned) before set.empty)) q ≡ true
    stays s q off m = minus_has s (cond (worth && e.pinned) before set.empty) q m (by_test (worth && e.pinned)
        (λ dropped. ap (λ p. set.contains (cond p before set.empty) q) dropped ∙ ap (λ x. set.contains x q) is_held ∙ off (both_of worth e.pinned dropped).1)
        (λ kept. ap (λ p. set.contains (cond p before set.empty) q) kept ∙ contains-empty q))

    -- one that lets go after it did before, and holds the same
    module _ (a : Entry) (other : same_group e.group a.group ≡ false) where
      same : held new a ≡ held old a
      same = w.others a.group other

      lets_before : lets_go new h.reserved a ≡ true → lets_go old h.reserved a ≡ true
      lets_before lets =
          ap (λ s. is_alive old.table a.pid && has_own h.reserved (set.difference s a.target)) (sym same)
          ∙ ap (λ t. is_alive t a.pid && has_own h.reserved (set.difference (held new a) a.target)) (sym w.table) ∙ lets

      off_it : (same_group e.group a.group ≡ false → ApartAs old h.reserved e a) → lets_go new h.reserved a ≡ true → (q : ℕ) → set.contains (held new a) q ≡ true
          → set.contains h.reserved q ≡ false → e.pinned ≡ true → set.contains (held old e) q ≡ false
      off_it apart_too lets q m free pinned = by_test (set.contains (held old e) q)
          (λ own. absurd (false≢true (sym free
          ∙ apart_too other live (both_of (is_alive old.table a.pid) (has_own h.reserved (set.difference (held old a) a.target)) (lets_before lets)).0
          (ap (λ p. p || a.pinned) pinned) q own (ap (λ s. set.contains s q) (sym same) ∙ m))))
          (λ out. out)

    bounded_one : (a : Entry) → (same_group e.group a.group ≡ true → a ≡ e) × (same_group e.group a.group ≡ false → ApartAs old h.reserved e a) → IsBounded old h.reserved b a
        → IsBounded new h.reserved after a
    bounded_one a known bound = by_test (same_group e.group a.group)
        (λ it. subst (IsBounded new h.reserved after) (sym (known.0 it)) (rests_bounded new h.reserved after e (rests_if_grows new h.reserved e
        (ap (λ s. has_own h.reserved (set.difference s e.target)) w.own ∙ own_none h.reserved (set.difference e.target e.target)
        (λ q m. let parts = in_minus e.target e.target q m in absurd (false≢true (sym parts.1 ∙ parts.0)))))))
        (λ other. record {
          all = λ lets q m free.
              ap (λ s. set.contains s q) all_is
              ∙ stays b.held q (off_it a other known.1 lets q m free) (bound.all (lets_before a other lets) q (ap (λ s. set.contains s q) (sym (same a other)) ∙ m) free);
          own = λ lets pinned q m free.
              ap (λ s. set.contains s q) own_is
              ∙ stays (own_of b) q (off_it a other known.1 lets q m free) (bound.own (lets_before a other lets) pinned q (ap (λ s. set.contains s q) (sym (same a other)) ∙ m) free);
        })

    pub ready_after : IsReady h new after
    ready_after = record {
      placed = made_is_placed old new (Some (write_of e e.target)) (Ok tt) refl h.entries ready.placed;
      safe = (each_lowers h old is_it e e.target valid ready.placed found (inl (may, refl))).0 ready.safe;
      bounded = all_map2 (λ a. (same_group e.group a.group ≡ true → a ≡ e) × (same_group e.group a.group ≡ false → ApartAs old h.reserved e a)) (IsBounded old h.reserved b)
          (IsBounded new h.reserved after) bounded_one h.entries
          (all_map2 (λ a. same_group e.group a.group ≡ true → a ≡ e) (λ a. same_group e.group a.group ≡ false → ApartAs old h.reserved e a)
          (λ a. (same_group e.group a.group ≡ true → a ≡ e) × (same_group e.group a.group ≡ false → ApartAs old h.reserved e a)) (λ a x y. (x, y)) h.entries
          (is_alone h.entries h.reserved valid e found) apart) ready.bounded;
    }
