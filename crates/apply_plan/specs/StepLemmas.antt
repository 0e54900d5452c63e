-- What the write that is due leaves.
use Rattle.std.proofs.Common.{◌≡◌, ℕ, ◌+◌, ◌≤◌, Bool, true, false, not, ◌&&◌, List, refl, sym, ap, ◌∙◌, arith, inl, inr}
use Rattle.std.proofs.lemmas.Bool.{false≢true}
use Rattle.std.specs.Prelude.{◌⊎◌, cond, find, Some, None}
use Rattle.std.specs.List.{AllByRecursion}
use Rattle.std.specs.FinSet as set
use Rattle.cpu_set.specs.Ids.{Ids, is_same, is_empty}
use Rattle.cpu_set.specs.PointwiseLaws.{is_same_decides}
use Rattle.cpuset_tree.specs.Groups.{same_group, requested_cpus}
use Rattle.cpuset_tree.specs.GroupLemmas.{same_group_sym}
use Rattle.proctable.specs.Processes.{is_alive}
use Rattle.kernel_model.specs.KernelState.{KernelState}
use Rattle.apply_plan.specs.declared.entry.Entry.{Entry}
use Rattle.apply_plan.specs.Holders.{Pairwise, AreApart, HasSome, IsSafe}
use Rattle.apply_plan.specs.Kept.{kept}
use Rattle.apply_plan.specs.Targets.{Targets, holder_of, holders_of, HaveOtherGroups, AreTargetsApart, IsHandover}
use Rattle.apply_plan.specs.DueWrite.{held, kept_of, must_release, must_move, writes_of, writes_to_come, IsBetween}
use Rattle.apply_plan.specs.KeptLemmas.{kept_is_some, kept_within, kept_target, kept_again}
use Rattle.apply_plan.specs.ListLemmas.{all_map, all_map2, all_of, all_of_map, of_all_map, pairs_map, pairs_both, pairs_of_map, of_pairs_map, find_passes, find_among, find_none, sum_lowered}
use Rattle.apply_plan.specs.WriteLemmas.{IsWrite, Left, ApartAs, apart_swap, targets_swap, all_left, stays_apart, MeetsNothing, by_test, keeps_all}

module _ (old new : KernelState) (reserved : Ids) (entries : List Entry) (e : Entry) (cpus : Ids) (w : IsWrite old new e.group cpus)
    (test : Entry → Bool) (found : find test entries ≡ Some e) (groups : Pairwise HaveOtherGroups entries) where
  all_are_left : AllByRecursion (Left old new e cpus) entries
  all_are_left = all_left old new e cpus w test entries groups found

  -- each two are apart after the write, where what is written meets no other entry's set
  pub apart_after : (Known : Entry → Entry → Type 0) → AllByRecursion (MeetsNothing old new e cpus w reserved Known) entries
      → Pairwise (λ a b. Known a b × Known b a) entries → Pairwise (ApartAs old reserved) entries → Pairwise (ApartAs new reserved) entries
  apart_after Known meets known apart =
      pairs_map
      (λ a. Left old new e cpus a × MeetsNothing old new e cpus w reserved Known a)
      (λ a b. HaveOtherGroups a b × ((Known a b × Known b a) × ApartAs old reserved a b))
      (ApartAs new reserved)
      (λ a b la lb both. stays_apart old new e cpus w reserved Known a b la.0 lb.0 both.0 la.1 lb.1 both.1.0.0 both.1.0.1 both.1.1)
      entries
      (all_map2 (Left old new e cpus) (MeetsNothing old new e cpus w reserved Known) (λ a. Left old new e cpus a × MeetsNothing old new e cpus w reserved Known a) (λ a l m. (l, m)) entries
      all_are_left meets)
      (pairs_both HaveOtherGroups (λ a b. (Known a b × Known b a) × ApartAs old reserved a b) (λ a b. HaveOtherGroups a b × ((Known a b × Known b a) × ApartAs old reserved a b))
      (λ a b g k. (g, k)) entries groups
      (pairs_both (λ a b. Known a b × Known b a) (ApartAs old reserved) (λ a b. (Known a b × Known b a) × ApartAs old reserved a b) (λ a b k p. (k, p)) entries known apart))

  -- no live container has none, where what is written is not empty
  pub some_after : is_empty cpus ≡ false → AllByRecursion (λ a. HasSome old (requested_cpus old.tree) (holder_of a)) entries
      → AllByRecursion (λ a. HasSome new (requested_cpus new.tree) (holder_of a)) entries
  some_after some all = all_map2 (Left old new e cpus) (λ a. HasSome old (requested_cpus old.tree) (holder_of a)) (λ a. HasSome new (requested_cpus new.tree) (holder_of a)) one entries all_are_left all where
    one : (a : Entry) → Left old new e cpus a → HasSome old (requested_cpus old.tree) (holder_of a) → HasSome new (requested_cpus new.tree) (holder_of a)
    one a (inl p) h = λ l. ap is_empty p.1 ∙ some
    one a (inr p) h = λ l. ap is_empty p ∙ h (ap (λ t. is_alive t a.pid) (sym w.table) ∙ l)

  pub safe_after : (Known : Entry → Entry → Type 0) → AllByRecursion (MeetsNothing old new e cpus w reserved Known) entries
      → Pairwise (λ a b. Known a b × Known b a) entries → is_empty cpus ≡ false
      → IsSafe old reserved (holders_of entries) → IsSafe new reserved (holders_of entries)
  safe_after Known meets known some safe = record {
    apart = pairs_of_map holder_of (AreApart new reserved (requested_cpus new.tree)) entries
        (apart_after Known meets known (of_pairs_map holder_of (AreApart old reserved (requested_cpus old.tree)) entries safe.apart));
    some = all_of_map holder_of (HasSome new (requested_cpus new.tree)) entries
        (some_after some (of_all_map holder_of (HasSome old (requested_cpus old.tree)) entries safe.some));
  }

-- how many writes an entry waits for, by whether it lives and what it holds
abbrev pub waits : Ids → Bool → Ids → Entry → ℕ
waits reserved live h a =
    cond (live && not (is_same (kept reserved a.target h) h)) (cond (is_same (kept reserved a.target h) a.target) 1 2) (cond (live && not (is_same h a.target)) 1 0)

waits_alike : (old new : KernelState) (reserved : Ids) (a : Entry) → new.table ≡ old.table → held new a ≡ held old a → writes_of old reserved a ≡ writes_of new reserved a
waits_alike old new reserved a table same =
    ap (λ t. waits reserved (is_alive t a.pid) (held old a) a) (sym table) ∙ ap (λ s. waits reserved (is_alive new.table a.pid) s a) (sym same)

pub is_same_itself : (s : Ids) → is_same s s ≡ true
is_same_itself s = (is_same_decides s s).1 refl

pub waits_at_most : (reserved : Ids) (live : Bool) (h : Ids) (a : Entry) → waits reserved live h a ≤ 2
waits_at_most reserved live h a = bound (live && not (is_same (kept reserved a.target h) h)) (is_same (kept reserved a.target h) a.target) (live && not (is_same h a.target)) where
  bound : (r k m : Bool) → cond r (cond k 1 2) (cond m 1 0) ≤ 2
  bound true true m = omega arith
  bound true false m = omega arith
  bound false k true = omega arith
  bound false k false = omega arith

-- the entries that must let go come first
module _ (old new : KernelState) (h : Targets) (valid : IsHandover h) (e : Entry) (found : find (must_release old h.reserved) h.entries ≡ Some e)
    (w : IsWrite old new e.group (kept_of old h.reserved e)) where
  released_meets : (b : Entry) → MeetsNothing old new e (kept_of old h.reserved e) w h.reserved (ApartAs old h.reserved) b
  released_meets b =
      λ a is apart la lb pinned cpu ina inb.
      by_test (set.contains h.reserved cpu) (λ r. r)
      (λ r. apart la lb pinned cpu (ap (λ x. set.contains (held old x) cpu) is ∙ (kept_within h.reserved e.target (held old e) cpu ina r).0) inb)

  pub released_safe : IsSafe old h.reserved (holders_of h.entries) → IsSafe new h.reserved (holders_of h.entries)
  released_safe safe =
      safe_after old new h.reserved h.entries e (kept_of old h.reserved e) w (must_release old h.reserved) found valid.groups
      (ApartAs old h.reserved)
      (all_of (MeetsNothing old new e (kept_of old h.reserved e) w h.reserved (ApartAs old h.reserved)) released_meets h.entries)
      (all_pairs h.entries (of_pairs_map holder_of (AreApart old h.reserved (requested_cpus old.tree)) h.entries safe.apart))
      (kept_is_some h.reserved e.target (held old e) valid.reserve) safe where
        all_pairs : (xs : List Entry) → Pairwise (ApartAs old h.reserved) xs → Pairwise (λ a b. ApartAs old h.reserved a b × ApartAs old h.reserved b a) xs
        all_pairs xs p = pairs_both (ApartAs old h.reserved) (ApartAs old h.reserved) (λ a b. ApartAs old h.reserved a b × ApartAs old h.reserved b a) (λ a b r s. (r, apart_swap old h.reserved a b r)) xs p p

  pub released_lowers : writes_to_come h old ≡ writes_to_come h new + 1
  released_lowers =
      sum_lowered (must_release old h.reserved) (λ a b. same_group a.group b.group) (λ a b. same_group_sym a.group b.group)
      (writes_of old h.reserved) (writes_of new h.reserved) h.entries e valid.groups found
      (one (is_alive old.table e.pid) (is_same (kept_of old h.reserved e) (held old e)) (is_same (kept_of old h.reserved e) e.target)
      (is_same (kept h.reserved e.target (kept_of old h.reserved e)) (kept_of old h.reserved e)) (cond (must_move old e) 1 0)
      (cond (is_same (kept h.reserved e.target (kept_of old h.reserved e)) e.target) 1 2)
      (find_passes (must_release old h.reserved) h.entries e found)
      (ap (λ s. is_same s (kept_of old h.reserved e)) (kept_again h.reserved e.target valid.reserve (held old e)) ∙ is_same_itself (kept_of old h.reserved e))
      ∙ ap (λ n. n + 1) (sym (ap (λ t. waits h.reserved (is_alive t e.pid) (held new e) e) w.table ∙ ap (λ s. waits h.reserved (is_alive old.table e.pid) s e) w.own)))
      (λ a other. waits_alike old new h.reserved a w.table (w.others a.group other)) where
        one : (live keeps target again : Bool) (x y : ℕ) → (live && not keeps) ≡ true → again ≡ true
            → cond (live && not keeps) (cond target 1 2) x ≡ cond (live && not again) y (cond (live && not target) 1 0) + 1
        one true true target again x y must e = absurd (false≢true must)
        one false keeps target again x y must e = absurd (false≢true must)
        one true false target false x y must e = absurd (false≢true e)
        one true false true true x y must e = refl
        one true false false true x y must e = refl

-- then those that do not hold their targets
module _ (old new : KernelState) (h : Targets) (valid : IsHandover h) (e : Entry) (none : find (must_release old h.reserved) h.entries ≡ None)
    (found : find (must_move old) h.entries ≡ Some e) (w : IsWrite old new e.group e.target) where
  moved_meets : (b : Entry) → must_release old h.reserved b ≡ false → MeetsNothing old new e e.target w h.reserved (AreTargetsApart h.reserved) b
  moved_meets b keeps =
      λ a is apart la lb pinned cpu ina inb.
      by_test (set.contains h.reserved cpu) (λ r. r)
      (λ r. apart pinned cpu (ap (λ x. set.contains x.target cpu) is ∙ ina)
      (kept_within h.reserved b.target (held old b) cpu (ap (λ s. set.contains s cpu) (keeps_all old h.reserved b keeps lb) ∙ inb) r).1)

  target_is_some : is_empty e.target ≡ false
  target_is_some = find_among (must_move old) (λ a. is_empty a.target ≡ false) h.entries e valid.some found

  pub moved_safe : IsSafe old h.reserved (holders_of h.entries) → IsSafe new h.reserved (holders_of h.entries)
  moved_safe safe =
      safe_after old new h.reserved h.entries e e.target w (must_move old) found valid.groups
      (AreTargetsApart h.reserved)
      (all_map (λ b. must_release old h.reserved b ≡ false) (MeetsNothing old new e e.target w h.reserved (AreTargetsApart h.reserved)) moved_meets h.entries
      (find_none (must_release old h.reserved) h.entries none))
      (pairs_both (AreTargetsApart h.reserved) (AreTargetsApart h.reserved) (λ a b. AreTargetsApart h.reserved a b × AreTargetsApart h.reserved b a)
      (λ a b r s. (r, targets_swap h.reserved a b r)) h.entries valid.apart valid.apart)
      target_is_some safe

  pub moved_lowers : writes_to_come h old ≡ writes_to_come h new + 1
  moved_lowers =
      sum_lowered (must_move old) (λ a b. same_group a.group b.group) (λ a b. same_group_sym a.group b.group)
      (writes_of old h.reserved) (writes_of new h.reserved) h.entries e valid.groups found
      (one (must_release old h.reserved e) (must_move old e) (is_alive old.table e.pid) (is_same (kept h.reserved e.target e.target) e.target) (is_same e.target e.target)
      (cond (is_same (kept_of old h.reserved e) e.target) 1 2) (cond (is_same (kept h.reserved e.target e.target) e.target) 1 2)
      (find_among (must_move old) (λ b. must_release old h.reserved b ≡ false) h.entries e (find_none (must_release old h.reserved) h.entries none) found)
      (find_passes (must_move old) h.entries e found)
      (ap (λ s. is_same s e.target) (kept_target h.reserved e.target target_is_some) ∙ is_same_itself e.target)
      (is_same_itself e.target)
      ∙ ap (λ n. n + 1) (sym (ap (λ t. waits h.reserved (is_alive t e.pid) (held new e) e) w.table ∙ ap (λ s. waits h.reserved (is_alive old.table e.pid) s e) w.own)))
      (λ a other. waits_alike old new h.reserved a w.table (w.others a.group other)) where
        one : (release move live keeps same : Bool) (x y : ℕ) → release ≡ false → move ≡ true → keeps ≡ true → same ≡ true
            → cond release x (cond move 1 0) ≡ cond (live && not keeps) y (cond (live && not same) 1 0) + 1
        one true move live keeps same x y r m k s = absurd (false≢true (sym r))
        one false false live keeps same x y r m k s = absurd (false≢true m)
        one false true live false same x y r m k s = absurd (false≢true k)
        one false true live true false x y r m k s = absurd (false≢true s)
        one false true true true true x y r m k s = refl
        one false true false true true x y r m k s = refl

-- whatever a hand-over began with, each entry holds that, what it keeps of it, or its target
module _ (first old new : KernelState) (h : Targets) (valid : IsHandover h) (e : Entry) (cpus : Ids) (w : IsWrite old new e.group cpus)
    (test : Entry → Bool) (found : find test h.entries ≡ Some e) where
  -- what is written is one of the three
  abbrev pub WritesBetween : Entry → Type 0
  WritesBetween a = (cpus ≡ held first a) ⊎ ((cpus ≡ kept h.reserved a.target (held first a)) ⊎ (cpus ≡ a.target))

  as_written : (a : Entry) → held new a ≡ cpus → WritesBetween a → IsBetween h.reserved first new a
  as_written a s (inl x) = inl (s ∙ x)
  as_written a s (inr (inl x)) = inr (inl (s ∙ x))
  as_written a s (inr (inr x)) = inr (inr (s ∙ x))

  as_before : (a : Entry) → held new a ≡ held old a → IsBetween h.reserved first old a → IsBetween h.reserved first new a
  as_before a s (inl x) = inl (s ∙ x)
  as_before a s (inr (inl x)) = inr (inl (s ∙ x))
  as_before a s (inr (inr x)) = inr (inr (s ∙ x))

  pub stays_between : ((a : Entry) → a ≡ e → IsBetween h.reserved first old a → WritesBetween a)
      → AllByRecursion (IsBetween h.reserved first old) h.entries → AllByRecursion (IsBetween h.reserved first new) h.entries
  stays_between writes all =
      all_map2 (Left old new e cpus) (IsBetween h.reserved first old) (IsBetween h.reserved first new) one h.entries
      (all_left old new e cpus w test h.entries valid.groups found) all where
        one : (a : Entry) → Left old new e cpus a → IsBetween h.reserved first old a → IsBetween h.reserved first new a
        one a (inl p) b = as_written a p.1 (writes a p.0 b)
        one a (inr p) b = as_before a p b

-- what is kept of what an entry holds is one of the three
module _ (first old : KernelState) (h : Targets) (valid : IsHandover h) (e : Entry) where
  pub keeps_between : is_empty e.target ≡ false → IsBetween h.reserved first old e
      → (kept_of old h.reserved e ≡ held first e) ⊎ ((kept_of old h.reserved e ≡ kept h.reserved e.target (held first e)) ⊎ (kept_of old h.reserved e ≡ e.target))
  keeps_between some (inl x) = inr (inl (ap (kept h.reserved e.target) x))
  keeps_between some (inr (inl x)) = inr (inl (ap (kept h.reserved e.target) x ∙ kept_again h.reserved e.target valid.reserve (held first e)))
  keeps_between some (inr (inr x)) = inr (inr (ap (kept h.reserved e.target) x ∙ kept_target h.reserved e.target some))
