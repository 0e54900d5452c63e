-- What one write of a direct hand-over leaves of who asks, who blocks and what is left.
use Rattle.std.proofs.Common.{◌≡◌, ℕ, ◌+◌, ◌≤◌, Bool, true, false, not, ◌&&◌, ◌||◌, List, [], ◌∷◌, refl, sym, ap, ◌∙◌, arith, inl, inr, subst}
use Rattle.std.proofs.lemmas.Bool.{false≢true}
use Rattle.std.proofs.lemmas.Option.{none-some}
use Rattle.std.proofs.lemmas.List.Sums.{sum_by-cons}
use Rattle.std.specs.Prelude.{cond, find, Option, Some, None, is_none, is_some}
use Rattle.std.specs.List.{AllByRecursion, sum_by}
use Rattle.std.specs.FinSet as set
use Rattle.cpu_set.specs.Ids.{Ids, is_same, is_empty}
use Rattle.cpu_set.specs.PointwiseLaws.{is_subset-contains, contains-is_subset, contains-intersection, contains-difference, is_same_decides}
use Rattle.cpuset_tree.specs.Groups.{same_group, requested_cpus}
use Rattle.cpuset_tree.specs.GroupLemmas.{same_group_sym, same_group_itself}
use Rattle.proctable.specs.Processes.{is_alive}
use Rattle.kernel_model.specs.KernelState.{KernelState}
use Rattle.apply_plan.specs.declared.entry.Entry.{Entry}
use Rattle.apply_plan.specs.Holders.{Pairwise, AreApart, IsSafe}
use Rattle.apply_plan.specs.Targets.{Targets, holder_of, holders_of, HaveOtherGroups, AreTargetsApart, IsHandover, IsPlaced}
use Rattle.apply_plan.specs.DueWrite.{held, must_move, written}
use Rattle.apply_plan.specs.ListLemmas.{all_map, all_map2, pairs_both, find_none, none_found, find_passes, find_among, found_alone, of_pairs_map, sum_le, all_of, sum_bounded}
use Rattle.apply_plan.specs.WriteLemmas.{IsWrite, Left, MeetsNothing, ApartAs, apart_swap, targets_swap, by_test, all_left}
use Rattle.apply_plan.specs.StepLemmas.{safe_after, is_same_itself}
use Rattle.apply_plan.specs.KernelFactLemmas.{is_write}
use Rattle.apply_plan.specs.DirectWords.{has_own, holds_some, are_free, lets_go, asks, holds_up, blocks}
use Rattle.apply_plan.specs.MayWrite.{GivesWay, MayWrite, write_of, waits_for, left_directly, EachLowers, EachWaitsForLess, FewLeft}

none_of : {A : Type 0} (o : Option A) → is_none o ≡ true → o ≡ None
none_of None e = refl
none_of (Some x) e = absurd (false≢true e)

pub both_of : (x y : Bool) → (x && y) ≡ true → (x ≡ true) × (y ≡ true)
both_of true y e = (refl, e)
both_of false y e = absurd (false≢true e)

pub both : (x y : Bool) → x ≡ true → y ≡ true → (x && y) ≡ true
both true y a b = b
both false y a b = absurd (false≢true a)

not_true : (x : Bool) → not x ≡ false → x ≡ true
not_true true m = refl
not_true false m = absurd (false≢true (sym m))

not_false : (x : Bool) → not x ≡ true → x ≡ false
not_false true m = absurd (false≢true m)
not_false false m = refl

-- sets of which none is outside the reserved CPUs, by their members
pub none_own : (reserved cpus : Ids) → has_own reserved cpus ≡ false → (cpu : ℕ) → set.contains cpus cpu ≡ true → set.contains reserved cpu ≡ true
none_own reserved cpus off = is_subset-contains cpus reserved (not_true _ off)

pub own_none : (reserved cpus : Ids) → ((cpu : ℕ) → set.contains cpus cpu ≡ true → set.contains reserved cpu ≡ true) → has_own reserved cpus ≡ false
own_none reserved cpus f = ap not (contains-is_subset cpus reserved f)

-- 1 where a test passes, and else 0
abbrev pub num : Bool → ℕ
num b = cond b 1 0

pub or_true : (x : Bool) → (x || true) ≡ true
or_true true = refl
or_true false = refl

pub le_cond : (x y : Bool) → (x ≡ true → y ≡ true) → num x ≤ num y
le_cond true true f = omega arith
le_cond true false f = absurd (false≢true (f refl))
le_cond false true f = omega arith
le_cond false false f = omega arith

-- what is known of two where one holds up the other
pub up_parts : (k : KernelState) (reserved : Ids) (e d : Entry) → holds_up k reserved e d ≡ true → (asks k reserved e d ≡ true) × (has_own reserved (set.intersection (held k e) d.target) ≡ true)
up_parts k reserved e d up = both_of (asks k reserved e d) (has_own reserved (set.intersection (held k e) d.target)) up

pub ask_parts : (k : KernelState) (reserved : Ids) (e d : Entry) → asks k reserved e d ≡ true
    → (d.pinned ≡ true) × ((same_group e.group d.group ≡ false) × (cond e.pinned (lets_go k reserved d) (must_move k d) ≡ true))
ask_parts k reserved e d asked =
    let first = both_of d.pinned (not (same_group e.group d.group) && cond e.pinned (lets_go k reserved d) (must_move k d)) asked in
    let second = both_of (not (same_group e.group d.group)) (cond e.pinned (lets_go k reserved d) (must_move k d)) first.1 in
    (first.0, (not_false (same_group e.group d.group) second.0, second.1))

-- a container that lets some go does not hold its target
pub lets_moves : (k : KernelState) (reserved : Ids) (e : Entry) → lets_go k reserved e ≡ true → must_move k e ≡ true
lets_moves k reserved e lets = by_test (is_same (held k e) e.target)
    (λ same. absurd (false≢true (sym (none_at ((is_same_decides _ _).0 same)) ∙ (both_of _ _ lets).1)))
    (λ other. both _ _ (both_of _ _ lets).0 (ap not other)) where
      neither : (x : Bool) → (x && not x) ≡ true → true ≡ false
      neither true m = sym m
      neither false m = sym m

      none_at : held k e ≡ e.target → has_own reserved (set.difference (held k e) e.target) ≡ false
      none_at is =
          ap (λ s. has_own reserved (set.difference s e.target)) is
          ∙ own_none reserved (set.difference e.target e.target) (λ cpu m. absurd (false≢true (sym (neither (set.contains e.target cpu) (sym (contains-difference e.target e.target cpu) ∙ m)))))

-- among entries of which each two are so, each other one is so with the one that was found
module _ {X : Type 0} (test : X → Bool) (same : X → X → Bool) (itself : (a : X) → same a a ≡ true) (R : X → X → Type 0) (turn : (a b : X) → R a b → R b a) where
  here : (x y : X) (xs : List X) → test x ≡ true → find test (x ∷ xs) ≡ Some y → x ≡ y
  here x y xs t e = cc (ap (λ b. cond b (Some x) (find test xs)) t, e)

  later : (x : X) (xs : List X) → test x ≡ false → find test (x ∷ xs) ≡ find test xs
  later x xs t = ap (λ b. cond b (Some x) (find test xs)) t

  pub found_pairs : (xs : List X) (y : X) → Pairwise R xs → find test xs ≡ Some y → AllByRecursion (λ a. same y a ≡ false → R y a) xs
  found_pairs [] y h e = tt
  found_pairs (x ∷ xs) y h e = by_test (test x)
      (λ t.
      let at : x ≡ y = here x y xs t e in (
        (λ other. absurd (false≢true (sym other ∙ ap (same y) at ∙ itself y))),
        all_map (R x) (λ a. same y a ≡ false → R y a) (λ a r _. subst (λ z. R z a) at r) xs h.0,
      ))
      (λ t.
      let on = sym (later x xs t) ∙ e in (
        (λ _. turn x y (find_among test (R x) xs y h.0 on)),
        found_pairs xs y h.1 on,
      ))

-- a sum of which the summand of what is found falls, and no other rises
module _ {X : Type 0} (test : X → Bool) (same : X → X → Bool) (swap : (a b : X) → same a b ≡ same b a) where
  pub sum_falls : (f g : X → ℕ) (xs : List X) (y : X) → Pairwise (λ a b. same a b ≡ false) xs → find test xs ≡ Some y → g y + 1 ≤ f y
      → AllByRecursion (λ a. same y a ≡ false → g a ≤ f a) xs → sum_by g xs + 1 ≤ sum_by f xs
  sum_falls f g [] y h e less others = absurd (none-some y e)
  sum_falls f g (x ∷ xs) y h e less others = by_test (test x)
      (λ t.
      let at : x ≡ y = cc (ap (λ b. cond b (Some x) (find test xs)) t, e) in
      let first : g x + 1 ≤ f x = subst (λ z. g z + 1 ≤ f z) (sym at) less in
      let rest : sum_by g xs ≤ sum_by f xs = sum_le g f xs (all_map2 (λ a. same x a ≡ false) (λ a. same y a ≡ false → g a ≤ f a) (λ a. g a ≤ f a) (λ a d r. r (ap (λ z. same z a) (sym at) ∙ d)) xs h.0 others.1) in
      omega (arith, sum_by-cons f x xs, sum_by-cons g x xs))
      (λ t.
      let on : find test xs ≡ Some y = sym (ap (λ b. cond b (Some x) (find test xs)) t) ∙ e in
      let first : g x ≤ f x = others.0 (swap y x ∙ find_among test (λ a. same x a ≡ false) xs y h.0 on) in
      let rest : sum_by g xs + 1 ≤ sum_by f xs = sum_falls f g xs y h.1 on less others.1 in
      omega (arith, sum_by-cons f x xs, sum_by-cons g x xs))

-- one container is written, and whatever it held before, it waited for its target
module _ (old new : KernelState) (h : Targets) (valid : IsHandover h) (e : Entry) (cpus : Ids) (w : IsWrite old new e.group cpus)
    (test : Entry → Bool) (found : find test h.entries ≡ Some e) where
  lefts : AllByRecursion (Left old new e cpus) h.entries
  lefts = all_left old new e cpus w test h.entries valid.groups found

  -- outside the reserved CPUs its target meets no other's
  pub targets_apart : AllByRecursion (λ a. same_group e.group a.group ≡ false → AreTargetsApart h.reserved e a) h.entries
  targets_apart =
      found_pairs test (λ a b. same_group a.group b.group) (λ a. same_group_itself a.group) (AreTargetsApart h.reserved) (λ a b. targets_swap h.reserved a b)
      h.entries e valid.apart found

  -- one that others wait for lets some go
  one_lets : is_alive old.table e.pid ≡ true → (d : Entry) → (same_group e.group d.group ≡ false → AreTargetsApart h.reserved e d) → holds_up old h.reserved e d ≡ true
      → lets_go old h.reserved e ≡ true
  one_lets live d apart up = by_test (has_own h.reserved (set.difference (held old e) e.target)) (λ own. both _ _ live own)
      (λ none. absurd (false≢true (sym (own_none h.reserved (set.intersection (held old e) d.target) (all none)) ∙ (up_parts old h.reserved e d up).1)))
    where
      all : has_own h.reserved (set.difference (held old e) e.target) ≡ false → (cpu : ℕ) → set.contains (set.intersection (held old e) d.target) cpu ≡ true
          → set.contains h.reserved cpu ≡ true
      all none cpu m =
          let in_both = both_of (set.contains (held old e) cpu) (set.contains d.target cpu) (sym (contains-intersection (held old e) d.target cpu) ∙ m) in
          by_test (set.contains e.target cpu)
          (λ t. apart (ask_parts old h.reserved e d (up_parts old h.reserved e d up).0).1.0 (ap (λ p. e.pinned || p) (ask_parts old h.reserved e d (up_parts old h.reserved e d up).0).0 ∙ or_true e.pinned) cpu t in_both.1)
          (λ f. none_own h.reserved (set.difference (held old e) e.target) none cpu
          (contains-difference (held old e) e.target cpu ∙ both (set.contains (held old e) cpu) (not (set.contains e.target cpu)) in_both.0 (ap not f)))

  pub blocking_lets : blocks old h.reserved h.entries e ≡ true → lets_go old h.reserved e ≡ true
  blocking_lets blocked = by (find (holds_up old h.reserved e) h.entries) refl where
    by : (o : Option Entry) → find (holds_up old h.reserved e) h.entries ≡ o → lets_go old h.reserved e ≡ true
    by (Some d) up =
        one_lets (both_of _ _ blocked).0 d
        (find_among (holds_up old h.reserved e) (λ a. same_group e.group a.group ≡ false → AreTargetsApart h.reserved e a) h.entries d targets_apart up)
        (find_passes (holds_up old h.reserved e) h.entries d up)
    by None none = absurd (false≢true (sym (ap is_some none) ∙ (both_of _ _ blocked).1))

  -- whether a container lets some go or moves, where it holds the same
  lets_alike : (d : Entry) → held new d ≡ held old d → lets_go new h.reserved d ≡ lets_go old h.reserved d
  lets_alike d same =
      ap (λ t. is_alive t d.pid && has_own h.reserved (set.difference (held new d) d.target)) w.table
      ∙ ap (λ s. is_alive old.table d.pid && has_own h.reserved (set.difference s d.target)) same

  moves_alike : (d : Entry) → held new d ≡ held old d → must_move new d ≡ must_move old d
  moves_alike d same =
      ap (λ t. is_alive t d.pid && not (is_same (held new d) d.target)) w.table ∙ ap (λ s. is_alive old.table d.pid && not (is_same s d.target)) same

  module _ (moved : must_move old e ≡ true) (had : lets_go new h.reserved e ≡ true → lets_go old h.reserved e ≡ true) where
    -- who asks after it asked before it
    asks_falls : (a d : Entry) → Left old new e cpus d → asks new h.reserved a d ≡ true → asks old h.reserved a d ≡ true
    asks_falls a d (inr same) asked = ap (λ l. d.pinned && (not (same_group a.group d.group) && cond a.pinned l (must_move old d))) (sym (lets_alike d same))
        ∙ ap (λ m. d.pinned && (not (same_group a.group d.group) && cond a.pinned (lets_go new h.reserved d) m)) (sym (moves_alike d same)) ∙ asked
    asks_falls a d (inl is) asked =
        let first = both_of _ _ asked in
        let second = both_of _ _ first.1 in
        both _ _ first.0 (both _ _ second.0 (pick a.pinned second.1))
      where
        pick : (p : Bool) → cond p (lets_go new h.reserved d) (must_move new d) ≡ true → cond p (lets_go old h.reserved d) (must_move old d) ≡ true
        pick true l = ap (lets_go old h.reserved) is.0 ∙ had (ap (lets_go new h.reserved) (sym is.0) ∙ l)
        pick false m = ap (must_move old) is.0 ∙ moved

    held_up_falls : (a d : Entry) → held new a ≡ held old a → Left old new e cpus d → holds_up old h.reserved a d ≡ false → holds_up new h.reserved a d ≡ false
    held_up_falls a d same left off = by_test (holds_up new h.reserved a d)
        (λ up. absurd (false≢true (sym off ∙ both _ _ (asks_falls a d left (up_parts new h.reserved a d up).0)
        (ap (λ s. has_own h.reserved (set.intersection s d.target)) (sym same) ∙ (up_parts new h.reserved a d up).1))))
        (λ f. f)

    blocks_falls : (a : Entry) → held new a ≡ held old a → blocks new h.reserved h.entries a ≡ true → blocks old h.reserved h.entries a ≡ true
    blocks_falls a same blocked = by_test (is_some (find (holds_up old h.reserved a) h.entries))
        (λ t. both _ _ (ap (λ t. is_alive t a.pid) (sym w.table) ∙ (both_of _ _ blocked).0) t)
        (λ f. absurd (false≢true (sym (ap is_some (none_found (holds_up new h.reserved a) h.entries
        (all_map2 (Left old new e cpus) (λ d. holds_up old h.reserved a d ≡ false) (λ d. holds_up new h.reserved a d ≡ false)
        (λ d l off. held_up_falls a d same l off) h.entries lefts (find_none (holds_up old h.reserved a) h.entries (none_if_not _ f))))) ∙ (both_of _ _ blocked).1)))
      where
        none_if_not : (o : Option Entry) → is_some o ≡ false → o ≡ None
        none_if_not None f = refl
        none_if_not (Some x) f = absurd (false≢true (sym f))

    -- what is written yields to all who ask: then it blocks nobody any more
    yields_blocks : AllByRecursion (λ d. asks old h.reserved e d ≡ true → has_own h.reserved (set.intersection cpus d.target) ≡ false) h.entries
        → blocks new h.reserved h.entries e ≡ false
    yields_blocks yields = by_test (blocks new h.reserved h.entries e)
        (λ t. absurd (false≢true (sym (ap is_some (none_found (holds_up new h.reserved e) h.entries
        (all_map2 (Left old new e cpus) (λ d. asks old h.reserved e d ≡ true → has_own h.reserved (set.intersection cpus d.target) ≡ false) (λ d. holds_up new h.reserved e d ≡ false)
        none h.entries lefts yields))) ∙ (both_of _ _ t).1)))
        (λ f. f)
      where
        none : (d : Entry) → Left old new e cpus d → (asks old h.reserved e d ≡ true → has_own h.reserved (set.intersection cpus d.target) ≡ false) → holds_up new h.reserved e d ≡ false
        none d left yield = by_test (holds_up new h.reserved e d)
            (λ up. absurd (false≢true (sym (yield (asks_falls e d left (up_parts new h.reserved e d up).0)) ∙ ap (λ s. has_own h.reserved (set.intersection s d.target)) (sym w.own) ∙ (up_parts new h.reserved e d up).1)))
            (λ f. f)

    others_fall : AllByRecursion (λ a. same_group e.group a.group ≡ false → waits_for new h.reserved h.entries a ≤ waits_for old h.reserved h.entries a) h.entries
    others_fall = all_of (λ a. same_group e.group a.group ≡ false → waits_for new h.reserved h.entries a ≤ waits_for old h.reserved h.entries a) one h.entries where
      one : (a : Entry) → same_group e.group a.group ≡ false → waits_for new h.reserved h.entries a ≤ waits_for old h.reserved h.entries a
      one a other =
          let same : held new a ≡ held old a = w.others a.group other in
          let m : num (must_move new a) ≡ num (must_move old a) = ap num (moves_alike a same) in
          let b : num (blocks new h.reserved h.entries a) ≤ num (blocks old h.reserved h.entries a) = le_cond _ _ (blocks_falls a same) in
          omega (arith, m, b)

    pub falls : waits_for new h.reserved h.entries e + 1 ≤ waits_for old h.reserved h.entries e → left_directly h new + 1 ≤ left_directly h old
    falls less =
        sum_falls test (λ a b. same_group a.group b.group) (λ a b. same_group_sym a.group b.group)
        (waits_for old h.reserved h.entries) (waits_for new h.reserved h.entries) h.entries e valid.groups found less others_fall

    -- what it waits for itself falls, and of the others it rises for none
    pub each_falls : waits_for new h.reserved h.entries e + 1 ≤ waits_for old h.reserved h.entries e
        → AllByRecursion (λ a. waits_for new h.reserved h.entries a + num (same_group e.group a.group) ≤ waits_for old h.reserved h.entries a) h.entries
    each_falls less =
        all_map2 (λ a. same_group e.group a.group ≡ true → a ≡ e)
        (λ a. same_group e.group a.group ≡ false → waits_for new h.reserved h.entries a ≤ waits_for old h.reserved h.entries a)
        (λ a. waits_for new h.reserved h.entries a + num (same_group e.group a.group) ≤ waits_for old h.reserved h.entries a) one h.entries
        (found_alone test (λ a b. same_group a.group b.group) (λ a b. same_group_sym a.group b.group) h.entries e valid.groups found) others_fall
      where
        own : waits_for new h.reserved h.entries e + num (same_group e.group e.group) ≤ waits_for old h.reserved h.entries e
        own = let is : num (same_group e.group e.group) ≡ 1 = ap num (same_group_itself e.group) in omega (arith, less, is)

        one : (a : Entry) → (same_group e.group a.group ≡ true → a ≡ e)
            → (same_group e.group a.group ≡ false → waits_for new h.reserved h.entries a ≤ waits_for old h.reserved h.entries a)
            → waits_for new h.reserved h.entries a + num (same_group e.group a.group) ≤ waits_for old h.reserved h.entries a
        one a only other = by_test (same_group e.group a.group)
            (λ same. subst (λ (z : Entry). waits_for new h.reserved h.entries z + num (same_group e.group z.group) ≤ waits_for old h.reserved h.entries z) (sym (only same)) own)
            (λ off.
            let no_more : waits_for new h.reserved h.entries a ≤ waits_for old h.reserved h.entries a = other off in
            let none : num (same_group e.group a.group) ≡ 0 = ap num off in
            omega (arith, no_more, none))

  -- what is written is nothing that a rival holds
  module _ (some : is_empty cpus ≡ false) (free : are_free old h.reserved h.entries e cpus ≡ true) where
    -- what is known of two entries: their groups are two, and they are apart
    abbrev pub Known : Entry → Entry → Type 0
    Known a b = HaveOtherGroups a b × ApartAs old h.reserved a b

    -- what the entry gets anew
    abbrev pub gained : Ids
    gained = set.difference cpus (held old e)

    free_meets : (b : Entry) → holds_some old h.reserved e gained b ≡ false → MeetsNothing old new e cpus w h.reserved Known b
    free_meets b alone =
        λ a is known la lb pinned cpu ina inb.
        by_test (set.contains (held old e) cpu)
        (λ own. known.1 la lb pinned cpu (ap (λ x. set.contains (held old x) cpu) is ∙ own) inb)
        (λ new_one.
        none_own h.reserved (set.intersection gained (held old b))
        (left (e.pinned || b.pinned) (same_group e.group b.group) (is_alive old.table b.pid) (has_own h.reserved (set.intersection gained (held old b))) alone
        (ap (λ x. x.pinned || b.pinned) (sym is) ∙ pinned)
        (ap (λ x. same_group x.group b.group) (sym is) ∙ known.0) lb)
        cpu (contains-intersection gained (held old b) cpu
        ∙ both _ _ (contains-difference cpus (held old e) cpu ∙ both _ _ ina (ap not new_one)) inb))
      where
        left : (p s l u : Bool) → ((p && (not s && l)) && u) ≡ false → p ≡ true → s ≡ false → l ≡ true → u ≡ false
        left true false true u n p s l = n
        left false s l u n p q r = absurd (false≢true p)
        left true true l u n p q r = absurd (false≢true (sym q))
        left true false false u n p q r = absurd (false≢true r)

    pub free_safe : IsSafe old h.reserved (holders_of h.entries) → IsSafe new h.reserved (holders_of h.entries)
    free_safe safe =
        safe_after old new h.reserved h.entries e cpus w test found valid.groups Known
        (all_map (λ b. holds_some old h.reserved e gained b ≡ false) (MeetsNothing old new e cpus w h.reserved Known) free_meets h.entries
        (find_none (holds_some old h.reserved e gained) h.entries (none_of _ free)))
        (pairs_both HaveOtherGroups (ApartAs old h.reserved) (λ a b. Known a b × Known b a)
        (λ a b r s. ((r, s), (same_group_sym b.group a.group ∙ r, apart_swap old h.reserved a b s))) h.entries valid.groups
        (of_pairs_map holder_of (AreApart old h.reserved (requested_cpus old.tree)) h.entries safe.apart))
        some safe

  -- one that gives way
  module _ (gives : GivesWay h old e cpus) where
    lets_old : lets_go old h.reserved e ≡ true
    lets_old = blocking_lets gives.blocked

    moved_old : must_move old e ≡ true
    moved_old = lets_moves old h.reserved e lets_old

    gives_less : waits_for new h.reserved h.entries e + 1 ≤ waits_for old h.reserved h.entries e
    gives_less =
        let a : num (blocks new h.reserved h.entries e) ≡ 0 = ap num (yields_blocks moved_old (λ _. lets_old) gives.yields) in
        let b : num (blocks old h.reserved h.entries e) ≡ 1 = ap num gives.blocked in
        let c : num (must_move old e) ≡ 1 = ap num moved_old in
        let d : num (must_move new e) ≤ 1 = at_most (must_move new e) in
        omega (arith, a, b, c, d)
      where
        at_most : (x : Bool) → num x ≤ 1
        at_most true = omega arith
        at_most false = omega arith

    pub gives_falls : left_directly h new + 1 ≤ left_directly h old
    gives_falls = falls moved_old (λ _. lets_old) gives_less

    pub gives_each : AllByRecursion (λ a. waits_for new h.reserved h.entries a + num (same_group e.group a.group) ≤ waits_for old h.reserved h.entries a) h.entries
    gives_each = each_falls moved_old (λ _. lets_old) gives_less

  -- one that takes its target
  module _ (is_target : cpus ≡ e.target) (moved : must_move old e ≡ true) where
    holds_it : held new e ≡ e.target
    holds_it = w.own ∙ is_target

    lets_none : lets_go new h.reserved e ≡ true → lets_go old h.reserved e ≡ true
    lets_none lets =
        absurd (false≢true (sym (own_none h.reserved (set.difference e.target e.target)
        (λ cpu m. absurd (false≢true (sym (neither (set.contains e.target cpu) (sym (contains-difference e.target e.target cpu) ∙ m))))))
        ∙ ap (λ s. has_own h.reserved (set.difference s e.target)) (sym holds_it)
        ∙ (both_of (is_alive new.table e.pid) (has_own h.reserved (set.difference (held new e) e.target)) lets).1))
      where
        neither : (x : Bool) → (x && not x) ≡ true → true ≡ false
        neither true m = sym m
        neither false m = sym m

    target_yields : AllByRecursion (λ d. asks old h.reserved e d ≡ true → has_own h.reserved (set.intersection cpus d.target) ≡ false) h.entries
    target_yields =
        all_map (λ a. same_group e.group a.group ≡ false → AreTargetsApart h.reserved e a)
        (λ d. asks old h.reserved e d ≡ true → has_own h.reserved (set.intersection cpus d.target) ≡ false) one h.entries targets_apart where
          one : (d : Entry) → (same_group e.group d.group ≡ false → AreTargetsApart h.reserved e d) → asks old h.reserved e d ≡ true → has_own h.reserved (set.intersection cpus d.target) ≡ false
          one d apart asked = own_none h.reserved (set.intersection cpus d.target)
              (λ cpu m.
              let known = ask_parts old h.reserved e d asked in
              let in_both = both_of (set.contains cpus cpu) (set.contains d.target cpu) (sym (contains-intersection cpus d.target cpu) ∙ m) in
              apart known.1.0 (ap (λ p. e.pinned || p) known.0 ∙ or_true e.pinned) cpu (ap (λ s. set.contains s cpu) (sym is_target) ∙ in_both.0) in_both.1)

    takes_less : waits_for new h.reserved h.entries e + 1 ≤ waits_for old h.reserved h.entries e
    takes_less =
        let a : num (blocks new h.reserved h.entries e) ≡ 0 = ap num (yields_blocks moved lets_none target_yields) in
        let b : num (must_move new e) ≡ 0 =
        ap (λ s. num (is_alive new.table e.pid && not (is_same s e.target))) holds_it ∙ ap (λ s. num (is_alive new.table e.pid && not s)) (is_same_itself e.target) ∙ none_of_it (is_alive new.table e.pid) in
        let c : num (must_move old e) ≡ 1 = ap num moved in
        omega (arith, a, b, c)
      where
        none_of_it : (x : Bool) → num (x && not true) ≡ 0
        none_of_it true = refl
        none_of_it false = refl

    pub takes_falls : left_directly h new + 1 ≤ left_directly h old
    takes_falls = falls moved lets_none takes_less

    pub takes_each : AllByRecursion (λ a. waits_for new h.reserved h.entries a + num (same_group e.group a.group) ≤ waits_for old h.reserved h.entries a) h.entries
    takes_each = each_falls moved lets_none takes_less

pub each_waits_for_less : EachWaitsForLess
each_waits_for_less h old test e cpus valid placed found may = by may where
  new : KernelState
  new = written old (Some (write_of e cpus))

  w : IsWrite old new e.group cpus
  w = is_write old e.group cpus (find_among test (λ a. IsPlaced old a.group) h.entries e placed found).there

  by : MayWrite h old e cpus → AllByRecursion (λ a. waits_for new h.reserved h.entries a + num (same_group e.group a.group) ≤ waits_for old h.reserved h.entries a) h.entries
  by (inr way) = gives_each old new h valid e cpus w test found way
  by (inl take) = takes_each old new h valid e cpus w test found take.1 (both_of (must_move old e) (are_free old h.reserved h.entries e e.target) take.0).0

pub each_lowers : EachLowers
each_lowers h old test e cpus valid placed found may = by may where
  new : KernelState
  new = written old (Some (write_of e cpus))

  w : IsWrite old new e.group cpus
  w = is_write old e.group cpus (find_among test (λ a. IsPlaced old a.group) h.entries e placed found).there

  by : MayWrite h old e cpus → (IsSafe old h.reserved (holders_of h.entries) → IsSafe new h.reserved (holders_of h.entries)) × (left_directly h new + 1 ≤ left_directly h old)
  by (inr way) = (free_safe old new h valid e cpus w test found way.some way.free, gives_falls old new h valid e cpus w test found way)
  by (inl take) =
      let pass = both_of (must_move old e) (are_free old h.reserved h.entries e e.target) take.0 in
      let some : is_empty cpus ≡ false = ap is_empty take.1 ∙ find_among test (λ a. is_empty a.target ≡ false) h.entries e valid.some found in (
        free_safe old new h valid e cpus w test found some (ap (are_free old h.reserved h.entries e) take.1 ∙ pass.1),
        takes_falls old new h valid e cpus w test found take.1 pass.0,
      )

pub few_left : FewLeft
few_left h k = sum_bounded (waits_for k h.reserved h.entries) 2 h.entries (λ e. two (must_move k e) (blocks k h.reserved h.entries e)) where
  two : (x y : Bool) → num x + num y ≤ 2
  two true true = omega arith
  two true false = omega arith
  two false true = omega arith
  two false false = omega arith
