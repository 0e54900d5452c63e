-- What was seen of all entries still tells which write is due, once each that was written since has its target, each other one waits
-- for what it was seen to wait for, and the same CPUs are held.
use Rattle.std.proofs.Common.{◌≡◌, ℕ, zero, suc, Bool, true, false, not, ◌&&◌, ◌||◌, List, [], ◌∷◌, length, refl, sym, ap, ◌∙◌, inl, inr}
use Rattle.std.proofs.lemmas.Bool.{false≢true}
use Rattle.std.proofs.lemmas.Option.{none-some}
use Rattle.std.specs.Prelude.{◌⊎◌, cond, find, Option, Some, None, is_none, is_some}
use Rattle.std.specs.List.{AllByRecursion}
use Rattle.std.specs.FinSet as set
use Rattle.cpu_set.specs.Ids.{Ids, is_empty, is_same, IsDisjoint}
use Rattle.cpu_set.specs.PointwiseLaws.{same_members, contains-difference}
use Rattle.cpuset_tree.specs.Groups.{same_group, requested_cpus}
use Rattle.cpuset_tree.specs.GroupLemmas.{same_group_itself, same_group_sym}
use Rattle.proctable.specs.Processes.{is_alive}
use Rattle.kernel_model.specs.KernelState.{KernelState}
use Rattle.apply_plan.specs.declared.Entry.{Entry}
use Rattle.apply_plan.specs.declared.overview.Overview.{Overview}
use Rattle.apply_plan.specs.Holders.{AreApart, IsSafe}
use Rattle.apply_plan.specs.Targets.{Targets, holder_of, holders_of, AreTargetsApart, IsHandover, IsPlaced, ArePlaced}
use Rattle.apply_plan.specs.DueWrite.{held, must_move}
use Rattle.apply_plan.specs.ListLemmas.{all_map, all_map2, find_passes, find_among, find_none, none_found, of_pairs_map, found_alone}
use Rattle.apply_plan.specs.WriteLemmas.{ApartAs, apart_swap, by_test, holds_target}
use Rattle.apply_plan.specs.KernelFactLemmas.{with_request, is_write}
use Rattle.apply_plan.specs.DirectWords.{has_own, is_rival, holds_some, are_free, may_take, lets_go, asks, holds_up, blocks, spare, places, way}
use Rattle.apply_plan.specs.Rings.{next, leads_to, in_ring, rings_stand}
use Rattle.apply_plan.specs.Overviews.{IsOverview, Tells, all_held, pinned_held, letting, moving, others, asks_together, asks_by}
use Rattle.apply_plan.specs.OverviewLemmas.{same_answers, way_together, places_together, blocks_together}
use Rattle.apply_plan.specs.TellLemmas.{tells_of}
use Rattle.apply_plan.specs.Directed.{Least}
use Rattle.apply_plan.specs.DirectWrite.{is_guarded, goes, must_yield, has_room, has_place, steps_aside}
use Rattle.apply_plan.specs.DirectLemmas.{both_of, both, own_none, none_own, lets_moves, blocking_lets, found_pairs}
use Rattle.apply_plan.specs.SetMemberLaws.{in_meet, in_minus, minus_has, meet_has, in_all, of_all, one_of_two}
use Rattle.apply_plan.specs.RingLemmas.{it_goes, it_blocks}
use Rattle.apply_plan.specs.WayLemmas.{apart_from_it}
use Rattle.direct_finish.specs.Seen.{AreAlike}

and_false : (x : Bool) → (x && false) ≡ false
and_false true = refl
and_false false = refl

-- who is found by one test is found by another one that nobody before it passes
pub find_less : (f g : Entry → Bool) (xs : List Entry) (y : Entry) → find f xs ≡ Some y → AllByRecursion (λ d. f d ≡ false → g d ≡ false) xs → g y ≡ true → find g xs ≡ Some y
find_less f g [] y found less passes = absurd (none-some y found)
find_less f g (x ∷ xs) y found less passes = by_test (f x)
    (λ t.
    let here : x ≡ y = cc (ap (λ b. cond b (Some x) (find f xs)) t, found) in
    ap (λ b. cond b (Some x) (find g xs)) (ap g here ∙ passes) ∙ ap Some here)
    (λ t.
    ap (λ b. cond b (Some x) (find g xs)) (less.0 t)
    ∙ find_less f g xs y (sym (ap (λ b. cond b (Some x) (find f xs)) t) ∙ found) less.1 passes)

-- sets that are alike outside the reserved CPUs
module _ (reserved : Ids) where
  pub own_alike : (s t : Ids) → AreAlike reserved s t → has_own reserved s ≡ has_own reserved t
  own_alike s t alike = same_answers (has_own reserved s) (has_own reserved t) (turn s t alike) (turn t s (λ q out. sym (alike q out))) where
    turn : (s t : Ids) → AreAlike reserved s t → has_own reserved s ≡ true → has_own reserved t ≡ true
    turn s t alike some = by_test (has_own reserved t) (λ on. on)
        (λ off. absurd (false≢true (sym (own_none reserved s (λ q m. by_test (set.contains reserved q) (λ r. r)
        (λ out. none_own reserved t off q (sym (alike q out) ∙ m)))) ∙ some)))

  minus_alike : (s t : Ids) (q : ℕ) → (set.contains reserved q ≡ false → set.contains s q ≡ set.contains t q)
      → set.contains (set.difference s reserved) q ≡ set.contains (set.difference t reserved) q
  minus_alike s t q alike =
      contains-difference s reserved q
      ∙ by_test (set.contains reserved q)
      (λ r. ap (λ b. set.contains s q && not b) r ∙ and_false (set.contains s q) ∙ sym (ap (λ b. set.contains t q && not b) r ∙ and_false (set.contains t q)))
      (λ out. ap (λ b. b && not (set.contains reserved q)) (alike out))
      ∙ sym (contains-difference t reserved q)

-- what is taken out of a set is the same where it is in it
pub minus_same : (s t u : Ids) → ((q : ℕ) → set.contains s q ≡ true → set.contains t q ≡ set.contains u q) → set.difference s t ≡ set.difference s u
minus_same s t u same = same_members _ _ (λ q.
    contains-difference s t q
    ∙ by_test (set.contains s q)
    (λ m. ap (λ b. set.contains s q && not b) (same q m))
    (λ out. ap (λ b. b && not (set.contains t q)) out ∙ sym (ap (λ b. b && not (set.contains u q)) out))
    ∙ sym (contains-difference s u q))

-- an entry rests, or holds the same
abbrev pub IsKept : KernelState → KernelState → Entry → Type 0
IsKept first k a = (must_move k a ≡ false) ⊎ (held k a ≡ held first a)

-- an entry as it was seen. It rests, or holds the same. Then it is pinned and lets go, and waits for one that holds the same; or it
-- only grows and is guarded; or it holds nothing for which others asked, and waits for anybody.
abbrev pub IsKnown : Targets → KernelState → KernelState → Entry → Type 0
IsKnown h first k a =
    (must_move k a ≡ false)
    ⊎ ((held k a ≡ held first a)
    × (((a.pinned ≡ true) × ((lets_go first h.reserved a ≡ true) × ((y : Entry) × ((next first h.reserved h.entries a ≡ Some y) × (held k y ≡ held first y)))))
    ⊎ (((lets_go first h.reserved a ≡ false) × (a.pinned ≡ true → set.is_subset (spare first h.reserved h.entries) a.target ≡ true))
    ⊎ ((blocks first h.reserved h.entries a ≡ false) × (are_free k h.reserved h.entries a a.target ≡ false)))))

module _ (h : Targets) (valid : IsHandover h) (first k : KernelState) (table : k.table ≡ first.table) (online : k.tree.online ≡ first.tree.online) where
  abbrev entries : List Entry
  entries = h.entries

  abbrev reserved : Ids
  reserved = h.reserved

  -- who holds the same does the same
  module _ (a : Entry) (same : held k a ≡ held first a) where
    pub lets_same : lets_go k reserved a ≡ lets_go first reserved a
    lets_same =
        ap (λ t. is_alive t a.pid && has_own reserved (set.difference (held k a) a.target)) table
        ∙ ap (λ s. is_alive first.table a.pid && has_own reserved (set.difference s a.target)) same

    moves_same : must_move k a ≡ must_move first a
    moves_same = ap (λ t. is_alive t a.pid && not (is_same (held k a) a.target)) table ∙ ap (λ s. is_alive first.table a.pid && not (is_same s a.target)) same

    holds_same : (e : Entry) (cpus : Ids) → holds_some k reserved e cpus a ≡ holds_some first reserved e cpus a
    holds_same e cpus =
        ap (λ t. ((e.pinned || a.pinned) && (not (same_group e.group a.group) && is_alive t a.pid)) && has_own reserved (set.intersection cpus (held k a))) table
        ∙ ap (λ s. is_rival first e a && has_own reserved (set.intersection cpus s)) same

  -- where each rests or holds the same
  module _ (kept : AllByRecursion (IsKept first k) entries) (test : Entry → Bool) (a : Entry) (found : find test entries ≡ Some a) where
    apart : AllByRecursion (λ d. same_group a.group d.group ≡ false → AreTargetsApart reserved a d) entries
    apart = apart_from_it h valid test a found

    -- who rests holds none of what it lacks
    rests_off : (lacks : Ids) → ((q : ℕ) → set.contains lacks q ≡ true → set.contains a.target q ≡ true) → (d : Entry) → must_move k d ≡ false
        → (same_group a.group d.group ≡ false → AreTargetsApart reserved a d) → holds_some k reserved a lacks d ≡ false
    rests_off lacks within d rests other = by_test (is_rival k a d)
        (λ rival. ap (λ b. is_rival k a d && b) (own_none reserved (set.intersection lacks (held k d)) (member rival)) ∙ and_false (is_rival k a d))
        (λ none. ap (λ b. b && has_own reserved (set.intersection lacks (held k d))) none)
      where
        parts : is_rival k a d ≡ true → ((a.pinned || d.pinned) ≡ true) × ((same_group a.group d.group ≡ false) × (is_alive k.table d.pid ≡ true))
        parts rival = by (a.pinned || d.pinned) (same_group a.group d.group) (is_alive k.table d.pid) rival where
          by : (p s l : Bool) → (p && (not s && l)) ≡ true → (p ≡ true) × ((s ≡ false) × (l ≡ true))
          by true false true r = (refl, (refl, refl))
          by true false false r = absurd (false≢true r)
          by true true l r = absurd (false≢true r)
          by false s l r = absurd (false≢true r)

        member : is_rival k a d ≡ true → (q : ℕ) → set.contains (set.intersection lacks (held k d)) q ≡ true → set.contains reserved q ≡ true
        member rival q m =
            let in_both = in_meet lacks (held k d) q m in
            other (parts rival).1.0 (parts rival).0 q (within q in_both.0)
            (ap (λ s. set.contains s q) (sym (holds_target k d rests (parts rival).1.1)) ∙ in_both.1)

    -- it waits for the one that it was seen to wait for
    pub next_kept : held k a ≡ held first a → (y : Entry) → next first reserved entries a ≡ Some y → held k y ≡ held first y → next k reserved entries a ≡ Some y
    next_kept stays y is there =
        ap (λ s. find (holds_some k reserved a (set.difference a.target s)) entries) stays
        ∙ find_less (holds_some first reserved a lacks) (holds_some k reserved a lacks) entries y is
        (all_map2 (IsKept first k) (λ d. same_group a.group d.group ≡ false → AreTargetsApart reserved a d)
        (λ d. holds_some first reserved a lacks d ≡ false → holds_some k reserved a lacks d ≡ false) one entries kept apart)
        (holds_same y there a lacks ∙ find_passes (holds_some first reserved a lacks) entries y is)
      where
        lacks : Ids
        lacks = set.difference a.target (held first a)

        one : (d : Entry) → IsKept first k d → (same_group a.group d.group ≡ false → AreTargetsApart reserved a d) → holds_some first reserved a lacks d ≡ false
            → holds_some k reserved a lacks d ≡ false
        one d (inl rests) other off = rests_off lacks (λ q m. (in_minus a.target (held first a) q m).0) d rests other
        one d (inr stays) other off = holds_same d stays a lacks ∙ off

  module _ (safe : IsSafe k reserved (holders_of entries)) (placed : ArePlaced k entries) (known : AllByRecursion (IsKnown h first k) entries)
      (held_same : AreAlike reserved (all_held k reserved entries) (all_held first reserved entries)) where
    all_kept : AllByRecursion (IsKept first k) entries
    all_kept = all_map (IsKnown h first k) (IsKept first k) (λ d x. by d x) entries known where
      by : (d : Entry) → IsKnown h first k d → IsKept first k d
      by d (inl rests) = inl rests
      by d (inr w) = inr w.0

    pub spare_same : spare k reserved entries ≡ spare first reserved entries
    spare_same =
        minus_same (set.difference k.tree.online reserved) (all_held k reserved entries) (all_held first reserved entries) (λ q m. held_same q (in_minus k.tree.online reserved q m).1)
        ∙ ap (λ s. set.difference (set.difference s reserved) (all_held first reserved entries)) online

    -- one of the entries
    module _ (test : Entry → Bool) (a : Entry) (found : find test entries ≡ Some a) where
      its_known : IsKnown h first k a
      its_known = find_among test (IsKnown h first k) entries a known found

      -- it waits for the one that it was seen to wait for
      pub next_same : held k a ≡ held first a → (y : Entry) → next first reserved entries a ≡ Some y → held k y ≡ held first y → next k reserved entries a ≡ Some y
      next_same = next_kept all_kept test a found

    -- and so those lead on to whom they were seen to lead
    pub leads_same : (e : Entry) (n : ℕ) (test : Entry → Bool) (a y : Entry) → find test entries ≡ Some a → a.pinned ≡ true → lets_go first reserved a ≡ true → held k a ≡ held first a
        → next first reserved entries a ≡ Some y → held k y ≡ held first y
        → leads_to k reserved entries e n (next k reserved entries a) ≡ leads_to first reserved entries e n (next first reserved entries a)
    leads_same e zero test a y found pinned lets stays is there = refl
    leads_same e (suc n) test a y found pinned lets stays is there =
        ap (leads_to k reserved entries e (suc n)) (next_same test a found stays y is there)
        ∙ ap (λ b. same_group e.group y.group || b)
        (one_of_two (its_known (holds_some first reserved a (set.difference a.target (held first a))) y is)
        (λ rests. absurd (false≢true (sym rests ∙ lets_moves k reserved y (lets_same y there ∙ (it_goes h valid first test a y found is).lets))))
        (λ w. one_of_two w.1
        (λ on. leads_same e n (holds_some first reserved a (set.difference a.target (held first a))) y on.1.1.0 is on.0 on.1.0 w.0 on.1.1.1.0 on.1.1.1.1)
        (λ rest. one_of_two rest
        (λ guarded. absurd (false≢true (sym guarded.0 ∙ (it_goes h valid first test a y found is).lets)))
        (λ beside. absurd (false≢true (sym beside.0 ∙ it_blocks h valid first a y (record { test = test; found = found; lets = lets }) is pinned))))))
        ∙ sym (ap (leads_to first reserved entries e (suc n)) is)

    -- nobody blocks who did not
    module _ (a : Entry) (stays : held k a ≡ held first a) where
      up_same : (d : Entry) → held k d ≡ held first d → holds_up k reserved a d ≡ holds_up first reserved a d
      up_same d same =
          ap (λ l. (d.pinned && (not (same_group a.group d.group) && cond a.pinned l (must_move k d))) && has_own reserved (set.intersection (held k a) d.target)) (lets_same d same)
          ∙ ap (λ m. (d.pinned && (not (same_group a.group d.group) && cond a.pinned (lets_go first reserved d) m)) && has_own reserved (set.intersection (held k a) d.target)) (moves_same d same)
          ∙ ap (λ s. asks first reserved a d && has_own reserved (set.intersection s d.target)) stays

      rests_up : (d : Entry) → must_move k d ≡ false → holds_up k reserved a d ≡ false
      rests_up d rests =
          ap (λ l. (d.pinned && (not (same_group a.group d.group) && cond a.pinned l (must_move k d))) && has_own reserved (set.intersection (held k a) d.target))
          (by_test (lets_go k reserved d) (λ lets. absurd (false≢true (sym rests ∙ lets_moves k reserved d lets))) (λ off. off))
          ∙ ap (λ m. (d.pinned && (not (same_group a.group d.group) && cond a.pinned false m)) && has_own reserved (set.intersection (held k a) d.target)) rests
          ∙ off d.pinned (not (same_group a.group d.group)) a.pinned (has_own reserved (set.intersection (held k a) d.target))
        where
          off : (p s q o : Bool) → ((p && (s && cond q false false)) && o) ≡ false
          off true true true o = refl
          off true true false o = refl
          off true false q o = refl
          off false s q o = refl

      pub blocks_off : blocks first reserved entries a ≡ false → blocks k reserved entries a ≡ false
      blocks_off none = by (find (holds_up first reserved a) entries) refl where
        one : (d : Entry) → IsKnown h first k d → holds_up first reserved a d ≡ false → holds_up k reserved a d ≡ false
        one d (inl rests) off = rests_up d rests
        one d (inr w) off = up_same d w.0 ∙ off

        by : (o : Option Entry) → find (holds_up first reserved a) entries ≡ o → blocks k reserved entries a ≡ false
        by None is =
            ap (λ o. is_alive k.table a.pid && is_some o)
            (none_found (holds_up k reserved a) entries
            (all_map2 (IsKnown h first k) (λ d. holds_up first reserved a d ≡ false) (λ d. holds_up k reserved a d ≡ false) one entries known
            (find_none (holds_up first reserved a) entries is)))
            ∙ and_false (is_alive k.table a.pid)
        by (Some d) is =
            ap (λ t. is_alive t a.pid && is_some (find (holds_up k reserved a) entries)) table
            ∙ ap (λ b. b && is_some (find (holds_up k reserved a) entries))
            (by_test (is_alive first.table a.pid)
            (λ live. absurd (false≢true (sym none ∙ both (is_alive first.table a.pid) (is_some (find (holds_up first reserved a) entries)) live (ap is_some is))))
            (λ dead. dead))

    module _ (test : Entry → Bool) (a : Entry) (found : find test entries ≡ Some a) where
      -- who blocks lets go
      blocks_lets : blocks k reserved entries a ≡ true → lets_go k reserved a ≡ true
      blocks_lets blocked =
          blocking_lets k (with_request k a.group (held k a)) h valid a (held k a)
          (is_write k a.group (held k a) (find_among test (λ x. IsPlaced k x.group) entries a placed found).there) test found blocked

      -- one that does not let go yields to nobody
      pub yields_none : lets_go k reserved a ≡ false → must_yield k reserved entries a ≡ false
      yields_none off = by_test (blocks k reserved entries a)
          (λ on. absurd (false≢true (sym off ∙ blocks_lets on)))
          (λ none. ap (λ b. b && in_ring k reserved entries a) none)

      pub rests_yields : must_move k a ≡ false → must_yield k reserved entries a ≡ false
      rests_yields rests = yields_none (by_test (lets_go k reserved a) (λ lets. absurd (false≢true (sym rests ∙ lets_moves k reserved a lets))) (λ off. off))

      -- one that holds nothing for which others asked yields to nobody
      pub beside_yields : held k a ≡ held first a → blocks first reserved entries a ≡ false → must_yield k reserved entries a ≡ false
      beside_yields stays none = ap (λ b. b && in_ring k reserved entries a) (blocks_off a stays none)

      pub ring_same : a.pinned ≡ true → lets_go first reserved a ≡ true → held k a ≡ held first a → (y : Entry) → next first reserved entries a ≡ Some y → held k y ≡ held first y
          → in_ring k reserved entries a ≡ in_ring first reserved entries a
      ring_same pinned lets stays y is there = leads_same a (length entries) test a y found pinned lets stays is there

      -- nobody takes its target at once, where rings stand
      pub none_goes : rings_stand k reserved entries ≡ true → (a.pinned || lets_go k reserved a) ≡ true → goes k reserved entries a ≡ false
      none_goes rings counts = one_of_two (its_known test a found)
          (λ rests. ap (λ m. (m && are_free k reserved entries a a.target) && not (is_guarded k reserved entries a)) rests)
          (λ w. one_of_two w.1
          (λ on.
          held_up (ap is_none (next_same test a found w.0 on.1.1.0 on.1.1.1.0 on.1.1.1.1)))
          (λ rest. one_of_two rest
          (λ guarded.
          let off : lets_go k reserved a ≡ false = lets_same a w.0 ∙ guarded.0 in
          let pinned : a.pinned ≡ true = by a.pinned (lets_go k reserved a) counts off in
          ap (λ l. may_take k reserved entries a && not (not l && (set.is_subset (spare k reserved entries) a.target && rings_stand k reserved entries))) off
          ∙ ap (λ b. may_take k reserved entries a && not (b && rings_stand k reserved entries)) (ap (λ s. set.is_subset s a.target) spare_same ∙ guarded.1 pinned)
          ∙ ap (λ b. may_take k reserved entries a && not b) rings
          ∙ and_false (may_take k reserved entries a))
          (λ beside. held_up beside.1)))
        where
          held_up : are_free k reserved entries a a.target ≡ false → goes k reserved entries a ≡ false
          held_up off =
              ap (λ f. (must_move k a && f) && not (is_guarded k reserved entries a)) off
              ∙ ap (λ b. b && not (is_guarded k reserved entries a)) (and_false (must_move k a))

          by : (p l : Bool) → (p || l) ≡ true → l ≡ false → p ≡ true
          by true l c off = refl
          by false l c off = absurd (false≢true (sym off ∙ c))

      -- what an overview of the first state tells of a pinned one that lives, it tells yet
      module _ (stays : held k a ≡ held first a) (pinned : a.pinned ≡ true) (live : is_alive k.table a.pid ≡ true) where
        alone : AllByRecursion (λ d. same_group a.group d.group ≡ true → d ≡ a) entries
        alone = found_alone test (λ x y. same_group x.group y.group) (λ x y. same_group_sym x.group y.group) entries a valid.groups found

        -- the others are apart from it
        others_apart : AllByRecursion (λ d. same_group a.group d.group ≡ false → ApartAs k reserved a d) entries
        others_apart =
            found_pairs test (λ x y. same_group x.group y.group) (λ x. same_group_itself x.group) (ApartAs k reserved) (λ x y. apart_swap k reserved x y) entries a
            (of_pairs_map holder_of (AreApart k reserved (requested_cpus k.tree)) entries safe.apart) found

        -- who holds a CPU counts among those that do; and it is this one, or apart from it
        abbrev IsFar : ℕ → Entry → Type 0
        IsFar q d =
            (is_alive k.table d.pid ≡ true → set.contains (held k d) q ≡ true → set.contains (all_held k reserved entries) q ≡ true)
            × ((same_group a.group d.group ≡ true → d ≡ a) × (same_group a.group d.group ≡ false → ApartAs k reserved a d))

        -- nobody else asks for what it holds, or for what nobody holds, who did not
        asks_same : (q : ℕ) → set.contains reserved q ≡ false → (set.contains (held k a) q ≡ true) ⊎ (set.contains (all_held k reserved entries) q ≡ false)
            → set.contains (asks_together k reserved entries a) q ≡ set.contains (asks_together first reserved entries a) q
        asks_same q out there = same_answers (set.contains (asks_together k reserved entries a) q) (set.contains (asks_together first reserved entries a) q)
            (λ m. let parts = in_minus (cond a.pinned (letting k reserved entries) (moving k reserved entries)) a.target q m in
            minus_has (cond a.pinned (letting first reserved entries) (moving first reserved entries)) a.target q
            (into first (of_all (λ d. d.pinned && lets_go k reserved d) (λ d. d.target) q (set.contains (letting first reserved entries) q) entries
            (all_map2 (IsKnown h first k) (λ d. (d.pinned && lets_go first reserved d) ≡ true → (q : ℕ) → set.contains d.target q ≡ true → set.contains (letting first reserved entries) q ≡ true)
            (λ d. (d.pinned && lets_go k reserved d) ≡ true → set.contains d.target q ≡ true → set.contains (letting first reserved entries) q ≡ true)
            before entries known (in_all (λ d. d.pinned && lets_go first reserved d) (λ d. d.target) entries)) (out_of k parts.0))) parts.1)
            (λ m. let parts = in_minus (cond a.pinned (letting first reserved entries) (moving first reserved entries)) a.target q m in
            minus_has (cond a.pinned (letting k reserved entries) (moving k reserved entries)) a.target q
            (into k (of_all (λ d. d.pinned && lets_go first reserved d) (λ d. d.target) q (set.contains (letting k reserved entries) q) entries
            (all_map2 (λ d. IsKnown h first k d × IsFar q d)
            (λ d. (d.pinned && lets_go k reserved d) ≡ true → (q : ℕ) → set.contains d.target q ≡ true → set.contains (letting k reserved entries) q ≡ true)
            (λ d. (d.pinned && lets_go first reserved d) ≡ true → set.contains d.target q ≡ true → set.contains (letting k reserved entries) q ≡ true)
            (since parts.1) entries all_known (in_all (λ d. d.pinned && lets_go k reserved d) (λ d. d.target) entries)) (out_of first parts.0))) parts.1)
          where
            into : (x : KernelState) → set.contains (letting x reserved entries) q ≡ true → set.contains (cond a.pinned (letting x reserved entries) (moving x reserved entries)) q ≡ true
            into x m = ap (λ p. set.contains (cond p (letting x reserved entries) (moving x reserved entries)) q) pinned ∙ m

            out_of : (x : KernelState) → set.contains (cond a.pinned (letting x reserved entries) (moving x reserved entries)) q ≡ true → set.contains (letting x reserved entries) q ≡ true
            out_of x m = ap (λ p. set.contains (cond p (letting x reserved entries) (moving x reserved entries)) q) (sym pinned) ∙ m

            all_known : AllByRecursion (λ d. IsKnown h first k d × IsFar q d) entries
            all_known =
                all_map2 (IsKnown h first k) (IsFar q)
                (λ d. IsKnown h first k d × IsFar q d)
                (λ d x y. (x, y)) entries known
                (all_map2 (λ d. is_alive k.table d.pid ≡ true → (q : ℕ) → set.contains (held k d) q ≡ true → set.contains (all_held k reserved entries) q ≡ true)
                (λ d. (same_group a.group d.group ≡ true → d ≡ a) × (same_group a.group d.group ≡ false → ApartAs k reserved a d))
                (IsFar q)
                (λ d x y. ((λ lives m. x lives q m), y)) entries (in_all (λ d. is_alive k.table d.pid) (held k) entries)
                (all_map2 (λ d. same_group a.group d.group ≡ true → d ≡ a) (λ d. same_group a.group d.group ≡ false → ApartAs k reserved a d)
                (λ d. (same_group a.group d.group ≡ true → d ≡ a) × (same_group a.group d.group ≡ false → ApartAs k reserved a d)) (λ d x y. (x, y)) entries alone others_apart))

            before : (d : Entry) → IsKnown h first k d
                → ((d.pinned && lets_go first reserved d) ≡ true → (q : ℕ) → set.contains d.target q ≡ true → set.contains (letting first reserved entries) q ≡ true)
                → (d.pinned && lets_go k reserved d) ≡ true → set.contains d.target q ≡ true → set.contains (letting first reserved entries) q ≡ true
            before d (inl rests) inside asks m = absurd (false≢true (sym rests ∙ lets_moves k reserved d (both_of d.pinned (lets_go k reserved d) asks).1))
            before d (inr same) inside asks m = inside (ap (λ b. d.pinned && b) (sym (lets_same d same.0)) ∙ asks) q m

            -- who has its target since would hold what is asked
            clash : (d : Entry) → (is_alive k.table d.pid ≡ true → set.contains (held k d) q ≡ true → set.contains (all_held k reserved entries) q ≡ true)
                → (same_group a.group d.group ≡ false → ApartAs k reserved a d) → same_group a.group d.group ≡ false → is_alive k.table d.pid ≡ true → set.contains (held k d) q ≡ true → ⊥
            clash d inside far other lives m = one_of_two there
                (λ own. false≢true (sym out ∙ far other live lives (ap (λ p. p || d.pinned) pinned) q own m))
                (λ nobody. false≢true (sym nobody ∙ inside lives m))

            since : set.contains a.target q ≡ false → (d : Entry)
                → IsKnown h first k d × IsFar q d
                → ((d.pinned && lets_go k reserved d) ≡ true → (q : ℕ) → set.contains d.target q ≡ true → set.contains (letting k reserved entries) q ≡ true)
                → (d.pinned && lets_go first reserved d) ≡ true → set.contains d.target q ≡ true → set.contains (letting k reserved entries) q ≡ true
            since off d x inside asks m = one_of_two x.0
                (λ rests.
                let lives : is_alive k.table d.pid ≡ true = ap (λ t. is_alive t d.pid) table ∙ (both_of (is_alive first.table d.pid) (has_own reserved (set.difference (held first d) d.target)) (both_of d.pinned (lets_go first reserved d) asks).1).0 in
                let other : same_group a.group d.group ≡ false = by_test (same_group a.group d.group)
                (λ same. absurd (false≢true (sym off ∙ ap (λ (z : Entry). set.contains z.target q) (sym (x.1.1.0 same)) ∙ m)))
                (λ f. f) in
                absurd (clash d x.1.0 x.1.1.1 other lives (ap (λ s. set.contains s q) (holds_target k d rests lives) ∙ m)))
                (λ same. inside (ap (λ b. d.pinned && b) (lets_same d same.0) ∙ asks) q m)

        module _ (o : Overview) (seen : IsOverview first reserved entries o) (own : IsDisjoint a.target reserved) where
          asks_seen : asks_together first reserved entries a ≡ asks_by o a
          asks_seen = sym (λ i. set.difference (cond a.pinned (seen.letting i) (seen.moving i)) a.target)

          -- outside the reserved CPUs the others hold what they did
          others_same : (q : ℕ) → set.contains reserved q ≡ false → set.contains (others k reserved entries a) q ≡ set.contains (cond a.pinned o.held o.pinned) q
          others_same q out =
              ap (λ p. set.contains (cond p (all_held k reserved entries) (pinned_held k reserved entries)) q) pinned ∙ held_same q out
              ∙ ap (λ s. set.contains s q) (sym seen.held) ∙ ap (λ p. set.contains (cond p o.held o.pinned) q) (sym pinned)

          pub still_tells : Tells k reserved entries o a
          still_tells = record {
            on_way =
                way_together k reserved entries a apart_here alone
                ∙ ap (λ s. set.union s (set.difference a.target (others k reserved entries a)))
                (minus_same (held k a) (set.difference (asks_together k reserved entries a) reserved) (set.difference (asks_by o a) reserved)
                (λ q m. minus_alike reserved (asks_together k reserved entries a) (asks_by o a) q
                (λ out. asks_same q out (inl m) ∙ ap (λ s. set.contains s q) asks_seen)))
                ∙ ap (λ s. set.union (set.difference (held k a) (set.difference (asks_by o a) reserved)) s)
                (minus_same a.target (others k reserved entries a) (cond a.pinned o.held o.pinned) (λ q m. others_same q (outside q m)));
            in_places = λ allowed.
                places_together k reserved entries a apart_here alone allowed
                ∙ minus_same (set.intersection allowed (spare k reserved entries)) (asks_together k reserved entries a) (asks_by o a)
                (λ q m. let parts = in_minus (set.difference k.tree.online reserved) (all_held k reserved entries) q (in_meet allowed (spare k reserved entries) q m).1 in
                asks_same q (in_minus k.tree.online reserved q parts.0).1 (inr parts.1) ∙ ap (λ s. set.contains s q) asks_seen)
                ∙ ap (λ s. set.difference (set.intersection allowed s) (asks_by o a))
                (minus_same (set.difference k.tree.online reserved) (all_held k reserved entries) o.held
                (λ q m. held_same q (in_minus k.tree.online reserved q m).1 ∙ ap (λ s. set.contains s q) (sym seen.held)));
          } where
            apart_here : AllByRecursion (λ d. same_group a.group d.group ≡ false → AreTargetsApart reserved a d) entries
            apart_here = apart_from_it h valid test a found

            outside : (q : ℕ) → set.contains a.target q ≡ true → set.contains reserved q ≡ false
            outside q m = by_test (set.contains reserved q) (λ r. absurd (own q m r)) (λ out. out)

          pub first_tells : Tells first reserved entries o a
          first_tells = tells_of first reserved entries o a (apart_from_it h valid test a found) alone seen

          -- it must give way where it had to
          blocks_same : blocks k reserved entries a ≡ blocks first reserved entries a
          blocks_same =
              blocks_together k reserved entries a (apart_from_it h valid test a found) alone
              ∙ ap (λ t. is_alive t a.pid && has_own reserved (set.intersection (held k a) (asks_together k reserved entries a))) table
              ∙ ap (λ b. is_alive first.table a.pid && b)
              (own_alike reserved (set.intersection (held k a) (asks_together k reserved entries a)) (set.intersection (held k a) (asks_together first reserved entries a))
              (λ q out. same_answers (set.contains (set.intersection (held k a) (asks_together k reserved entries a)) q) (set.contains (set.intersection (held k a) (asks_together first reserved entries a)) q)
              (λ m. let parts = in_meet (held k a) (asks_together k reserved entries a) q m in
              meet_has (held k a) (asks_together first reserved entries a) q parts.0 (sym (asks_same q out (inl parts.0)) ∙ parts.1))
              (λ m. let parts = in_meet (held k a) (asks_together first reserved entries a) q m in
              meet_has (held k a) (asks_together k reserved entries a) q parts.0 (asks_same q out (inl parts.0) ∙ parts.1))))
              ∙ ap (λ s. is_alive first.table a.pid && has_own reserved (set.intersection s (asks_together first reserved entries a))) stays
              ∙ sym (blocks_together first reserved entries a (apart_from_it h valid test a found) alone)

          pub yields_same : lets_go first reserved a ≡ true → (y : Entry) → next first reserved entries a ≡ Some y → held k y ≡ held first y → must_yield k reserved entries a ≡ must_yield first reserved entries a
          yields_same lets y is there =
              ap (λ b. b && in_ring k reserved entries a) blocks_same
              ∙ ap (λ b. blocks first reserved entries a && b) (ring_same pinned lets stays y is there)

          -- and it steps aside where it did
          way_same : way k reserved entries a ≡ way first reserved entries a
          way_same = still_tells.on_way ∙ ap (λ s. set.union (set.difference s (set.difference (asks_by o a) reserved)) (set.difference a.target (cond a.pinned o.held o.pinned))) stays
              ∙ sym first_tells.on_way

          places_same : (allowed : Ids) → places k reserved entries allowed a ≡ places first reserved entries allowed a
          places_same allowed = still_tells.in_places allowed
              ∙ ap (λ s. set.difference (set.intersection allowed (set.difference (set.difference s reserved) o.held)) (asks_by o a)) online ∙ sym (first_tells.in_places allowed)

          pub steps_same : lets_go first reserved a ≡ true → (allowed : Entry → Ids) (least : Least) (y : Entry) → next first reserved entries a ≡ Some y → held k y ≡ held first y
              → steps_aside k reserved entries allowed least a ≡ steps_aside first reserved entries allowed least a
          steps_same lets allowed least y is there =
              ap (λ b. a.pinned && (b && (has_room k reserved entries a || has_place k reserved entries allowed least a))) (yields_same lets y is there)
              ∙ (λ i. a.pinned && (must_yield first reserved entries a && (has_own reserved (set.intersection (way_same i) (online i)) || not (is_empty (least (places_same (allowed a) i) 1)))))
