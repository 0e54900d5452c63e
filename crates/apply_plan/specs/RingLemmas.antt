-- Where all that let go wait, some of them stand in a ring, and one of those is one of which others ask.
use Rattle.std.proofs.Common.{◌≡◌, ℕ, zero, suc, ◌+◌, ◌≤◌, length, Bool, true, false, not, ◌&&◌, ◌||◌, List, [], ◌∷◌, refl, sym, ap, ◌∙◌, arith, inl, inr, subst}
use Rattle.std.proofs.lemmas.Bool.{false≢true}
use Rattle.std.specs.Prelude.{◌⊎◌, cond, find, Option, Some, None, is_none, is_some}
use Rattle.std.specs.List.{AllByRecursion}
use Rattle.std.specs.FinSet as set
use Rattle.cpuset_tree.specs.Groups.{same_group}
use Rattle.cpuset_tree.specs.GroupLemmas.{same_group_sym, same_group_itself}
use Rattle.proctable.specs.Processes.{is_alive}
use Rattle.kernel_model.specs.KernelState.{KernelState}
use Rattle.apply_plan.specs.declared.entry.Entry.{Entry}
use Rattle.apply_plan.specs.Holders.{Pairwise}
use Rattle.apply_plan.specs.Targets.{Targets, IsHandover, HaveOtherGroups, AreTargetsApart}
use Rattle.apply_plan.specs.DueWrite.{held, must_move}
use Rattle.apply_plan.specs.ListLemmas.{all_map, find_passes, find_among, find_none, found_alone}
use Rattle.apply_plan.specs.WriteLemmas.{by_test}
use Rattle.apply_plan.specs.DirectWords.{has_own, is_rival, holds_some, are_free, may_take, lets_go, asks, holds_up, blocks, spare}
use Rattle.apply_plan.specs.Rings.{next, leads_to, in_ring, rings_stand}
use Rattle.apply_plan.specs.DirectWrite.{is_mover, must_yield}
use Rattle.apply_plan.specs.DirectLemmas.{both, both_of, none_own, own_none, lets_moves, or_true}
use Rattle.apply_plan.specs.SetMemberLaws.{in_meet, in_minus, meet_has, minus_has, no_more, one_of_two}
use Rattle.apply_plan.specs.WayLemmas.{apart_from_it}

-- each test that all of a list pass, it passes
abbrev pub IsAmong : List Entry → Entry → Type 0
IsAmong xs e = (test : Entry → Bool) → AllByRecursion (λ x. test x ≡ true) xs → test e ≡ true

-- a list without the first of a group
abbrev pub without : Entry → List Entry → List Entry
without y [] = []
without y (x ∷ xs) = cond (same_group y.group x.group) xs (x ∷ without y xs)

-- of entries of which no two have one group, and each is among others, there are no more than of those
module _ (y : Entry) where
  drops : (xs : List Entry) → AllByRecursion (λ x. not (same_group y.group x.group) ≡ true) xs ⊎ (length xs ≡ length (without y xs) + 1)
  drops [] = inl tt
  drops (x ∷ xs) = by_test (same_group y.group x.group)
      (λ same. inr (let e : length (cond (same_group y.group x.group) xs (x ∷ without y xs)) ≡ length xs = ap (λ b. length (cond b xs (x ∷ without y xs))) same in omega (arith, e)))
      (λ other. by other (drops xs)) where
        by : same_group y.group x.group ≡ false → AllByRecursion (λ x. not (same_group y.group x.group) ≡ true) xs ⊎ (length xs ≡ length (without y xs) + 1)
            → AllByRecursion (λ x. not (same_group y.group x.group) ≡ true) (x ∷ xs) ⊎ (length (x ∷ xs) ≡ length (without y (x ∷ xs)) + 1)
        by other (inl all) = inl (ap not other, all)
        by other (inr less) = inr (let e : length (cond (same_group y.group x.group) xs (x ∷ without y xs)) ≡ length (without y xs) + 1 = ap (λ b. length (cond b xs (x ∷ without y xs))) other ∙ omega arith in omega (arith, e, less))

  stay_among : (xs : List Entry) (test : Entry → Bool) → AllByRecursion (λ x. test x ≡ true) (without y xs) → AllByRecursion (λ x. (same_group y.group x.group || test x) ≡ true) xs
  stay_among [] test all = tt
  stay_among (x ∷ xs) test all = by_test (same_group y.group x.group)
      (λ same. (
        ap (λ b. b || test x) same,
        all_map (λ a. test a ≡ true) (λ a. (same_group y.group a.group || test a) ≡ true) (λ a t. ap (λ b. same_group y.group a.group || b) t ∙ or_true (same_group y.group a.group)) xs
            (subst (λ b. AllByRecursion (λ x. test x ≡ true) (cond b xs (x ∷ without y xs))) same all),
      ))
      (λ other.
      let there = subst (λ b. AllByRecursion (λ x. test x ≡ true) (cond b xs (x ∷ without y xs))) other all in
      (ap (λ b. same_group y.group x.group || b) there.0 ∙ or_true (same_group y.group x.group), stay_among xs test there.1))

  among_without : (xs : List Entry) (z : Entry) → IsAmong xs z → same_group y.group z.group ≡ false → IsAmong (without y xs) z
  among_without xs z among other = λ test all. by (same_group y.group z.group) (test z) other (among (λ x. same_group y.group x.group || test x) (stay_among xs test all)) where
    by : (s t : Bool) → s ≡ false → (s || t) ≡ true → t ≡ true
    by true t a b = absurd (false≢true (sym a))
    by false t a b = b

pub no_more_than : (ys xs : List Entry) → Pairwise HaveOtherGroups ys → AllByRecursion (IsAmong xs) ys → length ys ≤ length xs
no_more_than [] xs apart among = omega arith
no_more_than (y ∷ ys) xs apart among = by (drops y xs)
    (no_more_than ys (without y xs) apart.1 (both_hold ys among.1 apart.0)) where
      both_hold : (zs : List Entry) → AllByRecursion (IsAmong xs) zs → AllByRecursion (HaveOtherGroups y) zs → AllByRecursion (IsAmong (without y xs)) zs
      both_hold [] a b = tt
      both_hold (z ∷ zs) a b = (among_without y xs z a.0 b.0, both_hold zs a.1 b.1)

      by : AllByRecursion (λ x. not (same_group y.group x.group) ≡ true) xs ⊎ (length xs ≡ length (without y xs) + 1) → length ys ≤ length (without y xs) → length (y ∷ ys) ≤ length xs
      by (inr less) rest = omega (arith, less, rest)
      by (inl none) rest = absurd (false≢true (sym (ap not (same_group_itself y.group)) ∙ among.0 (λ x. not (same_group y.group x.group)) none))

module _ (h : Targets) (valid : IsHandover h) (k : KernelState) where
  -- the one that it waits for
  abbrev pub its_next : Entry → Option Entry
  its_next e = next k h.reserved h.entries e

  -- one of the entries that lets go
  pub record Going (e : Entry) : Type 0 where
    pub test : Entry → Bool
    pub found : find test h.entries ≡ Some e
    pub lets : lets_go k h.reserved e ≡ true

  among_entries : (test : Entry → Bool) (e : Entry) → find test h.entries ≡ Some e → IsAmong h.entries e
  among_entries test e found = λ p all. find_among test (λ x. p x ≡ true) h.entries e all found

  -- what is known of one that another one waits for
  pub record WaitsFor (e d : Entry) : Type 0 where
    pub pinned : (e.pinned || d.pinned) ≡ true
    pub other : same_group e.group d.group ≡ false
    pub live : is_alive k.table d.pid ≡ true
    pub has : has_own h.reserved (set.intersection (set.difference e.target (held k e)) (held k d)) ≡ true

  pub waits_for_it : (e d : Entry) → its_next e ≡ Some d → WaitsFor e d
  waits_for_it e d is =
      let passes = find_passes (holds_some k h.reserved e (set.difference e.target (held k e))) h.entries d is in
      let parts = both_of (is_rival k e d) (has_own h.reserved (set.intersection (set.difference e.target (held k e)) (held k d))) passes in
      let first = both_of (e.pinned || d.pinned) (not (same_group e.group d.group) && is_alive k.table d.pid) parts.0 in
      let second = both_of (not (same_group e.group d.group)) (is_alive k.table d.pid) first.1 in
      record { pinned = first.0; other = no_more (same_group e.group d.group) second.0; live = second.1; has = parts.1 }

  -- the one that is waited for lets go
  pub it_goes : (test : Entry → Bool) (e d : Entry) → find test h.entries ≡ Some e → its_next e ≡ Some d → Going d
  it_goes test e d found is = record {
    test = holds_some k h.reserved e (set.difference e.target (held k e));
    found = is;
    lets = both (is_alive k.table d.pid) (has_own h.reserved (set.difference (held k d) d.target)) waits.live
        (by_test (has_own h.reserved (set.difference (held k d) d.target)) (λ own. own)
        (λ none. absurd (false≢true (sym (own_none h.reserved (set.intersection (set.difference e.target (held k e)) (held k d)) (member none)) ∙ waits.has))));
  } where
    waits : WaitsFor e d
    waits = waits_for_it e d is

    apart : AreTargetsApart h.reserved e d
    apart = find_among (holds_some k h.reserved e (set.difference e.target (held k e))) (λ a. same_group e.group a.group ≡ false → AreTargetsApart h.reserved e a) h.entries d
        (apart_from_it h valid test e found) is waits.other

    member : has_own h.reserved (set.difference (held k d) d.target) ≡ false → (q : ℕ)
        → set.contains (set.intersection (set.difference e.target (held k e)) (held k d)) q ≡ true → set.contains h.reserved q ≡ true
    member none q m =
        let in_both = in_meet (set.difference e.target (held k e)) (held k d) q m in
        by_test (set.contains d.target q)
        (λ t. apart waits.pinned q (in_minus e.target (held k e) q in_both.0).0 t)
        (λ f. none_own h.reserved (set.difference (held k d) d.target) none q (minus_has (held k d) d.target q in_both.1 f))

  -- it holds up the one that waits, where that is pinned and lets go
  pub it_blocks : (e d : Entry) → Going e → its_next e ≡ Some d → e.pinned ≡ true → blocks k h.reserved h.entries d ≡ true
  it_blocks e d going is pinned =
      both (is_alive k.table d.pid) (is_some (find (holds_up k h.reserved d) h.entries)) waits.live (by (find (holds_up k h.reserved d) h.entries) refl) where
        waits : WaitsFor e d
        waits = waits_for_it e d is

        turned : has_own h.reserved (set.intersection (held k d) e.target) ≡ true
        turned = by_test (has_own h.reserved (set.intersection (held k d) e.target)) (λ own. own)
            (λ none. absurd (false≢true (sym (own_none h.reserved (set.intersection (set.difference e.target (held k e)) (held k d)) (λ q m.
            let in_both = in_meet (set.difference e.target (held k e)) (held k d) q m in
            none_own h.reserved (set.intersection (held k d) e.target) none q (meet_has (held k d) e.target q in_both.1 (in_minus e.target (held k e) q in_both.0).0))) ∙ waits.has)))

        either_way : (p x y : Bool) → x ≡ true → y ≡ true → cond p x y ≡ true
        either_way true x y a b = a
        either_way false x y a b = b

        held_up : holds_up k h.reserved d e ≡ true
        held_up =
            both (asks k h.reserved d e) (has_own h.reserved (set.intersection (held k d) e.target))
            (both e.pinned (not (same_group d.group e.group) && cond d.pinned (lets_go k h.reserved e) (must_move k e)) pinned
            (both (not (same_group d.group e.group)) (cond d.pinned (lets_go k h.reserved e) (must_move k e)) (ap not (same_group_sym d.group e.group ∙ waits.other))
            (either_way d.pinned (lets_go k h.reserved e) (must_move k e) going.lets (lets_moves k h.reserved e going.lets)))) turned

        by : (o : Option Entry) → find (holds_up k h.reserved d) h.entries ≡ o → is_some o ≡ true
        by (Some x) at = refl
        by None at = absurd (false≢true (sym (find_among going.test (λ x. holds_up k h.reserved d x ≡ false) h.entries e (find_none (holds_up k h.reserved d) h.entries at) going.found) ∙ held_up))

  -- more steps lead to what fewer do
  leads_le : (e : Entry) (m n : ℕ) (o : Option Entry) → m ≤ n → leads_to k h.reserved h.entries e m o ≡ true → leads_to k h.reserved h.entries e n o ≡ true
  leads_le e zero n o le on = absurd (false≢true on)
  leads_le e (suc m) zero o le on = absurd (omega (arith, le))
  leads_le e (suc m) (suc n) None le on = absurd (false≢true on)
  leads_le e (suc m) (suc n) (Some d) le on = by_test (same_group e.group d.group)
      (λ same. ap (λ b. b || leads_to k h.reserved h.entries e n (its_next d)) same)
      (λ other. ap (λ b. same_group e.group d.group || b)
      (leads_le e m n (its_next d) (omega (arith, le)) (sym (ap (λ b. b || leads_to k h.reserved h.entries e m (its_next d)) other) ∙ on))
      ∙ or_true (same_group e.group d.group))

  -- whoever is next to one in a ring stands in it too
  module _ (x y : Entry) (going : Going x) (is : its_next x ≡ Some y) where
    alone : (test : Entry → Bool) (d : Entry) → find test h.entries ≡ Some d → same_group x.group d.group ≡ true → x ≡ d
    alone test d found same =
        find_among going.test (λ a. same_group d.group a.group ≡ true → a ≡ d) h.entries x
        (found_alone test (λ a b. same_group a.group b.group) (λ a b. same_group_sym a.group b.group) h.entries d valid.groups found) going.found
        (same_group_sym d.group x.group ∙ same)

    goes_on : (m : ℕ) (o : Option Entry) (e : Entry) → its_next e ≡ o → leads_to k h.reserved h.entries x m o ≡ true → leads_to k h.reserved h.entries y (suc m) o ≡ true
    goes_on zero o e at on = absurd (false≢true on)
    goes_on (suc m) None e at on = absurd (false≢true on)
    goes_on (suc m) (Some d) e at on = by_test (same_group x.group d.group)
        (λ same. ap (λ b. same_group y.group d.group || b)
        (ap (leads_to k h.reserved h.entries y (suc m)) (ap its_next (sym (alone (holds_some k h.reserved e (set.difference e.target (held k e))) d at same)) ∙ is)
        ∙ ap (λ b. b || leads_to k h.reserved h.entries y m (its_next y)) (same_group_itself y.group))
        ∙ or_true (same_group y.group d.group))
        (λ other. ap (λ b. same_group y.group d.group || b)
        (goes_on m (its_next d) d refl (sym (ap (λ b. b || leads_to k h.reserved h.entries x m (its_next d)) other) ∙ on))
        ∙ or_true (same_group y.group d.group))

    turns : (n : ℕ) → leads_to k h.reserved h.entries x n (Some y) ≡ true → leads_to k h.reserved h.entries y n (its_next y) ≡ true
    turns zero on = absurd (false≢true on)
    turns (suc n) on =
        goes_on n (its_next y) y refl
        (sym (ap (λ b. b || leads_to k h.reserved h.entries x n (its_next y)) (waits_for_it x y is).other) ∙ on)

    pub next_in_ring : in_ring k h.reserved h.entries x ≡ true → in_ring k h.reserved h.entries y ≡ true
    next_in_ring on = turns (length h.entries) (ap (leads_to k h.reserved h.entries x (length h.entries)) (sym is) ∙ on)

  -- those that led here, the last one first
  abbrev pub Linked : Entry → List Entry → Type 0
  Linked c [] = Unit {0}
  Linked c (x ∷ older) = (its_next x ≡ Some c) × Linked x older

  -- one of those that led here stands in a ring, as one of its group is waited for again; or all are others
  abbrev pub ComesBack : ℕ → Type 0
  ComesBack most = (x : Entry) × (Going x × ((j : ℕ) × ((j + 1 ≤ most) × (leads_to k h.reserved h.entries x j (its_next x) ≡ true))))

  back_or_new : (c : Entry) (trail : List Entry) (at : Entry) (m : ℕ) → Linked at trail → AllByRecursion Going trail
      → ((e : Entry) → same_group e.group c.group ≡ true → leads_to k h.reserved h.entries e m (Some at) ≡ true)
      → ComesBack (m + length trail) ⊎ AllByRecursion (HaveOtherGroups c) trail
  back_or_new c [] at m linked all back = inr tt
  back_or_new c (x ∷ older) at m linked all back = by_test (same_group x.group c.group)
      (λ same. inl (x, (all.0, (m, (omega arith, ap (leads_to k h.reserved h.entries x m) linked.0 ∙ back x same)))))
      (λ other. one_of_two
      (back_or_new c older x (suc m) linked.1 all.1
      (λ e same. ap (λ b. same_group e.group x.group || b) (ap (leads_to k h.reserved h.entries e m) linked.0 ∙ back e same) ∙ or_true (same_group e.group x.group)))
      (λ ring. inl (ring.0, (ring.1.0, (ring.1.1.0, (let r : ring.1.1.0 + 1 ≤ suc m + length older = ring.1.1.1.0 in omega (arith, r), ring.1.1.1.1)))))
      (λ new. inr (same_group_sym c.group x.group ∙ other, new)))

  -- where each that lets go waits for one, some stand in a ring
  module _ (waits : (e : Entry) → Going e → (d : Entry) × (its_next e ≡ Some d)) where
    -- one of those that go stands in a ring
    abbrev pub HasRing : Type 0
    HasRing = (x : Entry) × (Going x × (in_ring k h.reserved h.entries x ≡ true))

    ring_of : (trail : List Entry) → length trail ≤ length h.entries → ComesBack (1 + length trail) → HasRing
    ring_of trail few ring = (
      ring.0,
      (
        ring.1.0,
        leads_le ring.0 ring.1.1.0 (length h.entries) (its_next ring.0)
            (let r : ring.1.1.0 + 1 ≤ 1 + length trail = ring.1.1.1.0 in omega (arith, r, few)) ring.1.1.1.1,
      ),
    )

    first_step : (c e : Entry) → same_group e.group c.group ≡ true → leads_to k h.reserved h.entries e 1 (Some c) ≡ true
    first_step c e same = ap (λ b. b || leads_to k h.reserved h.entries e zero (its_next c)) same

    walk : (fuel : ℕ) (trail : List Entry) (c : Entry) → length trail + fuel ≡ length h.entries → Going c → Linked c trail → AllByRecursion Going trail
        → Pairwise HaveOtherGroups trail → HasRing
    walk zero trail c sum going linked all apart = one_of_two (back_or_new c trail c 1 linked all (first_step c))
        (ring_of trail (omega (arith, sum)))
        (λ new. absurd (let most : length (c ∷ trail) ≤ length h.entries = no_more_than (c ∷ trail) h.entries (new, apart)
        (among_entries going.test c going.found, all_map Going (IsAmong h.entries) (λ x g. among_entries g.test x g.found) trail all) in omega (arith, most, sum)))
    walk (suc fuel) trail c sum going linked all apart = one_of_two (back_or_new c trail c 1 linked all (first_step c))
        (ring_of trail (omega (arith, sum)))
        (λ new. let w = waits c going in
        walk fuel (c ∷ trail) w.0 (let s : length trail + suc fuel ≡ length h.entries = sum in omega (arith, s)) (it_goes going.test c w.0 going.found w.1) (w.1, linked) (going, all) (new, apart))

    pub a_ring : (e : Entry) → Going e → HasRing
    a_ring e going = walk (length h.entries) [] e (omega arith) going tt tt tt

    -- and one of those that stand in a ring is one of which others ask
    found_yields : (y : Entry) → Going y → blocks k h.reserved h.entries y ≡ true → in_ring k h.reserved h.entries y ≡ true
        → is_some (find (must_yield k h.reserved h.entries) h.entries) ≡ true
    found_yields y going blocked ring = by (find (must_yield k h.reserved h.entries) h.entries) refl where
      by : (o : Option Entry) → find (must_yield k h.reserved h.entries) h.entries ≡ o → is_some o ≡ true
      by (Some z) at = refl
      by None at = absurd (false≢true (sym (find_among going.test (λ x. must_yield k h.reserved h.entries x ≡ false) h.entries y (find_none (must_yield k h.reserved h.entries) h.entries at) going.found)
          ∙ both (blocks k h.reserved h.entries y) (in_ring k h.reserved h.entries y) blocked ring))

    after_pinned : (x : Entry) → Going x → in_ring k h.reserved h.entries x ≡ true → x.pinned ≡ true → is_some (find (must_yield k h.reserved h.entries) h.entries) ≡ true
    after_pinned x going ring pinned =
        let w = waits x going in
        found_yields w.0 (it_goes going.test x w.0 going.found w.1) (it_blocks x w.0 going w.1 pinned) (next_in_ring x w.0 going w.1 ring)

    pub some_yields : (e : Entry) → Going e → is_some (find (must_yield k h.reserved h.entries) h.entries) ≡ true
    some_yields e going =
        let r = a_ring e going in
        by_test r.0.pinned (λ pinned. after_pinned r.0 r.1.0 r.1.1 pinned)
        (λ shared.
        let w = waits r.0 r.1.0 in
        after_pinned w.0 (it_goes r.1.0.test r.0 w.0 r.1.0.found w.1) (next_in_ring r.0 w.0 r.1.0 w.1 r.1.1)
        (sym (ap (λ b. b || w.0.pinned) shared) ∙ (waits_for_it r.0 w.0 w.1).pinned))

  -- who can't take its target waits for one
  pub waits_if_not_free : (e : Entry) → are_free k h.reserved h.entries e e.target ≡ false → (d : Entry) × (its_next e ≡ Some d)
  waits_if_not_free e off = by (its_next e) refl off where
    by : (o : Option Entry) → its_next e ≡ o → is_none o ≡ false → (d : Entry) × (its_next e ≡ Some d)
    by (Some d) at off = (d, at)
    by None at off = absurd (false≢true (sym off))

  -- where no target of one that lets go is free, each of them waits
  pub movers_wait : find (is_mover k h.reserved h.entries) h.entries ≡ None → (e : Entry) → Going e → (d : Entry) × (its_next e ≡ Some d)
  movers_wait none e going = waits_if_not_free e
      (by (lets_go k h.reserved e) (must_move k e) (are_free k h.reserved h.entries e e.target) (set.is_subset (spare k h.reserved h.entries) e.target && rings_stand k h.reserved h.entries)
      going.lets (lets_moves k h.reserved e going.lets)
      (find_among going.test (λ x. is_mover k h.reserved h.entries x ≡ false) h.entries e (find_none (is_mover k h.reserved h.entries) h.entries none) going.found)) where
        by : (l m f g : Bool) → l ≡ true → m ≡ true → (l && ((m && f) && not (not l && g))) ≡ false → f ≡ false
        by true true false g a b c = refl
        by true true true g a b c = absurd (false≢true (sym c))
        by false m f g a b c = absurd (false≢true a)
        by true false f g a b c = absurd (false≢true b)

  -- a container that must move takes its target, or another one yields
  pub one_is_there : find (is_mover k h.reserved h.entries) h.entries ≡ None → find (must_yield k h.reserved h.entries) h.entries ≡ None
      → find (may_take k h.reserved h.entries) h.entries ≡ None → find (must_move k) h.entries ≡ None
  one_is_there no_mover no_yield no_take = by (find (must_move k) h.entries) refl where
    by : (o : Option Entry) → find (must_move k) h.entries ≡ o → find (must_move k) h.entries ≡ None
    by None at = at
    by (Some e) at =
        let stuck : may_take k h.reserved h.entries e ≡ false = find_among (must_move k) (λ x. may_take k h.reserved h.entries x ≡ false) h.entries e (find_none (may_take k h.reserved h.entries) h.entries no_take) at in
        let on = waits_if_not_free e (ap (λ b. b && are_free k h.reserved h.entries e e.target) (sym (find_passes (must_move k) h.entries e at)) ∙ stuck) in
        absurd (false≢true (sym (ap is_some no_yield) ∙ some_yields (movers_wait no_mover) on.0 (it_goes (must_move k) e on.0 at on.1)))
