-- What a table of first holders tells of who waits for whom.
use Rattle.std.proofs.Common.{◌≡◌, ℕ, zero, suc, ◌+◌, ◌<◌, ◌≤◌, length, get_or, Bool, true, false, not, ◌&&◌, ◌||◌, List, [], ◌∷◌, refl, sym, ap, ◌∙◌, subst, arith, inl, inr}
use Rattle.std.proofs.lemmas.Bool.{false≢true, cases_lt}
use Rattle.std.specs.Prelude.{◌⊎◌, cond, find, Some, slice_get}
use Rattle.std.specs.FinSet as set
use Rattle.std.specs.List.{list_all}
use Rattle.cpu_set.specs.Ids.{Ids}
use Rattle.cpu_set.specs.PointwiseLaws.{contains-empty}
use Rattle.cpuset_tree.specs.Groups.{same_group}
use Rattle.proctable.specs.Processes.{is_alive}
use Rattle.kernel_model.specs.KernelState.{KernelState}
use Rattle.apply_plan.specs.declared.entry.Entry.{Entry}
use Rattle.apply_plan.specs.DueWrite.{held}
use Rattle.apply_plan.specs.WriteLemmas.{by_test}
use Rattle.apply_plan.specs.DirectWords.{has_own, is_rival, holds_some}
use Rattle.apply_plan.specs.Rings.{next}
use Rattle.apply_plan.specs.DirectLemmas.{both, both_of, none_own, own_none}
use Rattle.apply_plan.specs.SetMemberLaws.{in_meet, in_minus, meet_has, minus_has, in_union, union_left, union_right, one_of_two}
use Rattle.apply_plan.specs.OverviewLemmas.{is_other}
use Rattle.apply_plan.specs.FirstHolders.{has_cpu, AreFirsts, IsLeastPlace}

-- at one place stands one element
pub same_here : {X : Type 0} (xs : List X) (i : ℕ) (a b : X) → i < length xs → a ≡ get_or xs i a → b ≡ get_or xs i b → a ≡ b
same_here [] i a b within at bt = absurd (omega arith)
same_here (x ∷ xs) zero a b within at bt = at ∙ sym bt
same_here (x ∷ xs) (suc i) a b within at bt = same_here xs i a b (omega arith) at bt

-- where none before a place passes, and the one there does if there is one, that one is found
pub find_place : {X : Type 0} (test : X → Bool) (xs : List X) (r : ℕ) → ((j : ℕ) (d : X) → j < length xs → j < r → d ≡ get_or xs j d → test d ≡ false)
    → ((d : X) → r < length xs → d ≡ get_or xs r d → test d ≡ true) → find test xs ≡ slice_get xs r
find_place test [] r before here = refl
find_place test (x ∷ xs) zero before here = ap (λ b. cond b (Some x) (find test xs)) (here x (omega arith) refl)
find_place test (x ∷ xs) (suc r) before here =
    ap (λ b. cond b (Some x) (find test xs)) (before zero x (omega arith) (omega arith) refl)
    ∙ find_place test xs r (λ j d within less at. before (suc j) d (omega (arith, within)) (omega (arith, less)) at) (λ d within at. here d (omega (arith, within)) at)

module _ (k : KernelState) (reserved : Ids) (entries : List Entry) (any : Bool) where
  -- nothing was seen of no entries
  pub firsts_none : (seen : Ids) (places : List ℕ) → seen ≡ set.empty → AreFirsts k reserved entries any 0 seen places
  firsts_none seen places is = record {
    outside = λ q m. absurd (unseen q m);
    within = λ q m. absurd (unseen q m);
    holds = λ q d m at. absurd (unseen q m);
    first = λ q j d m less at. absurd (unseen q m);
    none = λ q j d out free less at. absurd (omega (arith, less));
  } where
    unseen : (q : ℕ) → set.contains seen q ≡ true → ⊥
    unseen q m = false≢true (sym (contains-empty q) ∙ ap (λ s. set.contains s q) (sym is) ∙ m)

  -- one more entry, which does not count or has ended
  pub firsts_pass : (i : ℕ) (d : Entry) (seen : Ids) (places : List ℕ) → i < length entries → d ≡ get_or entries i d → ((any || d.pinned) && is_alive k.table d.pid) ≡ false
      → AreFirsts k reserved entries any i seen places → AreFirsts k reserved entries any (i + 1) seen places
  firsts_pass i d seen places within at out before = record {
    outside = before.outside;
    within = λ q m. let less : get_or places q 0 < i = before.within q m in omega (arith, less);
    holds = before.holds;
    first = before.first;
    none = λ q j x unseen free less is. elim (cases_lt j i) [
      | inl earlier ↦ before.none q j x unseen free earlier is
      | inr last ↦
          let same : j ≡ i = omega (arith, less, last) in
          let one : x ≡ d = same_here entries i x d within (subst (λ n. x ≡ get_or entries n x) same is) at in
          ap (has_cpu k any q) one ∙ ap (λ b. b && set.contains (held k d) q) out
    ];
  }

  -- one more that counts
  module _ (i : ℕ) (d : Entry) (seen news more : Ids) (places new : List ℕ) (within : i < length entries) (at : d ≡ get_or entries i d)
      (counts : ((any || d.pinned) && is_alive k.table d.pid) ≡ true) (is_news : news ≡ set.difference (set.difference (held k d) reserved) seen)
      (is_more : more ≡ set.union seen news) (each : (q : ℕ) → get_or new q 0 ≡ cond (set.contains news q) i (get_or places q 0))
      (before : AreFirsts k reserved entries any i seen places) where
    -- what is known of a CPU that it holds first
    is_new : (q : ℕ) → set.contains news q ≡ true → (set.contains (held k d) q ≡ true) × (set.contains reserved q ≡ false) × (set.contains seen q ≡ false)
    is_new q m =
        let outer = in_minus (set.difference (held k d) reserved) seen q (ap (λ s. set.contains s q) (sym is_news) ∙ m) in
        let inner = in_minus (held k d) reserved q outer.0 in
        (inner.0, inner.1, outer.1)

    stands_new : (q : ℕ) → set.contains news q ≡ true → get_or new q 0 ≡ i
    stands_new q m = each q ∙ ap (λ b. cond b i (get_or places q 0)) m

    stands_old : (q : ℕ) → set.contains news q ≡ false → get_or new q 0 ≡ get_or places q 0
    stands_old q m = each q ∙ ap (λ b. cond b i (get_or places q 0)) m

    -- who is in the larger set and not new was seen before
    was_seen : (q : ℕ) → set.contains more q ≡ true → set.contains news q ≡ false → set.contains seen q ≡ true
    was_seen q m out = one_of_two (in_union seen news q (ap (λ s. set.contains s q) (sym is_more) ∙ m)) (λ old. old) (λ n. absurd (false≢true (sym out ∙ n)))

    is_it : (j : ℕ) (x : Entry) → j ≡ i → x ≡ get_or entries j x → x ≡ d
    is_it j x same is = same_here entries i x d within (subst (λ n. x ≡ get_or entries n x) same is) at

    has_it : (q : ℕ) → has_cpu k any q d ≡ set.contains (held k d) q
    has_it q = ap (λ b. b && set.contains (held k d) q) counts

    not_in : (q : ℕ) (s : Ids) → ((m : set.contains s q ≡ true) → set.contains more q ≡ true) → set.contains more q ≡ false → set.contains s q ≡ false
    not_in q s f out = by_test (set.contains s q) (λ m. absurd (false≢true (sym out ∙ f m))) (λ m. m)

    pub firsts_more : AreFirsts k reserved entries any (i + 1) more new
    firsts_more = record {
      outside = λ q m. by_test (set.contains news q) (λ n. (is_new q n).1) (λ o. before.outside q (was_seen q m o));
      within = λ q m. by_test (set.contains news q)
          (λ n. let here : get_or new q 0 ≡ i = stands_new q n in omega (arith, here))
          (λ o. let here : get_or new q 0 ≡ get_or places q 0 = stands_old q o in let less : get_or places q 0 < i = before.within q (was_seen q m o) in omega (arith, here, less));
      holds = λ q x m is. by_test (set.contains news q)
          (λ n. ap (has_cpu k any q) (is_it (get_or new q 0) x (stands_new q n) is) ∙ has_it q ∙ (is_new q n).0)
          (λ o. before.holds q x (was_seen q m o) (subst (λ n. x ≡ get_or entries n x) (stands_old q o) is));
      first = λ q j x m less is. by_test (set.contains news q)
          (λ n. before.none q j x (is_new q n).2 (is_new q n).1 (subst (λ p. j < p) (stands_new q n) less) is)
          (λ o. before.first q j x (was_seen q m o) (subst (λ p. j < p) (stands_old q o) less) is);
      none = λ q j x unseen free less is.
          let not_seen : set.contains seen q ≡ false = not_in q seen (λ m. ap (λ s. set.contains s q) is_more ∙ union_left seen news q m) unseen in
          let not_new : set.contains news q ≡ false = not_in q news (λ m. ap (λ s. set.contains s q) is_more ∙ union_right seen news q m) unseen in
          elim (cases_lt j i) [
            | inl earlier ↦ before.none q j x not_seen free earlier is
            | inr last ↦
                ap (has_cpu k any q) (is_it j x (omega (arith, less, last)) is) ∙ has_it q
                ∙ by_test (set.contains (held k d) q)
                (λ own. absurd (false≢true (sym not_new ∙ ap (λ s. set.contains s q) is_news
                ∙ minus_has (set.difference (held k d) reserved) seen q (minus_has (held k d) reserved q own free) not_seen)))
                (λ out. out)
          ];
    }

-- the one that a container waits for, by the table of those that count for it
module _ (k : KernelState) (reserved : Ids) (entries : List Entry) (e : Entry) (seen : Ids) (places : List ℕ)
    (firsts : AreFirsts k reserved entries e.pinned (length entries) seen places) (cpus : Ids) (r : ℕ)
    (is : cpus ≡ set.intersection (set.difference e.target (held k e)) seen) (least : IsLeastPlace cpus places (length entries) r) where
  -- what it lacks of its target
  abbrev pub lacking : Ids
  lacking = set.difference e.target (held k e)

  rival_has : (d : Entry) (q : ℕ) → is_rival k e d ≡ true → set.contains (held k d) q ≡ true → has_cpu k e.pinned q d ≡ true
  rival_has d q rival own = by (e.pinned || d.pinned) (same_group e.group d.group) (is_alive k.table d.pid) (set.contains (held k d) q) rival own where
    by : (p s a h : Bool) → (p && (not s && a)) ≡ true → h ≡ true → ((p && a) && h) ≡ true
    by true false true h r own = own
    by true false false h r own = absurd (false≢true r)
    by true true a h r own = absurd (false≢true r)
    by false s a h r own = absurd (false≢true r)

  has_rival : (d : Entry) (q : ℕ) → has_cpu k e.pinned q d ≡ true → same_group e.group d.group ≡ false → is_rival k e d ≡ true
  has_rival d q has other = by (e.pinned || d.pinned) (same_group e.group d.group) (is_alive k.table d.pid) (set.contains (held k d) q) has other where
    by : (p s a h : Bool) → ((p && a) && h) ≡ true → s ≡ false → (p && (not s && a)) ≡ true
    by true false true h has other = refl
    by true s false h has other = absurd (false≢true has)
    by true true true h has other = absurd (false≢true (sym other))
    by false s a h has other = absurd (false≢true has)

  none_before : (j : ℕ) (d : Entry) → j < length entries → j < r → d ≡ get_or entries j d → holds_some k reserved e lacking d ≡ false
  none_before j d within before at = by_test (is_rival k e d)
      (λ rival. ap (λ b. is_rival k e d && b) (own_none reserved (set.intersection lacking (held k d))
      (λ q m. by_test (set.contains reserved q) (λ in_reserve. in_reserve)
      (λ free.
      let parts = in_meet lacking (held k d) q m in
      let has : has_cpu k e.pinned q d ≡ true = rival_has d q rival parts.1 in
      absurd (false≢true (by_test (set.contains seen q)
      (λ saw.
      let low : r ≤ get_or places q 0 = least.below q (ap (λ s. set.contains s q) is ∙ meet_has lacking seen q parts.0 saw) in
      sym (firsts.first q j d saw (omega (arith, low, before)) at) ∙ has)
      (λ unseen. sym (firsts.none q j d unseen free within at) ∙ has)))))) ∙ and_false (is_rival k e d))
      (λ none. ap (λ b. b && has_own reserved (set.intersection lacking (held k d))) none)
    where
      and_false : (x : Bool) → (x && false) ≡ false
      and_false true = refl
      and_false false = refl

  there_passes : (d : Entry) → r < length entries → d ≡ get_or entries r d → holds_some k reserved e lacking d ≡ true
  there_passes d within at = by least.among where
    at_cpu : (q : ℕ) → set.contains cpus q ≡ true → get_or places q 0 ≡ r → holds_some k reserved e lacking d ≡ true
    at_cpu q m here =
        let parts = in_meet lacking seen q (ap (λ s. set.contains s q) (sym is) ∙ m) in
        let has : has_cpu k e.pinned q d ≡ true = firsts.holds q d parts.1 (subst (λ n. d ≡ get_or entries n d) (sym here) at) in
        let own : set.contains (held k d) q ≡ true = (both_of ((e.pinned || d.pinned) && is_alive k.table d.pid) (set.contains (held k d) q) has).1 in
        let rival : is_rival k e d ≡ true = has_rival d q has (is_other k reserved entries e d q (in_minus e.target (held k e) q parts.0).1 own) in
        both (is_rival k e d) (has_own reserved (set.intersection lacking (held k d))) rival
        (by_test (has_own reserved (set.intersection lacking (held k d))) (λ some. some)
        (λ none. absurd (false≢true (sym (firsts.outside q parts.1)
        ∙ none_own reserved (set.intersection lacking (held k d)) none q (meet_has lacking (held k d) q parts.0 own)))))

    by : (r ≡ length entries) ⊎ ((q : ℕ) × ((set.contains cpus q ≡ true) × (get_or places q 0 ≡ r))) → holds_some k reserved e lacking d ≡ true
    by (inl past) = absurd (omega (arith, past, within))
    by (inr found) = at_cpu found.0 found.1.0 found.1.1

  pub next_is : next k reserved entries e ≡ slice_get entries r
  next_is = find_place (holds_some k reserved e lacking) entries r none_before there_passes

-- where each is pinned, whoever counts among the pinned ones is anyone
module _ (k : KernelState) (reserved : Ids) where
  pinned_at : (entries : List Entry) (i : ℕ) (d : Entry) → list_all (λ e. e.pinned) entries ≡ true → i < length entries → d ≡ get_or entries i d → d.pinned ≡ true
  pinned_at [] i d all within at = absurd (omega arith)
  pinned_at (e ∷ es) zero d all within at = ap (λ (z : Entry). z.pinned) at ∙ (both_of e.pinned (list_all (λ e. e.pinned) es) all).0
  pinned_at (e ∷ es) (suc i) d all within at = pinned_at es i d (both_of e.pinned (list_all (λ e. e.pinned) es) all).1 (omega arith) at

  counts_too : (q : ℕ) (d : Entry) → d.pinned ≡ true → has_cpu k false q d ≡ has_cpu k true q d
  counts_too q d pinned = ap (λ p. (p && is_alive k.table d.pid) && set.contains (held k d) q) pinned

  pub firsts_of_pinned : (entries : List Entry) → list_all (λ e. e.pinned) entries ≡ true → (upto : ℕ) (seen : Ids) (places : List ℕ) → upto ≤ length entries
      → AreFirsts k reserved entries true upto seen places → AreFirsts k reserved entries false upto seen places
  firsts_of_pinned entries all upto seen places room firsts = record {
    outside = firsts.outside;
    within = firsts.within;
    holds = λ q d m at. counts_too q d (pinned_at entries (get_or places q 0) d all (inside q m) at) ∙ firsts.holds q d m at;
    first = λ q j d m less at.
        let place : get_or places q 0 < length entries = inside q m in
        counts_too q d (pinned_at entries j d all (omega (arith, less, place)) at) ∙ firsts.first q j d m less at;
    none = λ q j d out free less at. counts_too q d (pinned_at entries j d all (omega (arith, less, room)) at) ∙ firsts.none q j d out free less at;
  } where
    inside : (q : ℕ) → set.contains seen q ≡ true → get_or places q 0 < length entries
    inside q m = let near : get_or places q 0 < upto = firsts.within q m in omega (arith, near, room)
