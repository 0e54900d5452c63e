-- What a table of places tells of rings.
use Rattle.std.proofs.Common.{◌≡◌, ℕ, zero, suc, ◌+◌, ◌<◌, ◌≤◌, length, get_or, drop, Bool, true, false, ◌&&◌, ◌||◌, List, [], ◌∷◌, refl, sym, ap, ◌∙◌, subst, arith, eqb-true, eq-eqb}
use Rattle.std.proofs.lemmas.Bool.{false≢true}
use Rattle.std.proofs.lemmas.Bool.Decides.{nat_tests}
use Rattle.std.specs.Prelude.{find, Option, Some, None, is_some, slice_get, slice_index, nat_lt, ◌==◌}
use Rattle.std.specs.List.{AllByRecursion}
use Rattle.cpu_set.specs.Ids.{Ids}
use Rattle.cpuset_tree.specs.Groups.{same_group}
use Rattle.cpuset_tree.specs.GroupLemmas.{same_group_sym, same_group_itself}
use Rattle.kernel_model.specs.KernelState.{KernelState}
use Rattle.apply_plan.specs.declared.entry.Entry.{Entry}
use Rattle.apply_plan.specs.Holders.{Pairwise}
use Rattle.apply_plan.specs.Targets.{HaveOtherGroups}
use Rattle.apply_plan.specs.ListLemmas.{all_at, find_none, none_found}
use Rattle.apply_plan.specs.WriteLemmas.{by_test}
use Rattle.apply_plan.specs.Rings.{next, leads_to, in_ring, rings_stand}
use Rattle.apply_plan.specs.NextTables.{AreNexts, leads_place, ring_at, any_ring}
use Rattle.apply_plan.specs.OverviewLemmas.{same_answers}

pub below : (a b : ℕ) → nat_lt a b ≡ true → a < b
below a b t = grind (arith, nat_tests)

pub above : (a b : ℕ) → nat_lt a b ≡ false → b ≤ a
above a b t = grind (arith, nat_tests)

pub is_below : (a b : ℕ) → a < b → nat_lt a b ≡ true
is_below a b t = grind (arith, nat_tests)

-- the element at a place, where there is one
module _ {X : Type 0} where
  pub some_at : (xs : List X) (i : ℕ) → i < length xs → (x : X) × ((slice_get xs i ≡ Some x) × (x ≡ get_or xs i x))
  some_at [] i within = absurd (omega arith)
  some_at (x ∷ xs) zero within = (x, (refl, refl))
  some_at (x ∷ xs) (suc i) within = some_at xs i (omega arith)

  pub none_at : (xs : List X) (i : ℕ) → length xs ≤ i → slice_get xs i ≡ None
  none_at [] i past = refl
  none_at (x ∷ xs) zero past = absurd (omega arith)
  none_at (x ∷ xs) (suc i) past = none_at xs i (omega arith)

  pub all_places : (P : X → Type 0) (xs : List X) → ((i : ℕ) (x : X) → i < length xs → x ≡ get_or xs i x → P x) → AllByRecursion P xs
  all_places P [] f = tt
  all_places P (x ∷ xs) f = (f zero x (omega arith) refl, all_places P xs (λ i y within at. f (suc i) y (omega (arith, within)) at))

-- two places of one group are one
pub one_place : (xs : List Entry) (i j : ℕ) (a b : Entry) → Pairwise HaveOtherGroups xs → i < length xs → j < length xs → a ≡ get_or xs i a → b ≡ get_or xs j b
    → same_group a.group b.group ≡ true → i ≡ j
one_place [] i j a b groups wi wj ai bj same = absurd (omega arith)
one_place (x ∷ xs) zero zero a b groups wi wj ai bj same = refl
one_place (x ∷ xs) zero (suc j) a b groups wi wj ai bj same =
    absurd (false≢true (sym (all_at (HaveOtherGroups x) xs j b groups.0 (omega arith) bj) ∙ ap (λ (z : Entry). same_group z.group b.group) (sym ai) ∙ same))
one_place (x ∷ xs) (suc i) zero a b groups wi wj ai bj same =
    absurd (false≢true (sym (all_at (HaveOtherGroups x) xs i a groups.0 (omega arith) ai) ∙ ap (λ (z : Entry). same_group z.group a.group) (sym bj) ∙ same_group_sym b.group a.group ∙ same))
one_place (x ∷ xs) (suc i) (suc j) a b groups wi wj ai bj same = ap suc (one_place xs i j a b groups.1 (omega arith) (omega arith) ai bj same)

module _ (k : KernelState) (reserved : Ids) (entries : List Entry) (nexts : List ℕ) (groups : Pairwise HaveOtherGroups entries) (t : AreNexts k reserved entries nexts) where
  module _ (place : ℕ) (e : Entry) (within : place < length entries) (here : e ≡ get_or entries place e) where
    -- whether one at another place is it
    same_place : (at : ℕ) (d : Entry) → at < length entries → d ≡ get_or entries at d → (at == place) ≡ same_group e.group d.group
    same_place at d there is = same_answers (at == place) (same_group e.group d.group)
        (λ equal. let one : at ≡ place = eqb-true at place equal in
        subst (λ (x : Entry). same_group e.group x.group ≡ true) (here ∙ ap (λ i. get_or entries i e) (sym one) ∙ same_default entries at e d there ∙ sym is) (same_group_itself e.group))
        (λ same. eq-eqb at place (sym (one_place entries place at e d groups within there here is same)))
      where
        same_default : (xs : List Entry) (i : ℕ) (a b : Entry) → i < length xs → get_or xs i a ≡ get_or xs i b
        same_default [] i a b w = absurd (omega arith)
        same_default (x ∷ xs) zero a b w = refl
        same_default (x ∷ xs) (suc i) a b w = same_default xs i a b (omega arith)

    -- the table leads where the ones that are waited for do
    leads_alike : (n at : ℕ) → leads_place nexts place n at ≡ leads_to k reserved entries e n (slice_get entries at)
    leads_alike zero at = refl
    leads_alike (suc n) at = by_test (nat_lt at (length nexts))
        (λ inside.
        let there : at < length entries = (let b : at < length nexts = below at (length nexts) inside in let r : length nexts ≡ length entries = t.room in omega (arith, b, r)) in
        let d = some_at entries at there in
        ap (λ b. b && ((at == place) || leads_place nexts place n (slice_index nexts at))) inside
        ∙ ap (λ b. b || leads_place nexts place n (slice_index nexts at)) (same_place at d.0 there d.1.1)
        ∙ ap (λ b. same_group e.group d.0.group || b) (leads_alike n (slice_index nexts at) ∙ ap (leads_to k reserved entries e n) (sym (t.tells at d.0 there d.1.1)))
        ∙ ap (leads_to k reserved entries e (suc n)) (sym d.1.0))
        (λ outside.
        let past : length entries ≤ at = (let b : length nexts ≤ at = above at (length nexts) outside in let r : length nexts ≡ length entries = t.room in omega (arith, b, r)) in
        ap (λ b. b && ((at == place) || leads_place nexts place n (slice_index nexts at))) outside
        ∙ ap (leads_to k reserved entries e (suc n)) (sym (none_at entries at past)))

    pub ring_alike : ring_at nexts place ≡ in_ring k reserved entries e
    ring_alike =
        leads_alike (length nexts) (slice_index nexts place) ∙ ap (leads_to k reserved entries e (length nexts)) (sym (t.tells place e within here))
        ∙ ap (λ n. leads_to k reserved entries e n (next k reserved entries e)) t.room

  -- whether anybody stands in a ring
  no_ring_at : (n i : ℕ) → i < n → any_ring nexts n ≡ false → ring_at nexts i ≡ false
  no_ring_at zero i less none = absurd (omega arith)
  no_ring_at (suc n) i less none = by_test (n == i)
      (λ equal. subst (λ j. ring_at nexts j ≡ false) (eqb-true n i equal) (first (ring_at nexts n) (any_ring nexts n) none))
      (λ other. no_ring_at n i (strictly n i less other) (second (ring_at nexts n) (any_ring nexts n) none))
    where
      strictly : (n i : ℕ) → i < suc n → (n == i) ≡ false → i < n
      strictly n i less other = grind (arith, nat_tests)

      first : (x y : Bool) → (x || y) ≡ false → x ≡ false
      first true y e = e
      first false y e = refl

      second : (x y : Bool) → (x || y) ≡ false → y ≡ false
      second true y e = absurd (false≢true (sym e))
      second false y e = e

  some_ring_at : (n : ℕ) → any_ring nexts n ≡ true → n ≤ length entries → is_some (find (in_ring k reserved entries) entries) ≡ true
  some_ring_at zero some few = absurd (false≢true some)
  some_ring_at (suc n) some few = by_test (ring_at nexts n)
      (λ ring.
      let d = some_at entries n (omega (arith, few)) in
      found d.0 n (omega (arith, few)) d.1.1 (sym (ring_alike n d.0 (omega (arith, few)) d.1.1) ∙ ring) (find (in_ring k reserved entries) entries) refl)
      (λ none. some_ring_at n (sym (ap (λ b. b || any_ring nexts n) none) ∙ some) (omega (arith, few)))
    where
      found : (d : Entry) (i : ℕ) → i < length entries → d ≡ get_or entries i d → in_ring k reserved entries d ≡ true → (o : Option Entry) → find (in_ring k reserved entries) entries ≡ o → is_some o ≡ true
      found d i there at ring (Some x) is = refl
      found d i there at ring None is = absurd (false≢true (sym (all_at (λ a. in_ring k reserved entries a ≡ false) entries i d (find_none (in_ring k reserved entries) entries is) there at) ∙ ring))

  pub rings_alike : any_ring nexts (length nexts) ≡ rings_stand k reserved entries
  rings_alike = same_answers (any_ring nexts (length nexts)) (rings_stand k reserved entries)
      (λ some. some_ring_at (length nexts) some (let r : length nexts ≡ length entries = t.room in omega (arith, r)))
      (λ stand. by_test (any_ring nexts (length nexts)) (λ some. some)
      (λ none. absurd (false≢true (sym (ap is_some (none_found (in_ring k reserved entries) entries
      (all_places (λ a. in_ring k reserved entries a ≡ false) entries
      (λ i a within at. sym (ring_alike i a within at) ∙ no_ring_at (length nexts) i (let r : length nexts ≡ length entries = t.room in omega (arith, r, within)) none)))) ∙ stand))))

-- one place more
pub any_more : (nexts : List ℕ) (n m : ℕ) → m ≡ n + 1 → ring_at nexts n ≡ false → any_ring nexts n ≡ false → any_ring nexts m ≡ false
any_more nexts n m is none before =
    subst (λ j. any_ring nexts j ≡ false) (let e : suc n ≡ m = omega (arith, is) in e) (ap (λ b. b || any_ring nexts n) none ∙ before)

pub any_if : (nexts : List ℕ) (n i : ℕ) → i < n → ring_at nexts i ≡ true → any_ring nexts n ≡ true
any_if nexts zero i less ring = absurd (omega arith)
any_if nexts (suc n) i less ring = by_test (n == i)
    (λ equal. ap (λ b. b || any_ring nexts n) (ap (ring_at nexts) (eqb-true n i equal) ∙ ring))
    (λ other. ap (λ b. ring_at nexts n || b) (any_if nexts n i (strictly n i less other) ring) ∙ or_true (ring_at nexts n))
  where
    strictly : (n i : ℕ) → i < suc n → (n == i) ≡ false → i < n
    strictly n i less other = grind (arith, nat_tests)

    or_true : (x : Bool) → (x || true) ≡ true
    or_true true = refl
    or_true false = refl

-- one step of a look for a ring
pub step_on : (nexts : List ℕ) (place n m at : ℕ) → n ≡ m + 1 → at < length nexts → (at == place) ≡ false
    → leads_place nexts place n at ≡ leads_place nexts place m (slice_index nexts at)
step_on nexts place n m at is inside other =
    subst (λ j. leads_place nexts place j at ≡ leads_place nexts place m (slice_index nexts at)) (let e : suc m ≡ n = omega (arith, is) in e)
    (ap (λ b. b && ((at == place) || leads_place nexts place m (slice_index nexts at))) (is_below at (length nexts) inside) ∙ ap (λ b. b || leads_place nexts place m (slice_index nexts at)) other)

pub step_in : (nexts : List ℕ) (place n m at : ℕ) → n ≡ m + 1 → at < length nexts → (at == place) ≡ true → leads_place nexts place n at ≡ true
step_in nexts place n m at is inside same =
    subst (λ j. leads_place nexts place j at ≡ true) (let e : suc m ≡ n = omega (arith, is) in e)
    (ap (λ b. b && ((at == place) || leads_place nexts place m (slice_index nexts at))) (is_below at (length nexts) inside) ∙ ap (λ b. b || leads_place nexts place m (slice_index nexts at)) same)

pub step_out : (nexts : List ℕ) (place n at : ℕ) → length nexts ≤ at → leads_place nexts place n at ≡ false
step_out nexts place zero at past = refl
step_out nexts place (suc n) at past =
    ap (λ b. b && ((at == place) || leads_place nexts place n (slice_index nexts at))) (by_test (nat_lt at (length nexts)) (λ t. absurd (let b : at < length nexts = below at (length nexts) t in omega (arith, b, past))) (λ f. f))

pub no_steps : (nexts : List ℕ) (place n at : ℕ) → n ≡ 0 → leads_place nexts place n at ≡ false
no_steps nexts place n at is = ap (λ j. leads_place nexts place j at) is

-- what a look through a list finds is at its place
module _ {X : Type 0} where
  pub get_here : (xs : List X) (i : ℕ) (x : X) → i < length xs → x ≡ get_or xs i x → slice_get xs i ≡ Some x
  get_here [] i x within at = absurd (omega arith)
  get_here (y ∷ ys) zero x within at = ap Some (sym at)
  get_here (y ∷ ys) (suc i) x within at = get_here ys i x (omega arith) at

  pub none_left : (test : X → Bool) (xs : List X) (i : ℕ) → length xs ≤ i → find test (drop i xs) ≡ None
  none_left test [] zero past = refl
  none_left test [] (suc i) past = refl
  none_left test (x ∷ xs) zero past = absurd (omega arith)
  none_left test (x ∷ xs) (suc i) past = none_left test xs i (omega arith)
