-- Sets that are written out as lists of numbers, as worked rows have them: what is asked of one is computed from its list.
use Rattle.std.proofs.Common.{◌≡◌, ℕ, ◌+◌, Bool, true, false, cond, ◌&&◌, ◌||◌, nat_eq, List, [], ◌∷◌, ◌++◌, filter, inl, inr, refl, sym, ap, ◌∙◌, arith}
use Rattle.std.proofs.lemmas.Bool.{and_parts, and_from, or_cases, false_from_ne_true, eqb-true}
use Rattle.std.proofs.lemmas.Bool.Decides.{nat_tests}
use Rattle.std.proofs.lemmas.List.Folds.{list_any-append}
use Rattle.std.specs.List.{list_any, list_all}
use Rattle.std.specs.Ordering.{nat_cmp}
use Rattle.std.specs.Cmp.{nat_cmp_total}
use Rattle.std.specs.FinSet as set
use Rattle.cpu_set.specs.Ids.{Ids}
use Rattle.cpu_set.specs.Members.{cpus, members}
use Rattle.cpu_set.specs.PointwiseLaws.{same_members, contains-intersection, contains-union, is_subset-contains, contains-is_subset}

-- the set of these numbers
abbrev listed : List ℕ → Ids
listed ks = set.from_list ks

-- whether a number stands in a list
abbrev pub is_in : List ℕ → ℕ → Bool
is_in ks q = list_any (λ k. nat_eq k q) ks

pub contains-listed : (ks : List ℕ) → set.contains (listed ks) ≡ is_in ks
contains-listed ks = λ i q. set.contains-from_list_nat ks q i

-- how many numbers a list has, each counted once
abbrev pub count_once : List ℕ → ℕ
count_once [] = 0
count_once (k ∷ ks) = cond (is_in ks k) (count_once ks) (count_once ks + 1)

pub len-listed : (ks : List ℕ) → set.len (listed ks) ≡ count_once ks
len-listed [] = set.len-empty nat_cmp
len-listed (k ∷ ks) =
    set.len-insert nat_cmp_total (listed ks) k
    ∙ (λ i. cond (set.contains-from_list_nat ks k i) (len-listed ks i) (len-listed ks i + 1))

-- the members, in rising order, whatever the order of the list
pub members-listed : (ks : List ℕ) → members (listed ks) ≡ filter (is_in ks) cpus
members-listed ks = ap (λ test. filter test cpus) (contains-listed ks)

joined : (is rest passes : Bool) → (is ≡ true → passes ≡ true) → (is || (rest && passes)) ≡ ((is || rest) && passes)
joined true rest passes f = sym (f refl)
joined false rest passes f = refl

left_out : (is rest passes : Bool) → (is ≡ true → passes ≡ false) → (rest && passes) ≡ ((is || rest) && passes)
left_out true true passes f = refl
left_out true false passes f = sym (f refl)
left_out false rest passes f = refl

-- the numbers of a list that pass a test
pub is_in-filter : (p : ℕ → Bool) (ks : List ℕ) (q : ℕ) → is_in (filter p ks) q ≡ (is_in ks q && p q)
is_in-filter p [] q = refl
is_in-filter p (k ∷ ks) q = by_test (p k) refl (is_in-filter p ks q)
  where
    by_test : (b : Bool) → p k ≡ b → is_in (filter p ks) q ≡ (is_in ks q && p q) → is_in (cond b (k ∷ filter p ks) (filter p ks)) q ≡ ((nat_eq k q || is_in ks q) && p q)
    by_test true e later = ap (λ b. nat_eq k q || b) later ∙ joined (nat_eq k q) (is_in ks q) (p q) (λ is. ap p (sym (eqb-true k q is)) ∙ e)
    by_test false e later = later ∙ left_out (nat_eq k q) (is_in ks q) (p q) (λ is. ap p (sym (eqb-true k q is)) ∙ e)

pub intersection-listed : (ks js : List ℕ) → set.intersection (listed ks) (listed js) ≡ listed (filter (is_in js) ks)
intersection-listed ks js =
    same_members _ _ (λ q.
    contains-intersection (listed ks) (listed js) q
    ∙ (λ i. contains-listed ks i q && contains-listed js i q)
    ∙ sym (is_in-filter (is_in js) ks q)
    ∙ sym (ap (λ test. test q) (contains-listed (filter (is_in js) ks))))

pub retain-listed : (ks : List ℕ) (p : ℕ → Bool) → set.retain (listed ks) p ≡ listed (filter p ks)
retain-listed ks p =
    same_members _ _ (λ q.
    set.contains-retain (listed ks) p q (λ x tie. ap p (sym (set.nat_cmp-IsAntisymmetric q x tie)))
    ∙ (λ i. contains-listed ks i q && p q)
    ∙ sym (is_in-filter p ks q)
    ∙ sym (ap (λ test. test q) (contains-listed (filter p ks))))

pub union-listed : (ks js : List ℕ) → set.union (listed ks) (listed js) ≡ listed (ks ++ js)
union-listed ks js =
    same_members _ _ (λ q.
    contains-union (listed ks) (listed js) q
    ∙ (λ i. contains-listed ks i q || contains-listed js i q)
    ∙ sym (list_any-append (λ k. nat_eq k q) ks js)
    ∙ sym (ap (λ test. test q) (contains-listed (ks ++ js))))

each_passes : (p : ℕ → Bool) (ks : List ℕ) → ((q : ℕ) → is_in ks q ≡ true → p q ≡ true) → list_all p ks ≡ true
each_passes p [] each = refl
each_passes p (k ∷ ks) each =
    and_from (p k) (list_all p ks) (each k (grind (arith, nat_tests))) (each_passes p ks (λ q there. each q (grind (arith, nat_tests))))

one_passes : (p : ℕ → Bool) (ks : List ℕ) → list_all p ks ≡ true → (q : ℕ) → is_in ks q ≡ true → p q ≡ true
one_passes p [] all q there = cc
one_passes p (k ∷ ks) all q there =
    let both = and_parts (p k) (list_all p ks) all in
    elim (or_cases (nat_eq k q) (is_in ks q) there) [
      | inl is ↦ ap p (sym (eqb-true k q is)) ∙ both.0
      | inr later ↦ one_passes p ks both.1 q later
    ]

pub is_subset-listed : (ks js : List ℕ) → set.is_subset (listed ks) (listed js) ≡ list_all (is_in js) ks
is_subset-listed ks js = by_test (list_all (is_in js) ks) refl
  where
    by_test : (b : Bool) → list_all (is_in js) ks ≡ b → set.is_subset (listed ks) (listed js) ≡ b
    by_test true e = contains-is_subset (listed ks) (listed js) (λ q there. rw (contains-listed js) (one_passes (is_in js) ks e q (rw contains-listed at there)))
    by_test false e = false_from_ne_true _ (λ within.
        let all = each_passes (is_in js) ks (λ q there. sym (ap (λ test. test q) (contains-listed js)) ∙ is_subset-contains (listed ks) (listed js) within q (rw (contains-listed ks) there)) in
        cc)
