-- The members but for one.
use Rattle.std.proofs.Common.{◌≡◌, ℕ, zero, suc, Bool, true, false, cond, not, List, [], ◌∷◌, filter, refl, sym, ap, ◌∙◌, subst, arith}
use Rattle.std.specs.Prelude.{◌==◌, All, Contains}
use Rattle.std.specs.List.Sorted.{IsStrictlyIncreasing}
use Rattle.std.proofs.lemmas.Bool.{both_ways, eq-eqb, ne_eqb, not-true}
use Rattle.std.proofs.lemmas.List.Elements.{All-contains, All-contains_itself, All-filter, filter_passes}
use Rattle.std.proofs.lemmas.List.Kept.{IsStrictlyIncreasing-filter}
use Rattle.hall.specs.Needed.{others}

-- what passes is kept
pub contains_kept : (test : ℕ → Bool) (ks : List ℕ) (k : ℕ) → Contains ks k → test k ≡ true → Contains (filter test ks) k
contains_kept test [] k found on = absurd (omega (arith, found.1))
contains_kept test (j ∷ ks) k found on = by_test (test j) refl (λ later. contains_kept test ks k later on)
  where
    at :
        (b : Bool) → test j ≡ b → (Contains ks k → Contains (filter test ks) k) → Contains (j ∷ ks) k
        → Contains (cond b (j ∷ filter test ks) (filter test ks)) k
    at true e rest (zero, lt, is) = (0, omega arith, is)
    at true e rest (suc i, lt, is) = (let more = rest (i, omega (arith, lt), is) in (suc more.0, omega (arith, more.1), more.2))
    at false e rest (zero, lt, is) = absurd (both_ways (test j) e (ap test is ∙ on))
    at false e rest (suc i, lt, is) = rest (i, omega (arith, lt), is)

    by_test : (b : Bool) → test j ≡ b → (Contains ks k → Contains (filter test ks) k) → Contains (filter test (j ∷ ks)) k
    by_test b e rest = subst (λ t. Contains (cond t (j ∷ filter test ks) (filter test ks)) k) (sym e) (at b e rest found)

-- what is kept was there
pub kept_contains : (test : ℕ → Bool) (ks : List ℕ) (k : ℕ) → Contains (filter test ks) k → Contains ks k
kept_contains test ks k found =
    All-contains (Contains ks) (filter test ks) k (All-filter test (Contains ks) ks (All-contains_itself ks)) found

pub others_rise : (members : List ℕ) (m : ℕ) → IsStrictlyIncreasing members → IsStrictlyIncreasing (others members m)
others_rise members m rising = IsStrictlyIncreasing-filter (λ k. not (k == m)) members rising

pub others_all : (P : ℕ → Type 0) (members : List ℕ) (m : ℕ) → All P members → All P (others members m)
others_all P members m all = All-filter (λ k. not (k == m)) P members all

pub in_others : (members : List ℕ) (m k : ℕ) → Contains members k → (k ≡ m → ⊥) → Contains (others members m) k
in_others members m k here ne = contains_kept (λ j. not (j == m)) members k here (ap not (ne_eqb k m ne))

pub of_others : (members : List ℕ) (m k : ℕ) → Contains (others members m) k → Contains members k
of_others members m k here = kept_contains (λ j. not (j == m)) members k here

pub not_in_others : (members : List ℕ) (m : ℕ) → Contains (others members m) m → ⊥
not_in_others members m here =
    let other : not (m == m) ≡ true = All-contains (λ k. not (k == m) ≡ true) (others members m) m (filter_passes (λ k. not (k == m)) members) here in
    both_ways (m == m) (not-true (m == m) other) (eq-eqb m m refl)
