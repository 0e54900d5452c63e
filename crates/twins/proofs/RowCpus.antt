-- The CPUs for which each row has a weight, gathered row by row.
use Rattle.std.proofs.Common.{◌≡◌, ℕ, zero, suc, ◌+◌, ◌-◌, ◌<◌, ◌≤◌, cond, List, [], ◌∷◌, ◌++◌, get_or, refl, sym, ap, subst, ◌∙◌, inl, inr, arith}
use Rattle.std.proofs.lemmas.Bool.{cases_lt, eq-eqb, ne_eqb}
use Rattle.std.proofs.lemmas.List.{get_or_push, get_or_append_left, length_push}
use Rattle.std.specs.FinSet as set
use Rattle.cpu_set.specs.Ids.{Ids}
use Rattle.certificate.specs.RowView.{RowView}
use Rattle.twins.specs.Kinds.{kind_at}
use Rattle.twins.specs.RowCpus.{firsts_before, AreCpusOf, AreRowCpus}

-- one more where the row is the first of its kind
pub first_more : (kinds : List ℕ) (k : ℕ) → kind_at kinds k ≡ k → firsts_before kinds (k + 1) ≡ firsts_before kinds k + 1
first_more kinds k own = subst (λ n. firsts_before kinds n ≡ firsts_before kinds k + 1) next (ap (λ b. firsts_before kinds k + cond b 1 0) (eq-eqb (kind_at kinds k) k own))
  where
    next : suc k ≡ k + 1
    next = omega arith

pub first_same : (kinds : List ℕ) (k : ℕ) → kind_at kinds k < k → firsts_before kinds (k + 1) ≡ firsts_before kinds k
first_same kinds k earlier = subst (λ n. firsts_before kinds n ≡ firsts_before kinds k) next (ap (λ b. firsts_before kinds k + cond b 1 0) (ne_eqb (kind_at kinds k) k (λ e. omega (arith, e, earlier))) ∙ none)
  where
    next : suc k ≡ k + 1
    next = omega arith

    none : firsts_before kinds k + 0 ≡ firsts_before kinds k
    none = omega arith

firsts_rise : (kinds : List ℕ) (k n : ℕ) → firsts_before kinds k ≤ firsts_before kinds (k + n)
firsts_rise kinds k zero =
    let same : k ≡ k + 0 = omega arith in
    subst (λ m. firsts_before kinds k ≤ firsts_before kinds m) same (omega arith)
firsts_rise kinds k (suc n) =
    let next : suc (k + n) ≡ k + suc n = omega arith in
    subst (λ m. firsts_before kinds k ≤ firsts_before kinds m) next (omega (arith, firsts_rise kinds k n))

-- the set of a row is one of those of the first rows
pub first_in : (kinds : List ℕ) (k upto : ℕ) → k < upto → kind_at kinds k ≡ k → firsts_before kinds k < firsts_before kinds upto
first_in kinds k upto lt own =
    let far : k + 1 + (upto - (k + 1)) ≡ upto = omega (arith, lt) in
    let rise : firsts_before kinds (k + 1) ≤ firsts_before kinds upto = subst (λ m. firsts_before kinds (k + 1) ≤ firsts_before kinds m) far (firsts_rise kinds (k + 1) (upto - (k + 1))) in
    omega (arith, first_more kinds k own, rise)

pub row_cpus_none : (rows : List RowView) (kinds : List ℕ) → AreRowCpus rows kinds 0 []
row_cpus_none rows kinds = record { long = refl; each = λ k lt. absurd (omega arith) }

-- the set of one row more, which is the first of its kind
pub row_cpus_more :
    (rows : List RowView) (kinds : List ℕ) (k : ℕ) (sets : List Ids) (cpus : Ids)
    → AreRowCpus rows kinds k sets → kind_at kinds k ≡ k → AreCpusOf rows k cpus → AreRowCpus rows kinds (k + 1) (sets ++ cpus ∷ [])
row_cpus_more rows kinds k sets cpus h own_kind next = record {
  long = omega (arith, length_push sets cpus, h.long, first_more kinds k own_kind);
  each = λ i lt own. elim (cases_lt i k) [
    | inl before ↦ subst (AreCpusOf rows i) (sym (get_or_append_left sets (cpus ∷ []) set.empty (firsts_before kinds i) (omega (arith, first_in kinds i k before own, h.long)))) (h.each i before own)
    | inr after ↦ last i (omega (arith, lt, after))
  ];
}
  where
    last : (i : ℕ) → i ≡ k → AreCpusOf rows i (get_or (sets ++ cpus ∷ []) (firsts_before kinds i) set.empty)
    last i e =
        subst (AreCpusOf rows i) (sym (get_or_push sets cpus set.empty (firsts_before kinds i) (h.long ∙ ap (λ j. firsts_before kinds j) (sym e))))
        (subst (λ j. AreCpusOf rows j cpus) (sym e) next)

-- a row of the kind of an earlier one has none
pub row_cpus_same : (rows : List RowView) (kinds : List ℕ) (k : ℕ) (sets : List Ids) → AreRowCpus rows kinds k sets → kind_at kinds k < k → AreRowCpus rows kinds (k + 1) sets
row_cpus_same rows kinds k sets h earlier = record {
  long = h.long ∙ sym (first_same kinds k earlier);
  each = λ i lt own. elim (cases_lt i k) [
    | inl before ↦ h.each i before own
    | inr after ↦ absurd (not_own i (omega (arith, lt, after)) own)
  ];
}
  where
    not_own : (i : ℕ) → i ≡ k → kind_at kinds i ≡ i → ⊥
    not_own i e own = omega (arith, earlier, e, subst (λ j. kind_at kinds j ≡ j) e own)
