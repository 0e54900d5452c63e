-- Classes of twins, as the search knows them: a first CPU and a size each.
use Rattle.std.proofs.Common.{◌≡◌, ℕ, ◌<◌, ◌≤◌, Bool, true, false, cond, Option, Some, None, MatchOption, unwrap_or, List, [], length, map, get_or, slice_get, refl, sym, ap, ◌∙◌, subst, inl, inr, arith}
use Rattle.std.specs.Prelude.{option_and_then, nat_lt}
use Rattle.std.specs.Ordering.{nat_cmp}
use Rattle.std.specs.FinSet as set
use Rattle.std.proofs.lemmas.Bool.{cases_lt, true≢false, lt-ltb, le-ltb}
use Rattle.std.proofs.lemmas.List.{get_or-map, get_or_past, length-map}
use Rattle.std.proofs.lemmas.Option.{slice_get-get_or, slice_get_past}
use Rattle.cpu_set.specs.Ids.{Ids}
use Rattle.cpu_set.specs.Members.{InRange, IsCpu}
use Rattle.cpu_set.specs.Least.{least_that}
use Rattle.cpu_set.specs.LeastLaws.{NonePasses, IsLeastThat, least-passes, least-none}
use Rattle.cpu_set.specs.PointwiseLaws.{contains-empty}
use Rattle.cpu_set.specs.SetLaws.{empty_of_none}
use Rattle.certificate.specs.RowView.{RowView}
use Rattle.certificate.specs.Weight.{weight, weight_in}
use Rattle.twins.specs.IsGrouping.{class_at, IsGrouping}
use Rattle.twins.specs.ClassWeight as twins
use Rattle.transport.specs.Numbers.{number, IsEachOnce}
use Rattle.twins.specs.Kinds.{offers_of}
use Rattle.transport.specs.Weights.{class_weight}
use Rattle.transport.specs.Representatives.{first_of}

-- a set with members has a least one
has_first : (s : Ids) → InRange s → 0 < set.len s → least_that (set.contains s) ≡ Some (first_of s)
has_first s in_range some = by_found (least_that (set.contains s)) refl (least-passes (set.contains s))
  where
    never : NonePasses (set.contains s) → (n : ℕ) → 0 ≤ n → set.contains s n ≡ false
    never none n from = by_test (set.contains s n) refl
      where
        by_test : (b : Bool) → set.contains s n ≡ b → b ≡ false
        by_test true here = absurd (true≢false (sym here ∙ none n (in_range n here)))
        by_test false gone = refl

    by_found : (found : Option ℕ) → least_that (set.contains s) ≡ found → MatchOption found (NonePasses (set.contains s)) (IsLeastThat (set.contains s)) → found ≡ Some (unwrap_or found 0)
    by_found None is none =
        let empty : set.len s ≡ 0 = ap set.len (empty_of_none s (never none)) ∙ set.len-empty nat_cmp in
        absurd (omega arith)
    by_found (Some n) is least = refl

none_first : least_that (set.contains {R = nat_cmp} set.empty) ≡ None
none_first = least-none (set.contains {R = nat_cmp} set.empty) (λ n is_cpu. contains-empty n)

-- the weight of a row for one CPU
weighs_at : (rows : List RowView) (k cpu : ℕ) → weight_in (offers_of rows k) cpu ≡ twins.weight_at rows k cpu
weighs_at rows k cpu = elim (cases_lt k (length rows)) [
  | inl lt ↦ within (slice_get rows k) refl lt
  | inr past ↦ outside past
]
  where
    outside : length rows ≤ k → weight_in (offers_of rows k) cpu ≡ twins.weight_at rows k cpu
    outside past =
        let none : offers_of rows k ≡ [] = get_or_past (map (λ (r : RowView). r.offers) rows) k [] (omega (arith, length-map rows (λ (r : RowView). r.offers), past)) in
        ap (λ os. weight_in os cpu) none ∙ sym (ap (option_and_then (λ (r : RowView). weight r cpu)) (slice_get_past rows k past))

    within : (found : Option RowView) → slice_get rows k ≡ found → k < length rows → weight_in (offers_of rows k) cpu ≡ twins.weight_at rows k cpu
    within found is lt = by_row found is
      where
        blank : RowView
        blank = record { id = []; demand = 0; offers = [] }

        by_row : (found : Option RowView) → slice_get rows k ≡ found → weight_in (offers_of rows k) cpu ≡ twins.weight_at rows k cpu
        by_row found is =
            let here : slice_get rows k ≡ Some (get_or rows k blank) = slice_get-get_or rows k blank lt in
            ap (λ os. weight_in os cpu) (get_or-map (λ (r : RowView). r.offers) rows k blank [] lt)
            ∙ sym (ap (option_and_then (λ (r : RowView). weight r cpu)) here)

module _ (rows : List RowView) (classes : List Ids) (grouping : IsGrouping rows classes) where
  -- the weight of a class by its first CPU is that by its least
  pub weighs_as_class : (k g : ℕ) → class_weight rows (map first_of classes) k g ≡ twins.class_weight rows classes k g
  weighs_as_class k g = elim (cases_lt g (length classes)) [
    | inl lt ↦ inside lt
    | inr past ↦ outside past
  ]
    where
      inside : g < length classes → class_weight rows (map first_of classes) k g ≡ twins.class_weight rows classes k g
      inside lt =
          let long : length (map first_of classes) ≡ length classes = length-map classes first_of in
          let passes : nat_lt g (length (map first_of classes)) ≡ true = lt-ltb g (length (map first_of classes)) (omega (arith, long, lt)) in
          let first : number (map first_of classes) g ≡ first_of (class_at classes g) = get_or-map first_of classes g set.empty 0 lt in
          let least : least_that (set.contains (class_at classes g)) ≡ Some (first_of (class_at classes g)) =
          has_first (class_at classes g) (grouping.in_range g set.empty lt) (grouping.not_empty g set.empty lt) in
          ap (λ b. cond b (weight_in (offers_of rows k) (number (map first_of classes) g)) None) passes
          ∙ ap (weight_in (offers_of rows k)) first
          ∙ weighs_at rows k (first_of (class_at classes g))
          ∙ sym (ap (option_and_then (twins.weight_at rows k)) least)

      outside : length classes ≤ g → class_weight rows (map first_of classes) k g ≡ twins.class_weight rows classes k g
      outside past =
          let long : length (map first_of classes) ≡ length classes = length-map classes first_of in
          let fails : nat_lt g (length (map first_of classes)) ≡ false = le-ltb g (length (map first_of classes)) (omega (arith, long, past)) in
          let empty : class_at classes g ≡ set.empty = get_or_past classes g set.empty past in
          ap (λ b. cond b (weight_in (offers_of rows k) (number (map first_of classes) g)) None) fails
          ∙ sym (ap (λ s. option_and_then (twins.weight_at rows k) (least_that (set.contains s))) empty ∙ ap (option_and_then (twins.weight_at rows k)) none_first)

  -- the size of a class
  pub size_of_class : (g : ℕ) → g < length classes → number (map (λ s. set.len s) classes) g ≡ set.len (class_at classes g)
  size_of_class g lt = get_or-map (λ (s : Ids). set.len s) classes g set.empty 0 lt

  pub no_size_past : (g : ℕ) → length classes ≤ g → set.len (class_at classes g) ≡ 0
  no_size_past g past = ap set.len (get_or_past classes g set.empty past) ∙ set.len-empty nat_cmp

  -- each class has its first CPU, and no other class has it
  first_held : (g : ℕ) → g < length classes → (set.contains (class_at classes g) (number (map first_of classes) g) ≡ true) × IsCpu (number (map first_of classes) g)
  first_held g lt =
      let least : least_that (set.contains (class_at classes g)) ≡ Some (first_of (class_at classes g)) =
      has_first (class_at classes g) (grouping.in_range g set.empty lt) (grouping.not_empty g set.empty lt) in
      let first : number (map first_of classes) g ≡ first_of (class_at classes g) = get_or-map first_of classes g set.empty 0 lt in
      let passes = subst (λ found. MatchOption found (NonePasses (set.contains (class_at classes g))) (IsLeastThat (set.contains (class_at classes g)))) least (least-passes (set.contains (class_at classes g))) in
      (rw first passes.passes, rw first passes.is_cpu)

  pub first_is_cpu : (g : ℕ) → IsCpu (number (map first_of classes) g)
  first_is_cpu g = elim (cases_lt g (length classes)) [
    | inl lt ↦ (first_held g lt).1
    | inr past ↦ (let e : number (map first_of classes) g ≡ 0 = get_or_past (map first_of classes) g 0 (omega (arith, length-map classes first_of, past)) in omega (arith, e))
  ]

  pub firsts_once : IsEachOnce (map first_of classes)
  firsts_once i j i_in j_in same = elim (cases_lt i j) [
    | inl before ↦ absurd (meet i j before (omega (arith, j_in, length-map classes first_of)) same)
    | inr le ↦ elim (cases_lt j i) [
      | inl after ↦ absurd (meet j i after (omega (arith, i_in, length-map classes first_of)) (sym same))
      | inr ge ↦ omega (arith, le, ge)
    ]
  ]
    where
      meet : (a b : ℕ) → a < b → b < length classes → number (map first_of classes) a ≡ number (map first_of classes) b → ⊥
      meet a b lt b_in e =
          let in_a : set.contains (class_at classes a) (number (map first_of classes) b) ≡ true = subst (λ c. set.contains (class_at classes a) c ≡ true) e (first_held a (omega (arith, lt, b_in))).0 in
          grouping.apart a b set.empty lt b_in (number (map first_of classes) b) in_a (first_held b b_in).0
