-- Rows that may have only some classes may have only their CPUs.
use Rattle.std.proofs.Common.{◌≡◌, ℕ, suc, ◌+◌, ◌<◌, ◌≤◌, Bool, true, false, cond, ◌||◌, Option, Some, None, is_some, List, [], ◌∷◌, length, get_or, slice_get, sum_by, refl, sym, ap, ◌∙◌, arith}
use Rattle.std.specs.Prelude.{Contains, filter, option_and_then}
use Rattle.std.specs.List.{range_with_len, cons_option}
use Rattle.std.specs.FinSet as set
use Rattle.std.proofs.lemmas.Bool.{false≢true}
use Rattle.std.proofs.lemmas.Option.{get_or_from_slice_get}
use Rattle.std.proofs.lemmas.List.Elements.{All-contains}
use Rattle.std.proofs.lemmas.List.FromFn.{get_or-range_with_len, length-range_with_len}
use Rattle.std.proofs.lemmas.List.Sums.{length-filter, get_or-le-sum_by}
use Rattle.std.proofs.lemmas.List.Folds.{list_any_at}
use Rattle.cpu_set.specs.Ids.{Ids}
use Rattle.cpu_set.specs.Members.{InRange, cpus}
use Rattle.certificate.specs.RowView.{RowView}
use Rattle.certificate.specs.Weight.{weight}
use Rattle.certificate.specs.IsShortage.{chosen, is_offered, IsShortage}
use Rattle.certificate.specs.SumLaws.{sum_by_none, sum_by_same}
use Rattle.certificate.specs.CpuLaws.{sum_by-cpus-le}
use Rattle.twins.specs.IsGrouping.{class_at, IsGrouping}
use Rattle.twins.specs.ClassWeight.{weight_at}
use Rattle.twins.specs.IsClosed.{taken_size, IsClosed, ClosedRowsAreShort}
use Rattle.twins.proofs.Sets.{len_sum, there}
use Rattle.twins.proofs.TwinLaws.{members_weigh, held_at}
use Rattle.twins.proofs.ByClass.{sum_by_swap}

-- a row of some that has a weight for the CPU
record Offers (rows : List RowView) (members : List ℕ) (c : ℕ) : Type 0 where
  pub k : ℕ
  pub member : Contains members k
  pub w : ℕ
  pub its : weight_at rows k c ≡ Some w

earlier : {rows : List RowView} {members : List ℕ} {c : ℕ} (m : ℕ) → Offers rows members c → Offers rows (m ∷ members) c
earlier m o = record { k = o.k; member = (suc o.member.0, omega (arith, o.member.1), o.member.2); w = o.w; its = o.its }

-- a CPU that one of the chosen rows may have
offers : (rows : List RowView) (members : List ℕ) (c : ℕ) → is_offered (chosen rows members) c ≡ true → Offers rows members c
offers rows [] c offered = absurd (false≢true offered)
offers rows (m ∷ members) c offered = by_row (slice_get rows m) refl offered (offers rows members c)
  where
    here : (row : RowView) → slice_get rows m ≡ Some row → (found : Option ℕ) → weight row c ≡ found → is_some found ≡ true → Offers rows (m ∷ members) c
    here row is None none some = absurd (false≢true some)
    here row is (Some w) weighs some = record { k = m; member = (0, omega arith, refl); w = w; its = ap (λ r. row_weight r) is ∙ weighs }
      where
        row_weight : Option RowView → Option ℕ
        row_weight None = None
        row_weight (Some r) = weight r c

    by_weight : (row : RowView) → slice_get rows m ≡ Some row → (b : Bool) → is_some (weight row c) ≡ b → (b || is_offered (chosen rows members) c) ≡ true
        → (is_offered (chosen rows members) c ≡ true → Offers rows members c) → Offers rows (m ∷ members) c
    by_weight row is true some offered rest = here row is (weight row c) refl some
    by_weight row is false none offered rest = earlier m (rest offered)

    by_row : (found : Option RowView) → slice_get rows m ≡ found → is_offered (cons_option found (chosen rows members)) c ≡ true
        → (is_offered (chosen rows members) c ≡ true → Offers rows members c) → Offers rows (m ∷ members) c
    by_row None is offered rest = earlier m (rest offered)
    by_row (Some row) is offered rest = by_weight row is (is_some (weight row c)) refl offered rest

-- one of a CPU, where its class is taken
abbrev one_if : List Ids → (ℕ → Bool) → ℕ → ℕ → ℕ
one_if classes taken c g = cond (taken g) (cond (set.contains (class_at classes g) c) 1 0) 0

module _ (rows : List RowView) (classes : List Ids) (members : List ℕ) (taken : ℕ → Bool) (grouping : IsGrouping rows classes) (closed : IsClosed rows classes members taken) where
  counted_once : (c : ℕ) (b : Bool) → is_offered (chosen rows members) c ≡ b → cond {A = ℕ} b 1 0 ≤ sum_by (one_if classes taken c) (range_with_len 0 (length classes))
  counted_once c false none = omega arith
  counted_once c true offered =
      let o = offers rows members c offered in
      let class = held_at classes c (grouping.whole c ∙ offered_by o) in
      let lt : class.0 < length classes = there classes class.0 c class.1 in
      let passes : taken class.0 ≡ true = closed.only o.k class.0 o.w o.member (members_weigh rows classes grouping o.k class.0 c class.1 ∙ o.its) in
      let place : get_or (range_with_len 0 (length classes)) class.0 0 ≡ class.0 = get_or-range_with_len 0 (length classes) class.0 0 lt ∙ plus class.0 in
      let term : one_if classes taken c class.0 ≡ 1 =
      ap (λ b. cond {A = ℕ} b (cond {A = ℕ} (set.contains (class_at classes class.0) c) 1 0) 0) passes ∙ ap (λ b. cond {A = ℕ} b 1 0) class.1 in
      let least : one_if classes taken c (get_or (range_with_len 0 (length classes)) class.0 0) ≤ sum_by (one_if classes taken c) (range_with_len 0 (length classes)) =
      get_or-le-sum_by (one_if classes taken c) (range_with_len 0 (length classes)) class.0 0 (rw (length-range_with_len 0 (length classes)) lt) in
      omega (arith, least, ap (one_if classes taken c) place, term)
    where
      plus : (k : ℕ) → 0 + k ≡ k
      plus k = omega arith

      offered_by : Offers rows members c → is_offered rows c ≡ true
      offered_by o = by_row (slice_get rows o.k) refl o.its
        where
          by_row : (found : Option RowView) → slice_get rows o.k ≡ found → option_and_then (λ (r : RowView). weight r c) found ≡ Some o.w → is_offered rows c ≡ true
          by_row None is e = absurd (none_some e)
            where
              none_some : {w : ℕ} → None ≡ Some w → ⊥
              none_some e = cc
          by_row (Some row) is e =
              list_any_at (λ (r : RowView). is_some (weight r c)) rows o.k row (All-contains (λ k. k < length rows) members o.k closed.there o.member)
              (ap (λ (r : RowView). is_some (weight r c)) (get_or_from_slice_get rows o.k row row is) ∙ ap is_some e)

  class_in_range : (g : ℕ) → InRange (class_at classes g)
  class_in_range g n member = grouping.in_range g set.empty (there classes g n member) n member

  each_class : (g : ℕ) (b : Bool) → sum_by (λ c. cond {A = ℕ} b (cond {A = ℕ} (set.contains (class_at classes g) c) 1 0) 0) cpus ≡ cond {A = ℕ} b (set.len (class_at classes g)) 0
  each_class g true = sym (len_sum (class_at classes g) (class_in_range g))
  each_class g false = sum_by_none _ cpus (λ c. refl)

  pub rows_are_short : IsShortage rows members
  rows_are_short =
      let counted : length (filter (is_offered (chosen rows members)) cpus) ≡ sum_by (λ c. cond (is_offered (chosen rows members) c) 1 0) cpus = length-filter (is_offered (chosen rows members)) cpus in
      let few : sum_by (λ c. cond (is_offered (chosen rows members) c) 1 0) cpus ≤ sum_by (λ c. sum_by (one_if classes taken c) (range_with_len 0 (length classes))) cpus =
      sum_by-cpus-le _ _ (λ c is_cpu. counted_once c (is_offered (chosen rows members) c) refl) in
      let by_class : sum_by (λ c. sum_by (one_if classes taken c) (range_with_len 0 (length classes))) cpus ≡ taken_size classes taken =
      sum_by_swap (one_if classes taken) cpus (range_with_len 0 (length classes))
      ∙ sum_by_same _ _ (range_with_len 0 (length classes)) (λ g. each_class g (taken g)) in
      record { rising = closed.rising; there = closed.there; short = omega (arith, counted, few, by_class, closed.short) }

pub closed_rows_are_short : ClosedRowsAreShort
closed_rows_are_short rows classes members taken grouping closed = rows_are_short rows classes members taken grouping closed
