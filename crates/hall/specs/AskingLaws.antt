-- What the row at a place asks for and may have, and what rows of some numbers do together.
use Rattle.std.proofs.Common.{◌≡◌, ℕ, ◌+◌, ◌<◌, ◌||◌, Bool, true, false, Option, Some, None, List, ◌∷◌, length, get_or, slice_get, is_some, refl, ap, arith, IsSome}
use Rattle.std.specs.Prelude.{option_and_then}
use Rattle.std.specs.List.{cons_option}
use Rattle.std.proofs.lemmas.Bool.{both_ways}
use Rattle.std.proofs.lemmas.List.Sums.{sum_by-cons}
use Rattle.std.proofs.lemmas.Option.{slice_get-get_or}
use Rattle.certificate.specs.RowView.{RowView}
use Rattle.certificate.specs.Weight.{weight}
use Rattle.certificate.specs.IsShortage.{chosen, asked, is_offered}
use Rattle.hall.specs.Asking.{demand_of, demand_at, may_have}

pub some_weight : (o : Option ℕ) → is_some o ≡ true → IsSome o
some_weight (Some w) on = grind arith
some_weight None on = absurd (both_ways false refl on)

pub weight_some : (o : Option ℕ) → IsSome o → is_some o ≡ true
weight_some (Some w) on = refl
weight_some None on = absurd (grind arith)

pub demand_here : (rows : List RowView) (k : ℕ) (d : RowView) → k < length rows → demand_at rows k ≡ (get_or rows k d).demand
demand_here rows k d lt = ap demand_of (slice_get-get_or rows k d lt)

-- whether a row may have a CPU, if there is one
abbrev pub may : ℕ → Option RowView → Bool
may c found = is_some (option_and_then (λ (row : RowView). weight row c) found)

pub may_here : (rows : List RowView) (k c : ℕ) (d : RowView) → k < length rows → may_have rows k c ≡ is_some (weight (get_or rows k d) c)
may_here rows k c d lt = ap (may c) (slice_get-get_or rows k d lt)

-- one row more
pub asked_one : (rows : List RowView) (k : ℕ) (ks : List ℕ) → asked (chosen rows (k ∷ ks)) ≡ demand_at rows k + asked (chosen rows ks)
asked_one rows k ks = by_row (slice_get rows k)
  where
    by_row : (found : Option RowView) → asked (cons_option found (chosen rows ks)) ≡ demand_of found + asked (chosen rows ks)
    by_row None = omega arith
    by_row (Some row) = sum_by-cons (λ (r : RowView). r.demand) row (chosen rows ks)

pub offered_one :
    (rows : List RowView) (k : ℕ) (ks : List ℕ) (c : ℕ) → is_offered (chosen rows (k ∷ ks)) c ≡ (may_have rows k c || is_offered (chosen rows ks) c)
offered_one rows k ks c = by_row (slice_get rows k)
  where
    by_row : (found : Option RowView) → is_offered (cons_option found (chosen rows ks)) c ≡ (may c found || is_offered (chosen rows ks) c)
    by_row None = refl
    by_row (Some row) = refl
