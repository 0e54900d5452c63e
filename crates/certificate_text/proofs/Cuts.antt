-- The first part of a text that is cut at each of one byte.
use Rattle.std.proofs.Common.{◌≡◌, ℕ, ◌+◌, ◌<◌, Bool, List, [], ◌∷◌, length, take, drop, get_or, ap, ◌∙◌, arith}
use Rattle.std.proofs.lemmas.Bool.{false_from_ne_true}
use Rattle.std.proofs.lemmas.List.Splits.{slice_split_first, slice_split_none, length-slice_split}
use Rattle.std.proofs.lemmas.List.{get_or_default}
use Rattle.std.proofs.lemmas.List.Sums.{position_or_len_is}
use Rattle.std.specs.List.{slice_split, position_or_len}
use Rattle.memchr.specs.Find.{Nowhere, NoneBefore, Passes}

-- where no byte passes, the one part is the text
pub one_part : (p : ℕ → Bool) (xs : List ℕ) → Nowhere (Passes p xs) 0 (length xs) → slice_split p xs ≡ xs ∷ []
one_part p xs none =
    slice_split_none p xs (λ k d h. false_from_ne_true (p (get_or xs k d)) (λ e. none k (omega arith) h (ap p (get_or_default xs k 0 d h) ∙ e)))

-- the part before the first byte that passes
pub first_part : (p : ℕ → Bool) (xs : List ℕ) (i : ℕ) → NoneBefore (Passes p xs) 0 (length xs) i → Passes p xs i
    → (i < length xs) × (slice_split p xs ≡ take i xs ∷ slice_split p (drop (i + 1) xs))
first_part p xs i n at =
    let lt : i < length xs = n.high in
    let place : position_or_len p xs ≡ i =
    position_or_len_is p xs i 0 (omega arith) (λ k h. false_from_ne_true (p (get_or xs k 0)) (λ e. n.before k (omega arith) h e)) (λ h. at) in
    let within : position_or_len p xs < length xs = omega (arith, place, lt) in
    rw (← place) (within, slice_split_first p xs 0 within)

-- there is always a part
pub never_empty : (p : ℕ → Bool) (xs : List ℕ) → slice_split p xs ≡ [] → ⊥
never_empty p xs e = omega (arith, length-slice_split p xs, ap length e)
