-- The offers of a scaled row rise, and are scaled.
use Rattle.std.proofs.Common.{◌≡◌, ℕ, zero, suc, ◌+◌, ◌<◌, ◌≤◌, Bool, true, false, cond, nat_le, List, [], ◌∷◌, ◌++◌, filter, length, get_or, refl, sym, ap, ◌∙◌, arith, subst}
use Rattle.std.specs.List.{flat_map, list_all}
use Rattle.std.proofs.lemmas.List.Concat.{flat_map-cons}
use Rattle.cpu_set.specs.Ids.{Ids}
use Rattle.certificate.specs.declared.Offer.{Offer}
use Rattle.certificate.specs.Packed.{packed}
use Rattle.certificate.specs.PackedLemmas.{moves_of-packed}
use Rattle.certificate.specs.RisingOffers.{AreRising}
use Rattle.certificate.specs.Scaled.{is_scaled}
use Rattle.rows.specs.Offers.{has_some}
use Rattle.rows.specs.Scaled.{held_part, moved, parted, PartsRise, PartsAreScaled}
use Rattle.rows.specs.PartLimitLemmas.{all_of_two}

-- each weight is above the one before it, the first not below this number
abbrev Rise : ℕ → List Offer → Type 0
Rise n [] = Unit {0}
Rise n (o ∷ offers) = (n ≤ o.weight) × Rise (o.weight + 1) offers

rise_from : (n : ℕ) (offers : List Offer) → AreRising offers → ((d : Offer) → 0 < length offers → n ≤ (get_or offers 0 d).weight) → Rise n offers
rise_from n [] rising first = tt
rise_from n (o ∷ offers) rising first = (
  first o (omega arith),
  rise_from (o.weight + 1) offers (λ i j d lt within. rising (suc i) (suc j) d (omega arith) (omega arith)) (λ d some.
      let next : o.weight < (get_or offers 0 d).weight = rising 0 1 d (omega arith) (omega arith) in omega (arith, next)),
)

above : (n : ℕ) (offers : List Offer) → Rise n offers → (j : ℕ) (d : Offer) → j < length offers → n ≤ (get_or offers j d).weight
above n [] rise j d lt = absurd (omega arith)
above n (o ∷ offers) rise zero d lt = rise.0
above n (o ∷ offers) rise (suc j) d lt = omega (arith, rise.0, above (o.weight + 1) offers rise.1 j d (omega arith))

rise_to : (n : ℕ) (offers : List Offer) → Rise n offers → AreRising offers
rise_to n [] rise i j d lt within = absurd (omega arith)
rise_to n (o ∷ offers) rise i zero d lt within = absurd (omega arith)
rise_to n (o ∷ offers) rise zero (suc j) d lt within = omega (arith, above (o.weight + 1) offers rise.1 j d (omega arith))
rise_to n (o ∷ offers) rise (suc i) (suc j) d lt within = rise_to (o.weight + 1) offers rise.1 i j d (omega arith) (omega arith)

rise_less : (m n : ℕ) (offers : List Offer) → m ≤ n → Rise n offers → Rise m offers
rise_less m n [] le rise = tt
rise_less m n (o ∷ offers) le rise = (omega (arith, rise.0), rise.1)

rise_of_two : (m : ℕ) (x y : Offer) (rest : List Offer) → m ≤ x.weight → x.weight < y.weight → Rise (y.weight + 1) rest → Rise m (filter has_some (x ∷ y ∷ []) ++ rest)
rise_of_two m x y rest first second rise = by_cases (has_some x) (has_some y)
  where
    by_cases : (a b : Bool) → Rise m (cond a (x ∷ cond b (y ∷ []) []) (cond b (y ∷ []) []) ++ rest)
    by_cases true true = (first, (omega (arith, second), rise))
    by_cases true false = (first, rise_less (x.weight + 1) (y.weight + 1) rest (omega (arith, second)) rise)
    by_cases false true = (omega (arith, first, second), rise)
    by_cases false false = rise_less m (y.weight + 1) rest (omega (arith, first, second)) rise

module _ (held : Ids) where
  parts_rise_from : (m n : ℕ) (offers : List Offer) → m ≤ packed n 0 → Rise n offers → Rise m (flat_map (parted held) offers)
  parts_rise_from m n [] le rise = tt
  parts_rise_from m n (o ∷ offers) le rise =
      subst (Rise m) (sym (flat_map-cons (parted held) o offers))
      (rise_of_two m (held_part held o) (moved held o) (flat_map (parted held) offers) (omega (arith, le, rise.0)) (omega arith)
      (parts_rise_from (packed o.weight 1 + 1) (o.weight + 1) offers (omega arith) rise.1))

  parts_are_scaled_by : (offers : List Offer) → list_all is_scaled (flat_map (parted held) offers) ≡ true
  parts_are_scaled_by [] = refl
  parts_are_scaled_by (o ∷ offers) =
      ap (list_all is_scaled) (flat_map-cons (parted held) o offers)
      ∙ all_of_two is_scaled (held_part held o) (moved held o) (flat_map (parted held) offers)
      (ap (λ n. nat_le n 1) (moves_of-packed o.weight 0 (omega arith)))
      (ap (λ n. nat_le n 1) (moves_of-packed o.weight 1 (omega arith)))
      (parts_are_scaled_by offers)

pub parts_rise : PartsRise
parts_rise held offers rising = rise_to 0 _ (parts_rise_from held 0 0 offers (omega arith) (rise_from 0 offers rising (λ d some. omega arith)))

pub parts_are_scaled : PartsAreScaled
parts_are_scaled held offers = parts_are_scaled_by held offers
