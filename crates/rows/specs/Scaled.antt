-- The row of a container that holds some of its CPUs, cores by their lowest, already: its weights count moves besides the distance.
use Rattle.certificate.specs.Limits.{row_fits}
use Rattle.std.specs.Prelude.{◌≡◌, ℕ, Bool, true, nat_le, cond, List, [], ◌∷◌, filter, option_map}
use Rattle.std.specs.List.{flat_map, list_all}
use Rattle.std.specs.FinSet as set
use Rattle.cpu_set.specs.Ids.{Ids}
use Rattle.certificate.specs.RowView.{RowView}
use Rattle.certificate.specs.RisingOffers.{AreRising}
use Rattle.certificate.specs.Scaled.{is_scaled, with_weights}
use Rattle.certificate.specs.Weight.{weight}
use Rattle.certificate.specs.declared.Offer.{Offer}
use Rattle.certificate.specs.Packed.{packed, distance_of, moves_of}
use Rattle.rows.specs.Offers.{has_some}

-- no weight is above the greatest distance at which a node can be reached
abbrev pub are_distances : List Offer → Bool
are_distances offers = list_all (λ o. nat_le o.weight 254) offers

-- the offer's CPUs that are held
abbrev pub held_part : Ids → Offer → Offer
held_part held o = record { weight = packed o.weight 0; cpus = set.intersection o.cpus held }

-- those that are not: each is a move
abbrev pub moved : Ids → Offer → Offer
moved held o = record { weight = packed o.weight 1; cpus = set.difference o.cpus held }

-- an offer in two parts: the CPUs that are held, and those that are not, which are a move each. A part without a CPU is left
-- out.
abbrev pub parted : Ids → Offer → List Offer
parted held o = filter has_some (held_part held o ∷ moved held o ∷ [])

-- the row with each offer parted
abbrev pub scaled : Ids → RowView → RowView
scaled held row = record { id = row.id; demand = row.demand; offers = flat_map (parted held) row.offers }

-- in a scaled row a CPU weighs its distance, as in the row, and a move if it is not held
abbrev pub ScaledRowsWeigh : Type 0
ScaledRowsWeigh =
    (held : Ids) (row : RowView) (cpu : ℕ)
    → weight (scaled held row) cpu ≡ option_map (λ w. packed w (cond (set.contains held cpu) 0 1)) (weight row cpu)

-- by distance a CPU weighs what it weighs in the row
abbrev pub DistancesStay : Type 0
DistancesStay = (held : Ids) (row : RowView) (cpu : ℕ) → weight (with_weights distance_of (scaled held row)) cpu ≡ weight row cpu

-- by moves a CPU weighs 1 if it is not held, and else 0
abbrev pub MovesAreUnheld : Type 0
MovesAreUnheld =
    (held : Ids) (row : RowView) (cpu : ℕ)
    → weight (with_weights moves_of (scaled held row)) cpu ≡ option_map (λ _. cond (set.contains held cpu) 0 1) (weight row cpu)

-- a scaled row of distances is within the limits if the row is
abbrev pub ScaledRowsFit : Type 0
ScaledRowsFit =
    (held : Ids) (row : RowView) → are_distances row.offers ≡ true → row_fits row ≡ true
    → row_fits (scaled held row) ≡ true

-- offers that rise do so when they are parted
abbrev pub PartsRise : Type 0
PartsRise = (held : Ids) (offers : List Offer) → AreRising offers → AreRising (flat_map (parted held) offers)

-- parted offers are scaled: no CPU of them is more than one move
abbrev pub PartsAreScaled : Type 0
PartsAreScaled = (held : Ids) (offers : List Offer) → list_all is_scaled (flat_map (parted held) offers) ≡ true
