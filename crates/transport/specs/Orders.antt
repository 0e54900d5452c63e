-- A row's offers by rising weight.
use Rattle.std.specs.Prelude.{◌≡◌, ℕ, ◌<◌, ◌≤◌, Some, List, All, Contains, map, length, slice_get, slice_index_or}
use Rattle.std.specs.List.{range_with_len}
use Rattle.std.specs.FinSet as set
use Rattle.certificate.specs.declared.rows.Offer.{Offer}
use Rattle.transport.specs.declared.arcs.WeightedOffer.{WeightedOffer}
use Rattle.transport.specs.declared.arcs.OfferOrder.{OfferOrder}
use Rattle.transport.specs.declared.arcs.OfferOrder.TheVariants.{AsOffered, ByWeight}

abbrev pub weighted_at : List WeightedOffer → ℕ → WeightedOffer
weighted_at weighted i = slice_index_or weighted i (record { weight = 0; offer = 0 })

-- an offer at its weight
pub record IsWeighted (offers : List Offer) (b : WeightedOffer) : Type 0 where
  pub offer : Offer
  pub its : slice_get offers b.offer ≡ Some offer
  pub weight : offer.weight ≡ b.weight

-- the offers of a row by rising weight
pub record AreWeighted (offers : List Offer) (weighted : List WeightedOffer) : Type 0 where
  pub rising : (i j : ℕ) → i ≤ j → j < length weighted → (weighted_at weighted i).weight ≤ (weighted_at weighted j).weight
  pub its : (i : ℕ) → i < length weighted → IsWeighted offers (weighted_at weighted i)

-- each of these is an offer, and each of the first offers is one of them
pub record AreAllWeighted (offers : List Offer) (weighted : List WeightedOffer) (upto : ℕ) : Type 0 where
  pub its : All (IsWeighted offers) weighted
  pub all : (o : ℕ) (x : Offer) → o < upto → slice_get offers o ≡ Some x → Contains weighted (record { weight = x.weight; offer = o })

-- each offer at its weight, as they stand
abbrev pub offered : List Offer → List WeightedOffer
offered offers = map (λ i. record { weight = (slice_index_or offers i (record { weight = 0; cpus = set.empty })).weight; offer = i }) (range_with_len 0 (length offers))

-- the offers in their order
abbrev pub weighted_in : List Offer → OfferOrder → List WeightedOffer
weighted_in offers AsOffered = offered offers
weighted_in offers (ByWeight weighted) = weighted.items

-- each offer once, by rising weight
pub record IsOrder (offers : List Offer) (o : OfferOrder) : Type 0 where
  pub weighted : AreWeighted offers (weighted_in offers o)
  pub all : AreAllWeighted offers (weighted_in offers o) (length offers)
  pub long : length (weighted_in offers o) ≡ length offers
