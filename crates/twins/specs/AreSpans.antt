-- Ranges of CPUs, each of one weight to a row.
use Rattle.std.specs.Prelude.{◌≡◌, ℕ, ◌<◌, ◌≤◌, ◌++◌, [], ◌∷◌, true, Option, Some, None, List, All, is_some, length, slice_index_or, take}
use Rattle.std.specs.FinSet as set
use Rattle.cpu_set.specs.Ids.{Ids}
use Rattle.certificate.specs.Weight.{weight_in}
use Rattle.certificate.specs.declared.rows.Offer.{Offer}
use Rattle.twins.specs.IsPart.{is_same_weight}
use Rattle.twins.specs.declared.span_list.Span.{Span}
use Rattle.twins.specs.declared.spans.Spans.{Spans}

-- each CPU of the range has its weight
abbrev pub IsSpan : List Offer → Span → Type 0
IsSpan offers s = (cpu : ℕ) → s.first ≤ cpu → cpu ≤ s.last → weight_in offers cpu ≡ Some s.weight

-- the set at the place has the CPUs of the weight that the offer has
pub record IsMade (offers : List Offer) (sets : List Ids) (at place : ℕ) : Type 0 where
  pub there : place < length sets
  pub members : (d : Offer) (q : ℕ) → set.contains (slice_index_or sets place set.empty) q ≡ is_same_weight (Some (slice_index_or offers at d).weight) (weight_in offers q)

-- the set has the CPUs of the weight
abbrev pub HasWeight : List Offer → Ids → ℕ → Type 0
HasWeight offers s weight = (q : ℕ) → set.contains s q ≡ is_same_weight (Some weight) (weight_in offers q)

-- the set has the CPUs of one weight
pub record IsOfWeight (offers : List Offer) (s : Ids) : Type 0 where
  pub weight : ℕ
  pub members : HasWeight offers s weight

-- the CPUs of the weight of an offer are added behind the sets, at the place
pub record IsAddedAt (offers : List Offer) (at : ℕ) (before after : List Ids) (place : ℕ) : Type 0 where
  pub cpus : Ids
  pub added : after ≡ before ++ cpus ∷ []
  pub members : (d : Offer) → HasWeight offers cpus (slice_index_or offers at d).weight
  pub last : place ≡ length before

-- they are added, or none are
abbrev pub MayBeAdded : List Offer → ℕ → List Ids → List Ids → Option ℕ → Type 0
MayBeAdded offers at before after None = after ≡ before
MayBeAdded offers at before after (Some place) = IsAddedAt offers at before after place

-- no offer is noted
pub record IsNothingNoted (spans : Spans) : Type 0 where
  pub items : spans.items ≡ []
  pub places : spans.places.items ≡ []
  pub sets : spans.sets.items ≡ []

-- each offer is noted, by its ranges or by a set at hand
pub record AreNoted (offers : List Offer) (spans : Spans) : Type 0 where
  pub each : All (IsSpan offers) spans.items
  pub places : length spans.places.items ≡ length offers
  pub made : (at place : ℕ) → slice_index_or spans.places.items at None ≡ Some place → IsMade offers spans.sets.items at place
  pub at_hand : All (IsOfWeight offers) spans.sets.items

-- the ranges have the weights of the offers, the set has the CPUs of the offers, and each set that was at hand or made
-- for an offer has the CPUs of its weight
pub record AreSpans (offers : List Offer) (spans : Spans) : Type 0 where
  pub each : All (IsSpan offers) spans.items
  pub cpus : (cpu : ℕ) → set.contains spans.cpus cpu ≡ is_some (weight_in offers cpu)
  pub places : length spans.places.items ≡ length offers
  pub made : (at place : ℕ) → slice_index_or spans.places.items at None ≡ Some place → IsMade offers spans.sets.items at place
  pub within : spans.at_hand ≤ length spans.sets.items
  pub at_hand : All (IsOfWeight offers) (take spans.at_hand spans.sets.items)

-- all of the CPUs have the same weight, or none of them has one
abbrev pub AreAlike : List Offer → Ids → Type 0
AreAlike offers cpus =
    (a b : ℕ) → set.contains cpus a ≡ true → set.contains cpus b ≡ true → weight_in offers a ≡ weight_in offers b

-- the set at the place has the CPUs of the weight that the CPU has; it has none where there is no place
abbrev pub IsPlaceOf : List Offer → Spans → ℕ → Option ℕ → Type 0
IsPlaceOf offers spans cpu None = weight_in offers cpu ≡ None
IsPlaceOf offers spans cpu (Some place) =
    (place < length spans.sets.items) × ((q : ℕ) → set.contains (slice_index_or spans.sets.items place set.empty) q ≡ is_same_weight (weight_in offers cpu) (weight_in offers q))
