-- Offers kept as sets with weights.
use Rattle.certificate.specs.declared.rows.Offer.{Offer}
use Rattle.cpu_set.specs.Ids.{Ids}
use Rattle.std.proofs.Common.{List, map, ℕ}

abbrev pub offer_of : ℕ × Ids → Offer
offer_of p = record { weight = p.0; cpus = p.1 }

-- the sets with their weights, as offers
abbrev pub as_offers : List (ℕ × Ids) → List Offer
as_offers sets = map offer_of sets
