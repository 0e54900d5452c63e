-- Where a value is above what an offer asks.
use Rattle.certificate.specs.Price.{price}
use Rattle.certificate.specs.declared.price_lists.Price.{Price}
use Rattle.certificate.specs.declared.rows.Offer.{Offer}
use Rattle.std.proofs.Common.{Bool, List, nat_lt, ℕ, ◌&&◌, ◌+◌}
use Rattle.std.specs.FinSet as set

-- the offer has the CPU, and its weight and the CPU's price together are below the value
abbrev pub is_offer_too_high : List Price → ℕ → Offer → ℕ → Bool
is_offer_too_high prices value offer cpu = set.contains offer.cpus cpu && nat_lt (offer.weight + price prices cpu) value
