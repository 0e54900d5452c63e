-- Prices kept as sets with amounts.
use Rattle.certificate.specs.declared.price_lists.Price.{Price}
use Rattle.cpu_set.specs.Ids.{Ids}
use Rattle.std.proofs.Common.{List, map, ℕ}

abbrev pub price_of : ℕ × Ids → Price
price_of p = record { amount = p.0; cpus = p.1 }

-- the sets with their amounts, as prices
abbrev pub prices_of : List (ℕ × Ids) → List Price
prices_of sets = map price_of sets
