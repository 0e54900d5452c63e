-- The price of a CPU.
use Rattle.std.specs.Prelude.{ℕ, List, option_map, unwrap_or, find, sum_by}
use Rattle.std.specs.FinSet as set
use Rattle.cpu_set.specs.Members.{cpus}
use Rattle.certificate.specs.declared.price_lists.Price.{Price}

-- the amount of the price that has the CPU, and 0 where none is written
abbrev pub price : List Price → ℕ → ℕ
price prices cpu = unwrap_or (option_map (λ p. p.amount) (find (λ p. set.contains p.cpus cpu) prices)) 0

-- the prices of all CPUs, summed
abbrev pub all_prices : List Price → ℕ
all_prices prices = sum_by (price prices) cpus
