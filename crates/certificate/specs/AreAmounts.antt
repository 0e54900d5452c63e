-- A table of what each CPU costs.
-- it has a place for each CPU, with the CPU's price
use Rattle.certificate.specs.Price.{price}
use Rattle.certificate.specs.declared.price_lists.Price.{Price}
use Rattle.cpu_set.specs.Members.{IsCpu}
use Rattle.cpu_set.specs.declared.TheConstants.{CPU_LIMIT}
use Rattle.std.proofs.Common.{List, length, ℕ, ◌≡◌}
use Rattle.std.specs.Prelude.{slice_index_or}

pub record AreAmounts (prices : List Price) (amounts : List ℕ) : Type 0 where
  pub long : length amounts ≡ CPU_LIMIT
  pub each : (cpu d : ℕ) → IsCpu cpu → slice_index_or amounts cpu d ≡ price prices cpu
