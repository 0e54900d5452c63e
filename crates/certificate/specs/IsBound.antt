-- A lower bound on what every plan costs, by values of rows and prices of CPUs.
-- From: linear programming duality.
use Rattle.std.specs.Prelude.{◌≡◌, ℕ, ◌+◌, ◌*◌, ◌≤◌, List, Some, sum_by, zip}
use Rattle.std.specs.List.{AllZip}
use Rattle.cpu_set.specs.Members.{IsCpu}
use Rattle.certificate.specs.RowView.{RowView}
use Rattle.certificate.specs.Weight.{weight}
use Rattle.certificate.specs.Price.{price, all_prices}
use Rattle.certificate.specs.declared.price_lists.Price.{Price}

-- the value is at most the weight and the price together, of each CPU with a weight in the row
abbrev pub IsValueOf : List Price → RowView → ℕ → Type 0
IsValueOf prices row value = (cpu w : ℕ) → IsCpu cpu → weight row cpu ≡ Some w → value ≤ w + price prices cpu

-- demand times value, summed over the rows
abbrev pub worth : List RowView → List ℕ → ℕ
worth rows values = sum_by (λ e. e.0.demand * e.1) (zip rows values)

-- values and prices bound every plan's cost from below. The bound is what the rows are worth, less the prices of all CPUs. It
-- is written as a sum, since a subtraction stops at 0.
pub record IsBound (rows : List RowView) (values : List ℕ) (prices : List Price) (bound : ℕ) : Type 0 where
  pub below : AllZip (IsValueOf prices) rows values
  pub sum : worth rows values ≡ bound + all_prices prices
