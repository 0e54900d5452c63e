-- A plan that its values and prices prove to be of least cost.
use Rattle.std.specs.Prelude.{◌≡◌, ℕ, IsTrue, List}
use Rattle.cpu_set.specs.Ids.{Ids}
use Rattle.certificate.specs.RowView.{RowView}
use Rattle.certificate.specs.PricesView.{PricesView}
use Rattle.certificate.specs.IsPlan.{IsPlan}
use Rattle.certificate.specs.Cost.{cost}
use Rattle.certificate.specs.IsBound.{IsBound}
use Rattle.certificate.specs.Limits.{is_within_limits}

-- what a yes of the check of a plan means. All is within the limits, the plan has this cost, and values and prices give the
-- same number as a bound.
pub record IsProved (rows : List RowView) (sets : List Ids) (prices : PricesView) (total : ℕ) : Type 0 where
  pub limits : IsTrue (is_within_limits rows sets prices)
  pub plan : IsPlan rows sets
  pub costs : cost rows sets ≡ total
  pub bound : IsBound rows prices.values prices.of_cpu total
