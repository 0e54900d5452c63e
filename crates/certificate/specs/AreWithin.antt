-- What the limits' tests mean.
use Rattle.std.specs.Prelude.{◌≡◌, ◌↔◌, ◌≤◌, true, List, length, All, AllPairs}
use Rattle.cpu_set.specs.Ids.{Ids, IsDisjoint}
use Rattle.certificate.specs.RowView.{RowView}
use Rattle.certificate.specs.PricesView.{PricesView}
use Rattle.certificate.specs.Limits.{rows_fit, is_within_limits}
use Rattle.certificate.specs.declared.rows.Offer.{Offer}
use Rattle.certificate.specs.declared.price_lists.Price.{Price}
use Rattle.certificate.specs.declared.limits.TheConstants.{MAX_ROWS, MAX_DEMAND, MAX_WEIGHT, MAX_AMOUNT}

-- a row asks for some CPUs, not too many, and no CPU has two weights in it
pub record IsRowWithin (row : RowView) : Type 0 where
  pub some : 1 ≤ row.demand
  pub demand : row.demand ≤ MAX_DEMAND
  pub weights : All (λ (o : Offer). o.weight ≤ MAX_WEIGHT) row.offers
  pub apart : AllPairs (λ (o p : Offer). IsDisjoint o.cpus p.cpus) row.offers

pub record AreRowsWithin (rows : List RowView) : Type 0 where
  pub few : length rows ≤ MAX_ROWS
  pub each : All IsRowWithin rows

-- one set and one value for each row, none past its limit, and no CPU has two prices
pub record AreWithin (rows : List RowView) (sets : List Ids) (prices : PricesView) : Type 0 where
  pub rows_are : AreRowsWithin rows
  pub same_sets : length sets ≡ length rows
  pub same_values : length prices.values ≡ length rows
  pub values : All (λ v. v ≤ MAX_AMOUNT) prices.values
  pub amounts : All (λ (p : Price). p.amount ≤ MAX_AMOUNT) prices.of_cpu
  pub apart : AllPairs (λ (p q : Price). IsDisjoint p.cpus q.cpus) prices.of_cpu

-- the test of rows says exactly that they are within the limits
abbrev pub RowsFitMeans : Type 0
RowsFitMeans = (rows : List RowView) → rows_fit rows ≡ true ↔ AreRowsWithin rows

-- the test of a plan says exactly that all of it is within the limits
abbrev pub LimitsMean : Type 0
LimitsMean =
    (rows : List RowView) (sets : List Ids) (prices : PricesView)
    → is_within_limits rows sets prices ≡ true ↔ AreWithin rows sets prices
