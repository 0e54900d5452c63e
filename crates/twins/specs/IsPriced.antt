-- What a search over classes finds: how many CPUs of each class the rows hold, and the numbers which show that no plan
-- costs less.
-- From: linear programming duality.
use Rattle.std.specs.Prelude.{◌≡◌, ℕ, ◌+◌, ◌<◌, ◌≤◌, ◌==◌, if◌then◌else◌, Some, List, [], ◌∷◌, ◌++◌, All, IsTrue, length, slice_index, slice_index_or, sum_by}
use Rattle.std.specs.FinSet as set
use Rattle.cpu_set.specs.Ids.{Ids}
use Rattle.certificate.specs.RowView.{RowView}
use Rattle.certificate.specs.Cost.{cost}
use Rattle.certificate.specs.IsProved.{IsProved}
use Rattle.certificate.specs.Limits.{rows_fit, values_fit}
use Rattle.certificate.specs.declared.price_lists.Price.{Price}
use Rattle.twins.specs.IsGrouping.{class_at, IsGrouping}
use Rattle.twins.specs.ClassWeight.{class_weight}
use Rattle.twins.specs.Holdings.{share_of, cell, held_of}
use Rattle.twins.specs.IsDeal.{IsDeal}
use Rattle.twins.specs.declared.holders.Share.{Share}

-- how many CPUs of each class the rows hold, with values and prices of classes which show that no plan costs less. Each row
-- holds as many CPUs as it asks for. No weight with its class's price is below its row's value, and it is equal for CPUs that
-- are held. A class of which some CPU is held by no row has the price 0.
pub record IsPriced (rows : List RowView) (classes : List Ids) (holdings : List (List Share)) (values prices : List ℕ) : Type 0 where
  pub long : length holdings ≡ length classes
  pub rows_in : All (All (λ s. s.row < length rows)) holdings
  pub as_many : length values ≡ length rows
  pub filled : (k : ℕ) (d : RowView) → k < length rows → sum_by (share_of k) holdings ≡ (slice_index_or rows k d).demand
  pub below : (k g w : ℕ) → class_weight rows classes k g ≡ Some w → slice_index values k ≤ w + slice_index prices g
  pub tight : (k g : ℕ) → 0 < cell holdings k g → (w : ℕ) × (class_weight rows classes k g ≡ Some w) × (slice_index values k ≡ w + slice_index prices g)
  pub zero : (g : ℕ) → held_of holdings g < set.len (class_at classes g) → slice_index prices g ≡ 0

-- a price for each class whose price is not 0
abbrev pub class_prices : List Ids → List ℕ → List Price
class_prices [] prices = []
class_prices (s ∷ classes) [] = []
class_prices (s ∷ classes) (p ∷ prices) =
    if p == 0 then class_prices classes prices else record { amount = p; cpus = s } ∷ class_prices classes prices

-- the prices with one more, unless it is 0
abbrev pub with_price : List Price → ℕ → Ids → List Price
with_price prices p s = if p == 0 then prices else prices ++ record { amount = p; cpus = s } ∷ []

-- CPUs that are dealt as a search over classes found are a plan, and its values and prices prove that no plan costs less;
-- no price has an empty set
abbrev pub ClassesProvePlans : Type 0
ClassesProvePlans =
    (rows : List RowView) (classes : List Ids) (holdings : List (List Share)) (sets : List Ids) (values prices : List ℕ)
    → IsTrue (rows_fit rows) → IsTrue (values_fit values) → IsTrue (values_fit prices)
    → IsGrouping rows classes → IsDeal classes holdings sets → length sets ≡ length rows → IsPriced rows classes holdings values prices
    → IsProved rows sets (record { values = values; of_cpu = class_prices classes prices }) (cost rows sets)
    × All (λ p. (0 < p.amount) × (0 < set.len p.cpus)) (class_prices classes prices)
