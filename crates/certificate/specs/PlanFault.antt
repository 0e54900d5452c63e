-- What is wrong with a plan and its prices: the checks in their order.
use Rattle.std.specs.Prelude.{ℕ, ◌+◌, Bool, false, not, ◌&&◌, ◌==◌, nat_lt, List, [], ◌∷◌, length, take, slice_get, slice_index_or, Option, option_map, option_and_then, is_some}
use Rattle.std.specs.List.{list_any}
use Rattle.std.specs.Option.{option_zip, option_map_or}
use Rattle.std.specs.FinSet as set
use Rattle.faults.specs.First.{when, first_of, first_below}
use Rattle.cpu_set.specs.Ids.{Ids}
use Rattle.cpu_set.specs.Least.{least_that}
use Rattle.certificate.specs.RowView.{RowView}
use Rattle.certificate.specs.PricesView.{PricesView}
use Rattle.certificate.specs.Weight.{weight}
use Rattle.certificate.specs.Cost.{cost}
use Rattle.certificate.specs.Price.{price, all_prices}
use Rattle.certificate.specs.IsBound.{worth}
use Rattle.certificate.specs.Limits.{is_within_limits}
use Rattle.certificate.specs.declared.price_lists.Price.{Price}
use Rattle.certificate.specs.declared.fault.CheckFault.{CheckFault}
use Rattle.certificate.specs.declared.fault.CheckFault.TheVariants.{BadProblem, WrongCount, NotAllowed, HeldTwice, ValueTooHigh, Gap}

-- the set has the CPU, and the row has no weight for it
abbrev pub is_not_allowed : RowView → Ids → ℕ → Bool
is_not_allowed row s cpu = set.contains s cpu && not (is_some (weight row cpu))

-- row k and its set: another count than the demand, then a CPU that is not allowed
unfoldable pub row_fault : ℕ → RowView → Ids → Option CheckFault
row_fault k row s = first_of (
    when (not (set.len s == row.demand)) (WrongCount k)
    ∷ option_map (NotAllowed k) (least_that (is_not_allowed row s))
    ∷ [])

-- what f says of the two elements at a place
abbrev pub at_both : {A B : Type 0} → (A → B → Option CheckFault) → List A → List B → ℕ → Option CheckFault
at_both f xs ys k = option_and_then (λ e. f e.0 e.1) (option_zip (slice_get xs k) (slice_get ys k))

-- the first row whose set is not as it asks
unfoldable pub rows_fault : List RowView → List Ids → Option CheckFault
rows_fault rows sets = first_below (length rows) (λ k. at_both (row_fault k) rows sets k)

-- one of the sets has the CPU
abbrev pub is_held : List Ids → ℕ → Bool
is_held sets cpu = list_any (λ s. set.contains s cpu) sets

-- set k has a CPU of an earlier set
abbrev pub twice_fault : List Ids → ℕ → Option CheckFault
twice_fault sets k =
    option_map HeldTwice (least_that (λ cpu. set.contains (slice_index_or sets k set.empty) cpu && is_held (take k sets) cpu))

-- the first set that has a CPU of an earlier one
unfoldable pub apart_fault : List Ids → Option CheckFault
apart_fault sets = first_below (length sets) (twice_fault sets)

-- the value is above the CPU's weight in the row and its price together
abbrev pub is_too_high : List Price → RowView → ℕ → ℕ → Bool
is_too_high prices row value cpu = option_map_or (λ w. nat_lt (w + price prices cpu) value) (weight row cpu) false

-- row k and its value: the least CPU at which it is too high
abbrev pub value_fault : List Price → ℕ → RowView → ℕ → Option CheckFault
value_fault prices k row value = option_map (ValueTooHigh k) (least_that (is_too_high prices row value))

-- the first row whose value is too high
unfoldable pub values_fault : List RowView → List ℕ → List Price → Option CheckFault
values_fault rows values prices = first_below (length rows) (λ k. at_both (value_fault prices k) rows values k)

-- the bound is the plan's cost
abbrev pub is_tight : List RowView → List Ids → PricesView → Bool
is_tight rows sets prices = worth rows prices.values == cost rows sets + all_prices prices.of_cpu

-- the first fault of a plan and its prices, in the order of the checks
unfoldable pub plan_fault : List RowView → List Ids → PricesView → Option CheckFault
plan_fault rows sets prices = first_of (
    when (not (is_within_limits rows sets prices)) BadProblem
    ∷ rows_fault rows sets
    ∷ apart_fault sets
    ∷ values_fault rows prices.values prices.of_cpu
    ∷ when (not (is_tight rows sets prices)) Gap
    ∷ [])
