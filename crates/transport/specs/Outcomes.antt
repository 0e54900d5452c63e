-- What assigning the rows ends with.
use Rattle.std.specs.Prelude.{◌≡◌, ℕ, suc, ◌+◌, ◌*◌, ◌<◌, ◌≤◌, Bool, true, List, map, length, slice_index_or, take}
use Rattle.std.specs.List.{count_by}
use Rattle.certificate.specs.RowView.{RowView}
use Rattle.certificate.specs.IsShortage.{asked}
use Rattle.transport.specs.Numbers.{number, is_marked}
use Rattle.transport.specs.Weights.{class_weight}
use Rattle.transport.specs.Totals.{IsShared, IsHall}
use Rattle.transport.specs.States.{cell}
use Rattle.transport.specs.Settled.{IsSettled}
use Rattle.transport.specs.declared.assignment.Assignment.{Assignment}
use Rattle.transport.specs.declared.augment.TurnLimit.{TurnLimit}
use Rattle.transport.specs.declared.augment.Outcome.{Outcome}
use Rattle.transport.specs.declared.augment.Outcome.TheVariants.{Done, Stuck, Late}

-- how many CPUs row k asks for
abbrev pub demand_of : List RowView → ℕ → ℕ
demand_of rows k = slice_index_or (map (λ r. r.demand) rows) k 0

-- each row holds as many CPUs as it asks for, and values and prices show that this costs the least;
-- two turns for each row at least, one for the row and one for a class
pub record IsDone (rows : List RowView) (firsts sizes : List ℕ) (s : Assignment) (turns : ℕ) : Type 0 where
  pub values_long : length s.values.items ≡ length rows
  pub prices_long : length s.prices.items ≡ length sizes
  pub settled : IsSettled (class_weight rows firsts) s
  pub shared : IsShared (demand_of rows) (number sizes) (length rows) (length sizes) (cell s.holdings.items) s.residual.items s.deficit.items
  pub met : (k : ℕ) → k < length rows → number s.deficit.items k ≡ 0
  pub at_least : 2 * length rows ≤ turns
  pub at_most : turns ≤ asked rows * (length rows + length sizes)

-- the reached rows have weights for the classes taken up alone, and ask for more CPUs than these have;
-- two turns at least for each row before one of them, and one for each of these rows and classes
pub record IsStuck (rows : List RowView) (firsts sizes : List ℕ) (reached taken : List Bool) (turns : ℕ) : Type 0 where
  pub reached_long : length reached ≡ length rows
  pub taken_long : length taken ≡ length sizes
  pub hall : IsHall (class_weight rows firsts) (demand_of rows) (number sizes) (length rows) (length sizes) reached taken
  pub some : 0 < count_by (λ b. b) reached
  pub at_least : (k : ℕ) → is_marked reached k ≡ true → 2 * k + (count_by (λ b. b) reached + count_by (λ b. b) taken) ≤ turns
  pub at_most : turns ≤ asked rows * (length rows + length sizes)

-- the first rows are met, and up to the row behind them the searches may take more turns than the limit has for those met
pub record IsLate (rows : List RowView) (sizes : List ℕ) (limit : TurnLimit) : Type 0 where
  pub met : ℕ
  pub there : met < length rows
  pub more : limit.at_first + limit.per_cpu * asked (take met rows) < asked (take (suc met) rows) * (length rows + length sizes)

-- what the rows get, or that it may take more turns than the limit has
abbrev pub IsOutcome : List RowView → List ℕ → List ℕ → TurnLimit → Outcome → Type 0
IsOutcome rows firsts sizes limit (Done assignment turns) = IsDone rows firsts sizes assignment turns
IsOutcome rows firsts sizes limit (Stuck reached taken turns) = IsStuck rows firsts sizes reached.items taken.items turns
IsOutcome rows firsts sizes limit Late = IsLate rows sizes limit

-- the turns that the limit has for all rows, and those of one search
abbrev pub turns_of_limit : List RowView → List ℕ → TurnLimit → ℕ
turns_of_limit rows sizes limit = limit.at_first + limit.per_cpu * asked rows + (length rows + length sizes)

-- no more turns were taken
abbrev pub IsOutcomeWithin : List RowView → List ℕ → TurnLimit → Outcome → Type 0
IsOutcomeWithin rows sizes limit (Done assignment turns) = turns ≤ turns_of_limit rows sizes limit
IsOutcomeWithin rows sizes limit (Stuck reached taken turns) = turns ≤ turns_of_limit rows sizes limit
IsOutcomeWithin rows sizes limit Late = Unit {0}
