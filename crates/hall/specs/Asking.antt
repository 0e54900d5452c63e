-- What the row of a number asks for and may have.
use Rattle.std.specs.Prelude.{ℕ, Bool, Option, Some, None, List, is_some, option_and_then, slice_get}
use Rattle.certificate.specs.RowView.{RowView}
use Rattle.certificate.specs.Weight.{weight}

-- how many CPUs a row asks for, if there is one
abbrev pub demand_of : Option RowView → ℕ
demand_of None = 0
demand_of (Some row) = row.demand

-- how many CPUs row k asks for
abbrev pub demand_at : List RowView → ℕ → ℕ
demand_at rows k = demand_of (slice_get rows k)

-- whether row k may have the CPU
abbrev pub may_have : List RowView → ℕ → ℕ → Bool
may_have rows k cpu = is_some (option_and_then (λ row. weight row cpu) (slice_get rows k))
