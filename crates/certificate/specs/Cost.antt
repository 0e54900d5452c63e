-- What a plan costs.
use Rattle.std.specs.Prelude.{ℕ, List, sum_by, unwrap_or, zip}
use Rattle.cpu_set.specs.Ids.{Ids}
use Rattle.cpu_set.specs.Members.{members}
use Rattle.certificate.specs.RowView.{RowView}
use Rattle.certificate.specs.Weight.{weight}

-- the weights of the CPUs that a row holds, summed
abbrev pub row_cost : RowView → Ids → ℕ
row_cost row s = sum_by (λ cpu. unwrap_or (weight row cpu) 0) (members s)

-- what a plan costs: the weights held, summed over the rows
abbrev pub cost : List RowView → List Ids → ℕ
cost rows sets = sum_by (λ e. row_cost e.0 e.1) (zip rows sets)
