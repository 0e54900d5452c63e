-- What a CPU costs a row that holds it.
use Rattle.std.specs.Prelude.{ℕ, List, Option, option_map, find}
use Rattle.std.specs.FinSet as set
use Rattle.certificate.specs.RowView.{RowView}
use Rattle.certificate.specs.declared.rows.Offer.{Offer}

-- the weight of the first of these offers that has the CPU
abbrev pub weight_in : List Offer → ℕ → Option ℕ
weight_in offers cpu = option_map (λ o. o.weight) (find (λ o. set.contains o.cpus cpu) offers)

-- what a CPU costs a row that holds it: the weight of the row's offer that has it; none if the row may not have it
abbrev pub weight : RowView → ℕ → Option ℕ
weight row cpu = weight_in row.offers cpu
