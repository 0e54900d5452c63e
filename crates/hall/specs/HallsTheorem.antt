-- Hall's theorem.
-- From: P. Hall, "On Representatives of Subsets", 1935.
use Rattle.std.specs.Prelude.{◌⊎◌, ℕ, List}
use Rattle.cpu_set.specs.Ids.{Ids}
use Rattle.certificate.specs.RowView.{RowView}
use Rattle.certificate.specs.IsPlan.{IsPlan}
use Rattle.certificate.specs.IsShortage.{IsShortage}

-- some sets are a plan of the rows
abbrev pub HasPlan : List RowView → Type 0
HasPlan rows = (sets : List Ids) × IsPlan rows sets

-- some of the rows are a shortage
abbrev pub HasShortage : List RowView → Type 0
HasShortage rows = (members : List ℕ) × IsShortage rows members

-- rows have a plan, or some of them are a shortage
abbrev pub HallsTheorem : Type 0
HallsTheorem = (rows : List RowView) → HasPlan rows ⊎ HasShortage rows
