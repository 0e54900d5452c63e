-- A plan of least cost.
use Rattle.std.specs.Prelude.{◌≤◌, List}
use Rattle.cpu_set.specs.Ids.{Ids}
use Rattle.certificate.specs.RowView.{RowView}
use Rattle.certificate.specs.IsPlan.{IsPlan}
use Rattle.certificate.specs.Cost.{cost}

-- an optimal plan: each plan of these rows costs at least as much
pub record IsLeast (rows : List RowView) (sets : List Ids) : Type 0 where
  pub plan : IsPlan rows sets
  pub least : (others : List Ids) → IsPlan rows others → cost rows sets ≤ cost rows others
