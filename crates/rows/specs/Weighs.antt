-- What CPUs weigh in a row, and which CPUs a row offers.
use Rattle.std.specs.Prelude.{◌≡◌, ℕ, cond, List, Some, None}
use Rattle.std.specs.FinSet as set
use Rattle.cpu_set.specs.Ids.{Ids}
use Rattle.machine.specs.Layout.{Layout}
use Rattle.machine.specs.Weight.{weight as distance_home}
use Rattle.demand.specs.declared.Demand.{Demand}
use Rattle.demand.specs.FitsMachine.{FitsMachine}
use Rattle.certificate.specs.RowView.{RowView}
use Rattle.certificate.specs.Weight.{weight}
use Rattle.rows.specs.RowOf.{offered, row_of}

-- the lowest CPU of a core that is allowed and wholly online weighs its distance to the nearest home, and no other CPU is offered
abbrev pub RowsWeigh : Type 0
RowsWeigh =
    (m : Layout) (online : Ids) (id : List ℕ) (d : Demand) (row : RowView) → FitsMachine m d → row_of m online id d ≡ Some row
    → (cpu : ℕ) → weight row cpu ≡ cond (set.contains (offered m online d) cpu) (Some (distance_home m d.homes cpu)) None
