-- A plan: a set of CPUs for each row.
-- From: the transportation problem.
use Rattle.std.specs.Prelude.{◌≡◌, ℕ, true, List, IsSome, AllPairs}
use Rattle.std.specs.List.{AllZip}
use Rattle.std.specs.FinSet as set
use Rattle.cpu_set.specs.Ids.{Ids, IsDisjoint}
use Rattle.cpu_set.specs.Members.{InRange}
use Rattle.certificate.specs.RowView.{RowView}
use Rattle.certificate.specs.Weight.{weight}

-- the set has as many CPUs as the row asks for, each with a weight in the row
pub record Meets (row : RowView) (s : Ids) : Type 0 where
  pub in_range : InRange s
  pub size : set.len s ≡ row.demand
  pub allowed : (cpu : ℕ) → set.contains s cpu ≡ true → IsSome (weight row cpu)

-- one set for each row, as many CPUs as it asks for, each with a weight in it, and no CPU in two
pub record IsPlan (rows : List RowView) (sets : List Ids) : Type 0 where
  pub met : AllZip Meets rows sets
  pub apart : AllPairs IsDisjoint sets
