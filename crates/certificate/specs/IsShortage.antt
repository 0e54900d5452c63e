-- A shortage: rows that together ask for more CPUs than they may have.
-- From: Hall's condition.
use Rattle.std.specs.Prelude.{ℕ, ◌<◌, Bool, List, All, filter, filter_map, is_some, length, slice_get, sum_by}
use Rattle.std.specs.List.{list_any}
use Rattle.std.specs.List.Sorted.{IsStrictlyIncreasing}
use Rattle.cpu_set.specs.Ids.{Ids}
use Rattle.cpu_set.specs.Members.{cpus}
use Rattle.certificate.specs.RowView.{RowView}
use Rattle.certificate.specs.Weight.{weight}
use Rattle.certificate.specs.IsPlan.{IsPlan}

-- the rows of these numbers
abbrev pub chosen : List RowView → List ℕ → List RowView
chosen rows members = filter_map (slice_get rows) members

-- how many CPUs the rows ask for together
abbrev pub asked : List RowView → ℕ
asked rows = sum_by (λ row. row.demand) rows

-- the CPU has a weight in one of the rows
abbrev pub is_offered : List RowView → ℕ → Bool
is_offered rows cpu = list_any (λ row. is_some (weight row cpu)) rows

-- the union of the rows' offers: the CPUs with a weight in one of the rows, in rising order
abbrev pub offered : List RowView → List ℕ
offered rows = filter (is_offered rows) cpus

-- a Hall violator: numbers of rows, each once, whose rows ask together for more CPUs than the union of their offers has
pub record IsShortage (rows : List RowView) (members : List ℕ) : Type 0 where
  pub rising : IsStrictlyIncreasing members
  pub there : All (λ k. k < length rows) members
  pub short : length (offered (chosen rows members)) < asked (chosen rows members)

-- no sets at all are a plan of the rows
abbrev pub HasNoPlan : List RowView → Type 0
HasNoPlan rows = (sets : List Ids) → IsPlan rows sets → ⊥
