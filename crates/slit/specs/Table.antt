-- From: ACPI, System Locality Information Table.
use Rattle.std.specs.Prelude.{ℕ, ◌+◌, ◌*◌, List, slice_index}

-- the number of localities, and the distances between them by rows
pub record Table : Type 0 where
  pub localities : ℕ
  pub entries : List ℕ

-- the distance from locality i to locality j: the entry in row i and column j
abbrev pub distance : Table → ℕ → ℕ → ℕ
distance t i j = slice_index t.entries (i * t.localities + j)

-- the table of these entries
abbrev pub table : ℕ → List ℕ → Table
table n xs = record { localities = n; entries = xs }
