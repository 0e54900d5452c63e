-- The distances that a machine file or a SLIT gives.
use Rattle.std.specs.Prelude.{◌≡◌, ℕ, ◌<◌, ◌*◌, List, length, map, Option, Some, None, unwrap_or, slice_index_or}
use Rattle.std.specs.List.{flat_map}
use Rattle.serde_json.specs.Data.{Data, null}
use Rattle.json_text.specs.Numbers.{unsigned_of}
use Rattle.slit.specs.AreDistances.{IsEntry, IsRow}
use Rattle.slit.specs.Table.{Table, table}
use Rattle.machine.specs.Members.{items_of, items_in}

-- an entry of a row
abbrev pub said_distance : Data → ℕ
said_distance d = unwrap_or (unsigned_of d) 0

-- the entries of a row
abbrev pub row_entries : Data → List ℕ
row_entries row = map said_distance (items_of row)

-- the distances by rows
abbrev pub distances_in : Option Table → Option Data → List ℕ
distances_in None found = flat_map row_entries (items_in found)
distances_in (Some t) found = t.entries

-- Distances between n nodes by rows, each as ACPI allows it.
pub record AreEntries (n : ℕ) (entries : List ℕ) : Type 0 where
  pub square : length entries ≡ n * n
  pub rows : (i : ℕ) → i < n → IsRow (table n entries) i

-- each entry of a row i may stand there
abbrev pub IsRowAllowed : ℕ → List Data → Type 0
IsRowAllowed i cells = (j : ℕ) → j < length cells → IsEntry i j (said_distance (slice_index_or cells j null))

-- each entry of the rows may stand where it stands
abbrev pub AreRowsAllowed : List Data → Type 0
AreRowsAllowed rows = (i : ℕ) → i < length rows → IsRowAllowed i (items_of (slice_index_or rows i null))
