use Rattle.std.specs.Prelude.{ℕ, ◌==◌, ◌&&◌, not, cond, nat_le, List, [], ◌∷◌, length, slice_index_or, Option, Some, None, is_some}
use Rattle.std.specs.List.{list_all}
use Rattle.faults.specs.First.{when, first_of, first_below}
use Rattle.serde_json.specs.Data.{Data, null}
use Rattle.serde_json.specs.Find.{as_array}
use Rattle.slit.specs.Table.{Table}
use Rattle.machine.specs.declared.fault.MachineFault.{MachineFault}
use Rattle.machine.specs.declared.fault.MachineFault.TheVariants.{BadField, BothDistances, NoDistances, WrongSize, BadDistance}
use Rattle.machine.specs.declared.field.Field.TheVariants.{Distances}
use Rattle.json_text.specs.Numbers.{unsigned_of}
use Rattle.machine.specs.KindFaults.{array_fault}
use Rattle.machine.specs.Members.{items_of}

-- the entry in row i and column j is no whole number, or not a distance that may stand there
abbrev pub entry_fault : ℕ → ℕ → Option ℕ → Option MachineFault
entry_fault i j None = Some (BadField Distances)
entry_fault i j (Some d) = when (not (cond (i == j) (d == 10) (nat_le 10 d && nat_le d 255))) (BadDistance i j)

-- the first fault in row i
unfoldable pub distance_row_fault : ℕ → List Data → Option MachineFault
distance_row_fault i cells = first_below (length cells) (λ j. entry_fault i j (unsigned_of (slice_index_or cells j null)))

-- the first fault of the entries, by rows
unfoldable pub rows_fault : List Data → Option MachineFault
rows_fault rows = first_below (length rows) (λ i. distance_row_fault i (items_of (slice_index_or rows i null)))

-- one of the rows is no array, or there are not n rows of n entries
unfoldable pub shape_fault : ℕ → List Data → Option MachineFault
shape_fault n rows = first_of (
    when (not (list_all (λ row. is_some (as_array row)) rows)) (BadField Distances)
    ∷ when (not (length rows == n && list_all (λ row. length (items_of row) == n) rows)) WrongSize
    ∷ [])

-- the first fault of the distances between n nodes: they stand in one of two places, and nowhere else
unfoldable pub distances_fault : Option Table → Option Data → ℕ → Option MachineFault
distances_fault (Some t) (Some d) n = Some BothDistances
distances_fault None None n = Some NoDistances
distances_fault (Some t) None n = when (not (t.localities == n)) WrongSize
distances_fault None (Some d) n = first_of (
    array_fault Distances (Some d)
    ∷ shape_fault n (items_of d)
    ∷ rows_fault (items_of d)
    ∷ [])
