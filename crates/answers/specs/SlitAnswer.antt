-- What numarun answers to the bytes of a distance table.
use Rattle.std.specs.Prelude.{◌≡◌, ℕ, ◌==◌, if◌then◌else◌, List, [], ◌++◌, Some, None, Result, Ok, Err, codes, decimal}
use Rattle.std.specs.List.{flat_map, range_with_len}
use Rattle.slit.specs.Describes.{Describes}
use Rattle.slit.specs.SlitFaultOf.{slit_fault}
use Rattle.slit.specs.Table.{Table, distance}
use Rattle.program_io.specs.declared.refusal.Refusal.{Refusal}
use Rattle.program_io.specs.declared.refusal.Refusal.TheVariants as refusal

-- an entry of a row, behind a space unless it is the first
abbrev pub entry_text : ℕ → ℕ → List ℕ
entry_text j entry = (if j == 0 then [] else codes " ") ++ decimal entry

-- the distances from locality i, as one line
abbrev pub row_text : Table → ℕ → List ℕ
row_text t i = flat_map (λ j. entry_text j (distance t i j)) (range_with_len 0 t.localities) ++ codes "\n"

-- the number of localities, and a line for each of them
abbrev pub table_text : Table → List ℕ
table_text t = (codes "localities " ++ (decimal t.localities ++ codes "\n")) ++ flat_map (row_text t) (range_with_len 0 t.localities)

-- the table that the bytes describe, or their first fault; an allocation failure only if they have none
abbrev pub IsTableOrRefusal : List ℕ → Result Table Refusal → Type 0
IsTableOrRefusal bytes (Ok t) = Describes bytes t
IsTableOrRefusal bytes (Err (refusal.Slit fault)) = slit_fault bytes ≡ Some fault
IsTableOrRefusal bytes (Err refusal.Memory) = slit_fault bytes ≡ None
IsTableOrRefusal bytes (Err _) = ⊥
