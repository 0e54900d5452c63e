use Rattle.std.specs.Prelude.{ℕ, ◌==◌, ◌&&◌, nat_lt, [], ◌∷◌, Option}
use Rattle.faults.specs.First.{when, first_of, first_below}
use Rattle.slit.specs.declared.fault.SlitFault.{SlitFault}
use Rattle.slit.specs.declared.fault.SlitFault.TheVariants.{ReservedValue, BadDiagonal}
use Rattle.slit.specs.Table.{Table, distance}

-- the fault of the entry in row i and column j
abbrev pub entry_fault : ℕ → ℕ → ℕ → Option SlitFault
entry_fault i j entry = first_of (
    when (nat_lt entry 10) (ReservedValue i j)
    ∷ when (i == j && nat_lt 10 entry) (BadDiagonal i)
    ∷ [])

-- the first fault in row i
unfoldable pub table_row_fault : Table → ℕ → Option SlitFault
table_row_fault t i = first_below t.localities (λ j. entry_fault i j (distance t i j))

-- the first fault of the entries, by rows
unfoldable pub entries_fault : Table → Option SlitFault
entries_fault t = first_below t.localities (table_row_fault t)
