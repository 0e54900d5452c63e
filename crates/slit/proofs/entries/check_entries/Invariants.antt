use Rattle.std.proofs.Common.{◌≡◌, ◌<◌, ℕ, None}
use Rattle.slit.specs.AreDistances.{IsRow}
use Rattle.slit.specs.Table.{table}
use Rattle.slit.specs.EntriesFault.{table_row_fault}
use Rattle.slit.proofs.entries.check_entries.Given as goal

-- the rows before this one are allowed
abbrev pub invariant-loop-row : goal.invariant-loop-row
invariant-loop-row l = record {
  none : (i : ℕ) → i < l.row → table_row_fault (table l.count l.entries) i ≡ None;
  rows : (i : ℕ) → i < l.row → IsRow (table l.count l.entries) i;
}
