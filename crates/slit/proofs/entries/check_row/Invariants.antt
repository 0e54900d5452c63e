use Rattle.std.proofs.Common.{◌≡◌, ◌<◌, ℕ, None}
use Rattle.slit.specs.AreDistances.{IsEntry}
use Rattle.slit.specs.Table.{distance, table}
use Rattle.slit.specs.EntriesFault.{entry_fault}
use Rattle.slit.proofs.entries.check_row.Given as goal

-- the entries before this one are allowed
abbrev pub invariant-loop-column : goal.invariant-loop-column
invariant-loop-column l = record {
  none : (j : ℕ) → j < l.column → entry_fault l.row j (distance (table l.count l.entries) l.row j) ≡ None;
  entries : (j : ℕ) → j < l.column → IsEntry l.row j (distance (table l.count l.entries) l.row j);
}
