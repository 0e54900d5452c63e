use Rattle.std.proofs.Common.{map}
use Rattle.serde_json.specs.View.{view}
use Rattle.machine.proofs.RowSteps.{AreRowsRead}
use Rattle.machine.proofs.table.read_rows.Given as goal

-- the rows before this one are without fault, and read
abbrev pub invariant-loop-i : goal.invariant-loop-i
invariant-loop-i l = AreRowsRead (map view l.rows) l.i l.entries.items
