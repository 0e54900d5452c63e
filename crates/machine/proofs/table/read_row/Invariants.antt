use Rattle.std.proofs.Common.{map}
use Rattle.serde_json.specs.View.{view}
use Rattle.machine.proofs.RowSteps.{AreCellsRead}
use Rattle.machine.proofs.table.read_row.Given as goal

-- the entries before this one are without fault, and added
abbrev pub invariant-loop-j : goal.invariant-loop-j
invariant-loop-j l = AreCellsRead l.fn.i (map view l.cells) l.j l.fn.entries.items l.entries.items
