-- What becomes of a draft of rows with a line of the text.
use Rattle.std.specs.Prelude.{◌≡◌, ℕ, List, Some, None, Result, Ok, Err, IsSome}
use Rattle.certificate.specs.RowView.{RowView}
use Rattle.certificate_text.specs.DraftView.{DraftView, empty_draft, next}
use Rattle.certificate_text.specs.Line.{RowLine, Spells}
use Rattle.faults.specs.declared.or_memory.OrMemory.{OrMemory}
use Rattle.faults.specs.declared.or_memory.OrMemory.TheVariants.{Memory, Fault}
use Rattle.certificate_text.specs.declared.bad_line.BadLine.{BadLine}
use Rattle.certificate_text.specs.declared.stage.Stage.TheVariants.{Body}

-- rows have been read, and nothing behind them
abbrev pub rows_draft : List RowView → DraftView
rows_draft rows = record empty_draft { stage = Body; rows = rows }

-- the line is a row's that can follow, and was taken; or it is none such; or it is one, and there was no room for it
abbrev pub TakesRow : Result (Unit {0}) (OrMemory BadLine) → DraftView → List ℕ → DraftView → Type 0
TakesRow (Ok done) old line new = (row : RowView) × Spells line (RowLine row) × (next old (RowLine row) ≡ Some new)
TakesRow (Err (Fault bad)) old line new = (row : RowView) → Spells line (RowLine row) → next old (RowLine row) ≡ None
TakesRow (Err Memory) old line new = (row : RowView) × Spells line (RowLine row) × IsSome (next old (RowLine row))
