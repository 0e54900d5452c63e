-- A line that a draft was given, as text.
use Rattle.std.proofs.Common.{◌≡◌, true, false, ℕ, List, Result, Ok, Err, sym, ap, ◌∙◌}
use Rattle.certificate.specs.RowView.{RowView}
use Rattle.certificate_text.specs.Line.{LineView, RowLine, Spells}
use Rattle.certificate_text.specs.DraftView.{DraftView, next, takes_row}
use Rattle.certificate_text.specs.Takes.{Takes}
use Rattle.certificate_text.specs.LineTaken.{TakesLine}
use Rattle.faults.specs.declared.or_memory.OrMemory.{OrMemory}
use Rattle.faults.specs.declared.or_memory.OrMemory.TheVariants.{Memory, Fault}
use Rattle.certificate_text.specs.declared.bad_line.BadLine.{BadLine}
use Rattle.certificate_text.proofs.SpelledOnce.{spelled_once}
use Rattle.certificate_text.proofs.DraftTakes.{row_none, row_some}

pub line_taken : (r : Result (Unit {0}) (OrMemory BadLine)) (old new : DraftView) (line : List ℕ) (l : LineView) → Takes r old l new → Spells line l → TakesLine r old line new
line_taken (Ok done) old new line l t s = (l, s, t)
line_taken (Err (Fault bad)) old new line l t s = λ m n. ap (next old) (spelled_once line m l n s) ∙ t.0
line_taken (Err Memory) old new line l t s = (l, s, t.0, t.1)

-- a row's line whose row could not be allocated: it can follow, or it can't
pub row_lacks : (d : DraftView) (line id : List ℕ) (row : RowView) → Spells line (RowLine row) → id ≡ row.id → takes_row id d ≡ true → TakesLine (Err Memory) d line d
row_lacks d line id row s e h = (RowLine row, s, tt, row_some d row (ap (λ i. takes_row i d) (sym e) ∙ h))

pub row_refused : (bad : BadLine) (d : DraftView) (line id : List ℕ) (row : RowView) → Spells line (RowLine row) → id ≡ row.id → takes_row id d ≡ false → TakesLine (Err (Fault bad)) d line d
row_refused bad d line id row s e h = λ m n. ap (next d) (spelled_once line m (RowLine row) n s) ∙ row_none d row (ap (λ i. takes_row i d) (sym e) ∙ h)
