use Rattle.std.proofs.Common.{◌≡◌, length}
use Rattle.certificate_text.specs.RowTaken.{rows_draft}
use Rattle.certificate_text.proofs.ProblemLines.{IsRowsTo}
use Rattle.certificate_text.proofs.problems.read_problem_body.Given as goal

-- the rows so far are in the draft
abbrev pub invariant-loop-line : goal.invariant-loop-line
invariant-loop-line l = (l.rows ≡ rows_draft l.rows.rows) × IsRowsTo l.text l.rest l.rows.rows l.number

abbrev pub decreases-loop-line : goal.decreases-loop-line
decreases-loop-line l = length l.rest
