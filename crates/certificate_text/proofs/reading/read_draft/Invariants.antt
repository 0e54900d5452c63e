use Rattle.std.proofs.Common.{length}
use Rattle.certificate_text.proofs.BadLines.{IsReadTo}
use Rattle.certificate_text.proofs.reading.read_draft.Given as goal

abbrev pub invariant-loop-line : goal.invariant-loop-line
invariant-loop-line l = IsReadTo l.text l.rest l.draft l.number

abbrev pub decreases-loop-line : goal.decreases-loop-line
decreases-loop-line l = length l.rest
