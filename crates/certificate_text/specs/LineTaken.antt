-- What becomes of a draft with a line of the text.
use Rattle.std.specs.Prelude.{◌≡◌, Some, None, ℕ, List, Result, Ok, Err, IsSome}
use Rattle.certificate_text.specs.Line.{LineView, Spells}
use Rattle.certificate_text.specs.DraftView.{DraftView, next}
use Rattle.certificate_text.specs.Takes.{TakesRoom}
use Rattle.faults.specs.declared.or_memory.OrMemory.{OrMemory}
use Rattle.faults.specs.declared.or_memory.OrMemory.TheVariants.{Memory, Fault}
use Rattle.certificate_text.specs.declared.bad_line.BadLine.{BadLine}

-- a line that takes room and can follow
abbrev pub AsksForRoom : DraftView → List ℕ → Type 0
AsksForRoom d line = (l : LineView) × Spells line l × TakesRoom l × IsSome (next d l)

-- the line can follow, and was taken; or it can't; or there was no room for it
abbrev pub TakesLine : Result (Unit {0}) (OrMemory BadLine) → DraftView → List ℕ → DraftView → Type 0
TakesLine (Ok done) old line new = (l : LineView) × Spells line l × (next old l ≡ Some new)
TakesLine (Err (Fault bad)) old line new = (l : LineView) → Spells line l → next old l ≡ None
TakesLine (Err Memory) old line new = AsksForRoom old line
