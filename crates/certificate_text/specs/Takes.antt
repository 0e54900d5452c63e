-- How a draft answers a line.
use Rattle.std.specs.Prelude.{◌≡◌, Some, None, Result, Ok, Err, IsSome}
use Rattle.certificate_text.specs.Line.{LineView, HeaderLine, TotalLine, EndLine}
use Rattle.certificate_text.specs.DraftView.{DraftView, next}
use Rattle.faults.specs.declared.or_memory.OrMemory.{OrMemory}
use Rattle.faults.specs.declared.or_memory.OrMemory.TheVariants.{Memory, Fault}
use Rattle.certificate_text.specs.declared.bad_line.BadLine.{BadLine}

-- what the line says is kept in a list
abbrev pub TakesRoom : LineView → Type 0
TakesRoom (HeaderLine weights) = ⊥
TakesRoom (TotalLine weights total) = ⊥
TakesRoom EndLine = ⊥
TakesRoom _ = Unit {0}

-- the line was taken; or it can't follow, or it can and there is no room for it, and then nothing has changed
abbrev pub Takes : Result (Unit {0}) (OrMemory BadLine) → DraftView → LineView → DraftView → Type 0
Takes (Ok done) old line new = next old line ≡ Some new
Takes (Err (Fault bad)) old line new = (next old line ≡ None) × (new ≡ old)
Takes (Err Memory) old line new = TakesRoom line × IsSome (next old line) × (new ≡ old)
