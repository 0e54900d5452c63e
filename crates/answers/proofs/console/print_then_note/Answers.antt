-- Standard error takes the line that is told.
use Rattle.std.proofs.Common.{inr, refl}
use Rattle.answers.proofs.console.print_then_note.Goals as goal

pub returns-in-Err : goal.returns-in-Err
returns-in-Err g c = inr (refl, c.in-Err.ensures, rw c.as_bytes.ensures.value at c.tell.ensures)
