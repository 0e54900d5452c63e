-- Why the script could not be read is said beside its last line.
use Rattle.std.proofs.Common.{inl, inr, refl}
use Rattle.cli.proofs.run.finish.Goals as goal

pub returns-in-Some : goal.returns-in-Some
returns-in-Some g c = rw c.in-Err.is (inl (c.in-Some.fault, rw c.in-Some.is at c.unread.ensures, rw c.beside-note.ensures at c.print_then_note-in-Some.ensures))

pub returns-in-None : goal.returns-in-None
returns-in-None g c = rw c.in-Err.is (inr (rw c.in-None.is at c.unread.ensures, refl, refl, rw c.as_bytes.ensures.value at c.tell.ensures))
