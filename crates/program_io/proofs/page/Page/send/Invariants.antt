use Rattle.std.proofs.Common.{length}
use Rattle.std.specs.Io.KnownBytes.{Keeps}
use Rattle.program_io.specs.Pages.{contents_of}
use Rattle.program_io.proofs.page.Page.send.Given as goal

abbrev pub invariant-loop-self : goal.invariant-loop-self
invariant-loop-self g l = Keeps (contents_of g.W.Write.contents l.initial.self) (contents_of g.W.Write.contents l.self)

abbrev pub decreases-loop-self : goal.decreases-loop-self
decreases-loop-self g l = length l.self.waiting.items
