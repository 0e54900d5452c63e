use Rattle.std.proofs.Common.{drop}
use Rattle.byte_output.specs.Sending.{HasSent}
use Rattle.program_io.specs.ErrorLine.{shown_behind, shown_name}
use Rattle.program_io.proofs.output.put_bytes.Given as goal

abbrev pub invariant-loop-at : goal.invariant-loop-at
invariant-loop-at g l = HasSent (g.W.Write.contents l.fn.w) (g.W.Write.contents l.w) (shown_name l.name) (shown_behind l.before (drop l.at l.name))
