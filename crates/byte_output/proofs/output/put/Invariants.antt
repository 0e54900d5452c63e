use Rattle.std.proofs.Common.{length}
use Rattle.byte_output.specs.Sending.{HasSent}
use Rattle.byte_output.proofs.output.put.Given as goal

abbrev pub invariant-loop-rest : goal.invariant-loop-rest
invariant-loop-rest g l = HasSent (g.W.Write.contents l.initial.w) (g.W.Write.contents l.w) l.bytes l.rest

abbrev pub decreases-loop-rest : goal.decreases-loop-rest
decreases-loop-rest g l = length l.rest
