use Rattle.std.proofs.Common.{length}
use Rattle.script.proofs.Lines.{HasFed}
use Rattle.script.proofs.running.feed.Given as goal

abbrev pub invariant-loop-end : goal.invariant-loop-end
invariant-loop-end g l =
    HasFed g.T.Target.answers (g.W.Write.contents l.initial.w) (g.W.Write.contents l.w) l.bytes l.rest l.initial.target l.initial.line l.target l.line

abbrev pub decreases-loop-end : goal.decreases-loop-end
decreases-loop-end g l = length l.rest
