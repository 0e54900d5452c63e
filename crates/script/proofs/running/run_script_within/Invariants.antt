use Rattle.script.proofs.Lines.{IsRunning}
use Rattle.script.proofs.running.run_script_within.Given as goal

abbrev pub invariant-loop-reads : goal.invariant-loop-reads
invariant-loop-reads g l =
    IsRunning g.T.Target.answers (g.R.Read.remaining l.fn.reader) (g.R.Read.remaining l.reader) (g.W.Write.contents l.fn.writer) (g.W.Write.contents l.writer) l.reads l.fn.target l.target l.line
