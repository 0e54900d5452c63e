use Rattle.machine.proofs.Lacking.{AreFirstsBelow}
use Rattle.machine.proofs.cores.firsts_of.Given as goal

-- those below this number are there
abbrev pub invariant-loop-cpu : goal.invariant-loop-cpu
invariant-loop-cpu l = AreFirstsBelow l.lowest l.cpu l.firsts
