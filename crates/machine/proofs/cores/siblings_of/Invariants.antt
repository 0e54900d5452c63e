use Rattle.machine.proofs.Siblings.{AreLinked}
use Rattle.machine.proofs.cores.siblings_of.Given as goal

-- from this CPU on the next ones are written
abbrev pub invariant-loop-cpu : goal.invariant-loop-cpu
invariant-loop-cpu l = AreLinked l.lowest l.firsts l.next l.cpu

abbrev pub decreases-loop-cpu : goal.decreases-loop-cpu
decreases-loop-cpu l = l.cpu
