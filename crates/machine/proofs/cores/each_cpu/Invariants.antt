use Rattle.machine.proofs.Marking.{AreOwn}
use Rattle.machine.proofs.cores.each_cpu.Given as goal

-- the numbers before this one stand at their places
abbrev pub invariant-loop-cpu : goal.invariant-loop-cpu
invariant-loop-cpu l = AreOwn l.numbers l.cpu
