use Rattle.machine.proofs.Reaching.{AreReached}
use Rattle.machine.proofs.machine.Machine.in_reach.Given as goal

-- of the nodes before this one those without a way are left out
abbrev pub invariant-loop-i : goal.invariant-loop-i
invariant-loop-i l = AreReached l.self l.homes l.reach l.i
