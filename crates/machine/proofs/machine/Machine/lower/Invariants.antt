use Rattle.machine.specs.Lowered.{AreLowered}
use Rattle.machine.proofs.machine.Machine.lower.Given as goal

-- the nodes before this one are looked at
abbrev pub invariant-loop-i : goal.invariant-loop-i
invariant-loop-i l = AreLowered l.self l.home l.initial.least l.least l.i
