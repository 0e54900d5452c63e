use Rattle.std.proofs.Common.{take}
use Rattle.transport.specs.States.{HasTaken}
use Rattle.transport.proofs.search.take_nearest.Given as goal

abbrev pub invariant-loop-at : goal.invariant-loop-at
invariant-loop-at l = HasTaken l.assignment l.initial.tree l.tree (take l.at l.initial.tree.nearest.items)
