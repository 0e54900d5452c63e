use Rattle.transport.proofs.Clearing.{Unmarking}
use Rattle.transport.proofs.tree.unmark.Given as goal

abbrev pub invariant-loop-index : goal.invariant-loop-index
invariant-loop-index l = Unmarking l.initial.marks l.marks l.places l.index-index
