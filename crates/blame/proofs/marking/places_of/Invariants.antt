use Rattle.blame.specs.Marking.{AreQueued}
use Rattle.blame.proofs.marking.places_of.Given as goal

abbrev pub invariant-loop-row : goal.invariant-loop-row
invariant-loop-row l = AreQueued l.known l.queue.items
