use Rattle.std.proofs.Common.{◌≡◌, ℕ, List, length}
use Rattle.hall.specs.Needed.{AreKnown}
use Rattle.blame.specs.Marking.{IsOwned, IsMarking, AreQueued, is_marked}
use Rattle.blame.proofs.marking.mark_from.Given as goal

abbrev pub invariant-loop-step : goal.invariant-loop-step
invariant-loop-step l = record {
  marking : (members : List ℕ) → IsOwned l.rows members l.part.own.items l.part.root l.part.lacking
      → AreKnown l.rows members l.part.root (is_marked l.initial.known)
      → IsMarking l.rows members l.part.own.items l.part.root l.known l.seen l.of_row;
  queued : AreQueued l.known l.queue.items;
  long : length l.of_row ≡ length l.known;
  as_rows : length l.known ≡ length l.rows;
}
