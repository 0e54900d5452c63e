use Rattle.std.proofs.Common.{◌≡◌, ℕ, true, List}
use Rattle.std.specs.FinSet as set
use Rattle.certificate.specs.RowView.{RowView}
use Rattle.hall.specs.Needed.{IsOpenToKnown}
use Rattle.blame.specs.Marking.{IsOwned, IsMarking, IsMore, AreQueued, is_marked}
use Rattle.blame.proofs.MarkingLemmas.{AreUnseen}
use Rattle.blame.proofs.marking.see_row.Given as goal

abbrev pub invariant-loop-cpu : goal.invariant-loop-cpu
invariant-loop-cpu l = record {
  marking : (rows : List RowView) (members : List ℕ) → IsOwned rows members l.part.own.items l.part.root l.part.lacking
      → IsMarking rows members l.part.own.items l.part.root l.initial.known l.initial.seen l.initial.of_row
      → ((c : ℕ) → set.contains l.cpus c ≡ true → IsOpenToKnown rows (is_marked l.initial.known) c)
      → IsMarking rows members l.part.own.items l.part.root l.known l.seen l.of_row;
  more : IsMore l.initial.known l.known;
  queued : AreQueued l.initial.known l.initial.queue.items → AreQueued l.known l.queue.items;
  unseen : AreUnseen l.cpus l.seen l.left;
}

abbrev pub decreases-loop-cpu : goal.decreases-loop-cpu
decreases-loop-cpu l = set.len l.left
