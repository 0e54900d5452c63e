use Rattle.std.proofs.Common.{◌≡◌, false}
use Rattle.std.specs.Prelude.{slice_index, ◌==◌}
use Rattle.apply_plan.specs.RingMarks.{AreKept, IsFollowed}
use Rattle.apply_plan.proofs.ring_marks.follow_all.Given as goal

-- those up to this one were followed
abbrev pub invariant-loop-step : goal.invariant-loop-step
invariant-loop-step l = record {
  followed : IsFollowed l.nexts l.marks l.number l.at;
  kept : AreKept l.fn.marks l.marks;
  here : (slice_index l.marks l.place == 0) ≡ false;
}
