use Rattle.std.proofs.Common.{◌≡◌, ℕ, ◌<◌, false}
use Rattle.std.specs.Prelude.{slice_index, ◌==◌}
use Rattle.apply_plan.specs.RingMarks.{AreMarked}
use Rattle.apply_plan.proofs.ring_marks.mark_rings.Given as goal

-- each before this place has a mark
abbrev pub invariant-loop-place : goal.invariant-loop-place
invariant-loop-place l = record {
  marked : AreMarked l.nexts l.marks;
  some : (p : ℕ) → p < l.place → (slice_index l.marks p == 0) ≡ false;
}
