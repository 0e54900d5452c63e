use Rattle.std.proofs.Common.{◌≡◌, ℕ, ◌<◌, length}
use Rattle.std.specs.Prelude.{slice_index}
use Rattle.apply_plan.proofs.ring_marks.clear.Given as goal

-- those before this place were taken away
abbrev pub invariant-loop-place : goal.invariant-loop-place
invariant-loop-place l = record {
  room : length l.marks ≡ length l.fn.marks;
  unknown : (p : ℕ) → p < l.place → slice_index l.marks p ≡ 0;
}
