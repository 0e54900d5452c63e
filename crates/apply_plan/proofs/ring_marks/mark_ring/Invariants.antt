use Rattle.apply_plan.proofs.MarkLemmas.{IsRingFollowed}
use Rattle.apply_plan.proofs.ring_marks.mark_ring.Given as goal

-- those of the ring before this one were marked
abbrev pub invariant-loop-step : goal.invariant-loop-step
invariant-loop-step l = IsRingFollowed l.nexts l.fn.marks l.marks l.place l.at l._step
