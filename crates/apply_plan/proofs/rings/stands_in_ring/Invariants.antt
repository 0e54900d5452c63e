use Rattle.std.proofs.Common.{◌≡◌, ◌-◌, length}
use Rattle.apply_plan.specs.NextTables.{leads_place, ring_at}
use Rattle.apply_plan.proofs.rings.stands_in_ring.Given as goal

-- whether it does is told by the steps that are left
abbrev pub invariant-loop-step : goal.invariant-loop-step
invariant-loop-step l = leads_place l.nexts l.place (length l.nexts - l._step) l.at ≡ ring_at l.nexts l.place
