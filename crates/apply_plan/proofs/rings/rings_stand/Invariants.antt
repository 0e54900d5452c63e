use Rattle.std.proofs.Common.{◌≡◌, false}
use Rattle.apply_plan.specs.NextTables.{any_ring}
use Rattle.apply_plan.proofs.rings.rings_stand.Given as goal

-- nobody before this place does
abbrev pub invariant-loop-place : goal.invariant-loop-place
invariant-loop-place l = any_ring l.nexts l.place ≡ false
