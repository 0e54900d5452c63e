use Rattle.std.proofs.Common.{◌↔◌, length}
use Rattle.apply_plan.specs.Holders.{Pairwise}
use Rattle.apply_plan.specs.Targets.{AreTargetsApart}
use Rattle.scenarios.specs.Free.{AreFree}
use Rattle.scenarios.proofs.requirements.are_apart.Given as goal

-- those before this one are apart, and what is left to show is that those from here on stay apart from them
abbrev pub invariant-loop-rest : goal.invariant-loop-rest
invariant-loop-rest l = AreFree l.reserved l.any l.pinned l.rest ↔ Pairwise (AreTargetsApart l.reserved) l.entries

abbrev pub decreases-loop-rest : goal.decreases-loop-rest
decreases-loop-rest l = length l.rest
