use Rattle.std.proofs.Common.{◌↔◌, length}
use Rattle.apply_plan.specs.Holders.{Pairwise}
use Rattle.apply_plan.specs.Targets.{HaveOtherGroups}
use Rattle.scenarios.proofs.requirements.have_other_groups.Given as goal

abbrev pub invariant-loop-rest : goal.invariant-loop-rest
invariant-loop-rest l = Pairwise HaveOtherGroups l.rest ↔ Pairwise HaveOtherGroups l.entries

abbrev pub decreases-loop-rest : goal.decreases-loop-rest
decreases-loop-rest l = length l.rest
