use Rattle.std.proofs.Common.{◌↔◌, length}
use Rattle.apply_plan.specs.Targets.{HaveSomeTarget}
use Rattle.scenarios.proofs.requirements.have_targets.Given as goal

abbrev pub invariant-loop-rest : goal.invariant-loop-rest
invariant-loop-rest l = HaveSomeTarget l.rest ↔ HaveSomeTarget l.entries

abbrev pub decreases-loop-rest : goal.decreases-loop-rest
decreases-loop-rest l = length l.rest
