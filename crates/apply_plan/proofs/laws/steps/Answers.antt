use Rattle.apply_plan.specs.RunLemmas.{steps_leave}
use Rattle.apply_plan.proofs.laws.steps.Goals as goal

pub returns : goal.returns
returns c = steps_leave
