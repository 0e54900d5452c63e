use Rattle.apply_plan.specs.DirectOneStepLemmas.{direct_steps_leave}
use Rattle.apply_plan.proofs.laws.direct_steps.Goals as goal

pub returns : goal.returns
returns c = direct_steps_leave
