use Rattle.hall.proofs.Needed.{fewer_have_plans}
use Rattle.hall.proofs.laws.fewer_have_plans.Goals as goal

pub returns : goal.returns
returns c = fewer_have_plans
