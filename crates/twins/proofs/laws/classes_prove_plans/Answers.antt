use Rattle.twins.proofs.Paying.{classes_prove_plans}
use Rattle.twins.proofs.laws.classes_prove_plans.Goals as goal

pub returns : goal.returns
returns c = classes_prove_plans
