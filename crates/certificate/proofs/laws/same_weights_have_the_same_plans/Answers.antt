use Rattle.certificate.proofs.SameWeights.{same_weights_same_plans, same_weights_same_costs}
use Rattle.certificate.proofs.laws.same_weights_have_the_same_plans.Goals as goal

pub returns : goal.returns
returns c = record { plans = same_weights_same_plans; costs = same_weights_same_costs }
