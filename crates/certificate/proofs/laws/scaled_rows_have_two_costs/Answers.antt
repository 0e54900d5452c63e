use Rattle.certificate.specs.TwoCostLaws.{cost_splits, same_plans, moves_are_few, least_is_nearest}
use Rattle.certificate.proofs.laws.scaled_rows_have_two_costs.Goals as goal

pub returns : goal.returns
returns c = record { split = cost_splits; plans = same_plans; few = moves_are_few; least = least_is_nearest }
