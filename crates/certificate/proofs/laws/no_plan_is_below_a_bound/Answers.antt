use Rattle.certificate.proofs.Duality.{no_plan_below_bound}
use Rattle.certificate.proofs.Exact.{proved_is_least}
use Rattle.certificate.proofs.laws.no_plan_is_below_a_bound.Goals as goal

pub returns : goal.returns
returns c = record { bound = no_plan_below_bound; least = proved_is_least }
