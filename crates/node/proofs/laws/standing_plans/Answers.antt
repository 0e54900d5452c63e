use Rattle.rows.specs.LimitLemmas.{rows_weigh}
use Rattle.rows.specs.PartLemmas.{scaled_rows_weigh}
use Rattle.node.proofs.OrderLemmas.{both_leave}
use Rattle.node.proofs.StandingLemmas.{standing_plans_are_kept, answered_plans_stand, seconds_keep_plans}
use Rattle.node.proofs.laws.standing_plans.Goals as goal

pub returns : goal.returns
returns c = record {
  kept = standing_plans_are_kept both_leave rows_weigh scaled_rows_weigh;
  stands = answered_plans_stand both_leave;
  second = seconds_keep_plans both_leave rows_weigh scaled_rows_weigh;
}
