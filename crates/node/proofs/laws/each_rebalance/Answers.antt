use Rattle.rows.specs.LimitLemmas.{rows_weigh}
use Rattle.rows.specs.PartLemmas.{scaled_rows_weigh}
use Rattle.node.proofs.OrderLemmas.{both_leave}
use Rattle.apply_plan.specs.EffectLemmas.{targets_take_effect}
use Rattle.node.proofs.MachineLemmas.{runs_rebalance}
use Rattle.node.proofs.laws.each_rebalance.Goals as goal

pub returns : goal.returns
returns c = runs_rebalance both_leave targets_take_effect rows_weigh scaled_rows_weigh
