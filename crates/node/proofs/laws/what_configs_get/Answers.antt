use Rattle.rows.specs.LimitLemmas.{rows_weigh}
use Rattle.rows.specs.PartLemmas.{scaled_rows_weigh}
use Rattle.node.proofs.OrderLemmas.{both_leave}
use Rattle.apply_plan.specs.EffectLemmas.{targets_take_effect}
use Rattle.node.proofs.ServedLemmas.{runs_serve_configs}
use Rattle.node.proofs.laws.what_configs_get.Goals as goal

pub returns : goal.returns
returns c = runs_serve_configs rows_weigh both_leave targets_take_effect scaled_rows_weigh
