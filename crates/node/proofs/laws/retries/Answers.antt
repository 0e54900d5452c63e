use Rattle.rows.specs.LimitLemmas.{rows_weigh}
use Rattle.rows.specs.PartLemmas.{scaled_rows_weigh}
use Rattle.apply_plan.specs.EffectLemmas.{targets_take_effect}
use Rattle.node.proofs.OrderLemmas.{both_leave, few_by}
use Rattle.node.proofs.RetryLemmas.{retries_end}
use Rattle.node.proofs.laws.retries.Goals as goal

pub returns : goal.returns
returns c = retries_end both_leave rows_weigh scaled_rows_weigh targets_take_effect few_by
