use Rattle.rows.specs.LimitLemmas.{rows_weigh}
use Rattle.rows.specs.PartLemmas.{scaled_rows_weigh}
use Rattle.apply_plan.specs.EffectLemmas.{targets_take_effect}
use Rattle.node.specs.declared.order.Order.TheVariants.{InTurn}
use Rattle.node.proofs.OrderLemmas.{both_leave, few_by}
use Rattle.node.proofs.HeadlineLemmas.{headline, tells, breaks_off, rebalance_counts, rebalance_makes}
use Rattle.node.proofs.node.Node.rebalance.Goals as goal

pub returns : goal.returns
returns g c =
    let done = c.rebalance_in.ensures in
    record {
      headline = headline InTurn c.args.self.now c.holds.ensures both_leave targets_take_effect rows_weigh scaled_rows_weigh c.rebalance_in.result c.rebalance_in.new.self done;
      told = tells InTurn c.args.self.now c.holds.ensures both_leave targets_take_effect rows_weigh scaled_rows_weigh c.rebalance_in.result c.rebalance_in.new.self done;
      broken = breaks_off InTurn c.args.self.now c.holds.ensures both_leave rows_weigh c.rebalance_in.result c.rebalance_in.new.self done;
      rebalances = done;
      counted = rebalance_counts InTurn c.args.self.now c.holds.ensures both_leave c.rebalance_in.result c.rebalance_in.new.self done;
      made = rebalance_makes InTurn c.args.self.now c.holds.ensures both_leave targets_take_effect few_by c.rebalance_in.result c.rebalance_in.new.self done;
    }
