use Rattle.std.proofs.Common.{Ok, Err, sym, subst}
use Rattle.node.specs.NodeState.{NodeState}
use Rattle.node.specs.Rebalance.{Rebalances}
use Rattle.node.proofs.RebalanceLemmas.{moves, plan_moved, short_left}
use Rattle.node.proofs.node.Node.rebalance_in.Goals as goal
use Rattle.node.proofs.node.Node.rebalance_in.Goals.{in-Plan+in_default-finish, in_default}

pub returns-in-Err : goal.returns-in-Err
returns-in-Err g c =
    (c.in-Plan.field-0, moves c.args.order c.args.self.now c.begin_in.new.self c.in_ok-outcome.outcome c.in_ok-outcome.ensures c.in-Plan.field-0 c.in-Plan.is (Err c.in-Err.fault) c.finish.new.self c.in-Err.ensures)

pub returns : goal.returns
returns g c =
    elim c.match-outcome.branch [
      | in-Plan+in_default-finish w ↦
          subst (λ (n : NodeState). Rebalances c.args.order c.args.self.now (Ok c.in_ok-outcome.outcome) n) (sym w.self-is)
          (plan_moved c.args.order c.args.self.now c.begin_in.new.self c.in_ok-outcome.outcome c.in_ok-outcome.ensures w.in-Plan.field-0 w.in-Plan.is w.finish.new.self w.in_default-finish.ensures)
      | in_default w ↦
          subst (λ (n : NodeState). Rebalances c.args.order c.args.self.now (Ok c.in_ok-outcome.outcome) n) (sym w.self-is)
          (short_left c.args.order c.args.self.now c.begin_in.new.self c.in_ok-outcome.outcome w.in_default.not-Plan c.in_ok-outcome.ensures)
    ]
