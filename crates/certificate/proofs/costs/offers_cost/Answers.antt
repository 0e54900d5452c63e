use Rattle.std.proofs.Common.{◌≡◌, ◌+◌, ◌*◌, ◌<◌, ◌≤◌, length, sym, arith}
use Rattle.cpu_set.specs.declared.TheConstants.{CPU_LIMIT}
use Rattle.certificate.specs.declared.limits.TheConstants.{MAX_WEIGHT}
use Rattle.certificate.proofs.Elements.{element_at}
use Rattle.certificate.proofs.CostSums.{cost_so_far, cost_small, cost_none, cost_more}
use Rattle.certificate.proofs.costs.offers_cost.Goals as goal
use Rattle.certificate.proofs.costs.offers_cost.Goals.{After-from-in-loop-at}

pub loop-at-init : goal.loop-at-init
loop-at-init c = sym (cost_none c.args.offers.now c.args.held.now)

-- the cost after one offer more
after :
    (c : After-from-in-loop-at)
    → c.loop-at.cost + c.from.result * c.from-in-loop-at.result ≡ cost_so_far c.args.offers.now (c.loop-at.at + 1) c.args.held.now
after c =
    let lt : c.loop-at.at < length c.args.offers.now = omega (arith, c.len-at-end.ensures, c.loop-at-test.true) in
    let o = element_at c.args.offers.now c.loop-at.at lt in
    rw (c.loop-at.invariant, c.from.ensures, c.from-in-loop-at.ensures, c.weight.ensures o.0, c.held_count.ensures.is_len o.0, ← o.1)
    (sym (cost_more c.args.offers.now c.loop-at.at o.0 c.args.held.now lt o.1 c.requires (rw (← o.1) at (c.held_count.ensures.in_range o.0))))

pub overflow_add-cost : goal.overflow_add-cost
overflow_add-cost c =
    let small : cost_so_far c.args.offers.now (c.loop-at.at + 1) c.args.held.now ≤ CPU_LIMIT * MAX_WEIGHT =
    cost_small c.args.offers.now (c.loop-at.at + 1) c.args.held.now c.requires in
    rw (after c) (omega arith)

pub loop-at-preserved : goal.loop-at-preserved
loop-at-preserved c = after c

pub returns-clause-small : goal.returns-clause-small
returns-clause-small c = rw c.loop-at.invariant (cost_small c.args.offers.now c.loop-at.at c.args.held.now c.requires)
