use Rattle.std.proofs.Common.{◌≡◌, ◌∙◌, arith}
use Rattle.certificate.proofs.Verdicts.{plan_best}
use Rattle.certificate.proofs.checking.check_total.Goals as goal

pub returns-clause-best : goal.returns-clause-best
returns-clause-best c =
    let same : c.in_ok-cost.cost ≡ c.args.total = omega arith in
    rw (c.plan_verdict.ensures, same) (plan_best c.args.problem.now c.args.plan.now c.args.prices.now c.args.total c.args.weights
    c.in_ok-check_scale.ensures.ok c.in_ok-cost.ensures.least (c.in_ok-cost.ensures.proved.costs ∙ same))
