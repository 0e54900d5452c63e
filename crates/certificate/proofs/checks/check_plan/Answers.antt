use Rattle.certificate.proofs.Exact.{answer_is_proved, answer_is_least, answer_is_complete}
use Rattle.certificate.proofs.checks.check_plan.Goals as goal

pub returns-clause-proved : goal.returns-clause-proved
returns-clause-proved c =
    rw (← c.problem.view_is, ← c.plan.view_is, ← c.as_slice.ensures.value, ← c.as_slice-2.ensures.value)
    (answer_is_proved _ _ _ c.check_plan_body.result c.check_plan_body.ensures.fault c.check_plan_body.ensures.cost c.check_plan_body.ensures.in_range)

pub returns-clause-least : goal.returns-clause-least
returns-clause-least c =
    rw (← c.problem.view_is, ← c.plan.view_is, ← c.as_slice.ensures.value, ← c.as_slice-2.ensures.value)
    (answer_is_least _ _ c.args.prices.now c.check_plan_body.result c.check_plan_body.ensures.fault c.check_plan_body.ensures.in_range)

pub returns-clause-complete : goal.returns-clause-complete
returns-clause-complete c =
    rw (← c.problem.view_is, ← c.plan.view_is, ← c.as_slice.ensures.value, ← c.as_slice-2.ensures.value)
    (answer_is_complete _ _ c.args.prices.now c.check_plan_body.result c.check_plan_body.ensures.fault c.check_plan_body.ensures.cost)
