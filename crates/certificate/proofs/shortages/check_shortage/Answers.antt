use Rattle.certificate.proofs.Shown.{answer_is_shown, answer_leaves_no_plan, answer_is_complete, answer_has_its_cause}
use Rattle.certificate.proofs.shortages.check_shortage.Goals as goal

pub returns-clause-shown : goal.returns-clause-shown
returns-clause-shown c =
    rw (← c.problem.view_is, ← c.as_slice.ensures.value)
    (answer_is_shown _ _ c.check_shortage_body.result c.check_shortage_body.ensures.fault c.check_shortage_body.ensures.asked c.check_shortage_body.ensures.there)

pub returns-clause-none : goal.returns-clause-none
returns-clause-none c =
    rw (← c.problem.view_is, ← c.as_slice.ensures.value) (answer_leaves_no_plan _ c.args.members.now c.check_shortage_body.result c.check_shortage_body.ensures.fault)

pub returns-clause-complete : goal.returns-clause-complete
returns-clause-complete c =
    rw (← c.problem.view_is, ← c.as_slice.ensures.value)
    (answer_is_complete _ c.args.members.now c.check_shortage_body.result c.check_shortage_body.ensures.fault c.check_shortage_body.ensures.asked c.check_shortage_body.ensures.there)

pub returns-clause-cause : goal.returns-clause-cause
returns-clause-cause c =
    rw (← c.problem.view_is, ← c.as_slice.ensures.value) (answer_has_its_cause _ c.args.members.now c.check_shortage_body.result c.check_shortage_body.ensures.fault)
