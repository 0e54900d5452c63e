use Rattle.std.proofs.Common.{◌≡◌, ◌∙◌}
use Rattle.certificate.proofs.Verdicts.{not_short}
use Rattle.certificate.proofs.checking.check_members.Goals as goal

pub returns-in_err-asked-clause-complete : goal.returns-in_err-asked-clause-complete
returns-in_err-asked-clause-complete c =
    let same : c.as_slice.result.now ≡ c.args.members.now = c.as_slice.ensures.value ∙ c.members.view_is in
    λ v p. absurd (not_short c.args.problem.now c.args.members.now c.args.weights c.check_shortage.result c.in_err-asked.field-0.0 c.in_err-asked.was (rw same at c.check_shortage.ensures.complete) v p)
