use Rattle.std.proofs.Common.{sym, ◌∙◌}
use Rattle.certificate_text.proofs.Finishing.{asks_text, text_finished}
use Rattle.certificate_text.proofs.TooMany.{many_refused, many_unproved}
use Rattle.certificate_text.proofs.Verdicts.{answers_verdict}
use Rattle.certificate_text.proofs.checking.check_text.Goals as goal

pub returns-in-Err-Fault-clause-complete : goal.returns-in-Err-Fault-clause-complete
returns-in-Err-Fault-clause-complete c = λ v p. absurd ((rw c.in-Err-Fault.field-0-is at c.in-Err-Fault.ensures.error).no_text p.0 p.1)

pub returns-then-has_too_many_rows-clause-complete : goal.returns-then-has_too_many_rows-clause-complete
returns-then-has_too_many_rows-clause-complete c = λ v p.
    absurd (many_unproved c.args.text.now c.in-Ok.draft v c.in-Ok.ensures.ok (sym c.has_too_many_rows.ensures ∙ c.if-has_too_many_rows.true) p)

pub returns-then-has_too_many_rows-clause-fault : goal.returns-then-has_too_many_rows-clause-fault
returns-then-has_too_many_rows-clause-fault c =
    many_refused c.args.text.now c.in-Ok.draft c.in-Ok.ensures.ok (sym c.has_too_many_rows.ensures ∙ c.if-has_too_many_rows.true)

pub finish-requires : goal.finish-requires
finish-requires c = let is = c.in-Ok.ensures.ok in (is.0, is.1)

pub returns-in_default-clause-fault : goal.returns-in_default-clause-fault
returns-in_default-clause-fault c = asks_text c.args.text.now c.in-Ok.draft c.in-Ok.ensures.ok c.in_default.ensures.err

pub returns-in-Ok-check-clause-complete : goal.returns-in-Ok-check-clause-complete
returns-in-Ok-check-clause-complete c = λ v p.
    let text = text_finished c.args.text.now c.in-Ok.draft c.in-Ok-finish.certificate c.in-Ok.ensures.ok c.in-Ok-finish.ensures.ok in
    let is = answers_verdict c.args.text.now c.in-Ok-finish.certificate c.check.result text c.check.ensures.complete v p in
    cc (is, c.in-Ok-check.is)

pub returns-in-Ok-check-clause-proved : goal.returns-in-Ok-check-clause-proved
returns-in-Ok-check-clause-proved c = (
  c.in-Ok-finish.certificate,
  text_finished c.args.text.now c.in-Ok.draft c.in-Ok-finish.certificate c.in-Ok.ensures.ok c.in-Ok-finish.ensures.ok,
  c.in-Ok-check.ensures.proved,
)

pub returns-clause-complete : goal.returns-clause-complete
returns-clause-complete c = λ v p.
    let text = text_finished c.args.text.now c.in-Ok.draft c.in-Ok-finish.certificate c.in-Ok.ensures.ok c.in-Ok-finish.ensures.ok in
    let is = answers_verdict c.args.text.now c.in-Ok-finish.certificate c.check.result text c.check.ensures.complete v p in
    absurd (cc (is, c.in-Err.is))
