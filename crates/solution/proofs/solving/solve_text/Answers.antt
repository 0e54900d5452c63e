use Rattle.std.proofs.Common.{◌≡◌, ap, sym, ◌∙◌}
use Rattle.std.proofs.lemmas.Bool.{false≢true}
use Rattle.certificate.specs.Limits.{rows_fit}
use Rattle.solution.proofs.solving.solve_text.Goals as goal

pub returns-in-Err-Fault-clause-complete : goal.returns-in-Err-Fault-clause-complete
returns-in-Err-Fault-clause-complete c = λ has. absurd ((rw c.in-Err-Fault.field-0-is at c.in-Err-Fault.ensures.error).no_text has.0 has.1)

pub returns-then-not-rows_fit-clause-complete : goal.returns-then-not-rows_fit-clause-complete
returns-then-not-rows_fit-clause-complete c = λ has.
    let same : c.in-Ok.problem ≡ has.0 = c.problem_texts.ensures.problem c.args.text.now c.in-Ok.problem has.0 c.in-Ok.ensures.ok has.1 in
    let slice : c.as_slice.result.now ≡ has.0 = cc (c.as_slice.ensures.value, c.problem.view_is, same) in
    absurd (false≢true (sym c.if-not-rows_fit.true ∙ c.rows_fit.ensures ∙ ap rows_fit slice ∙ has.2))

pub solved-requires-clause-writable : goal.solved-requires-clause-writable
solved-requires-clause-writable c = c.problem_texts.ensures.written c.args.text.now c.in-Ok.problem c.in-Ok.ensures.ok
