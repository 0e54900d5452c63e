use Rattle.std.proofs.lemmas.Result.{err_from_is_err_and}
use Rattle.byte_output.specs.SendingLemmas.{SendsFront-more, Writes-then}
use Rattle.runtime.specs.AnswerTexts.{set_text}
use Rattle.runtime.proofs.answers.put_labelled.Goals as goal

pub returns-in_err-put : goal.returns-in_err-put
returns-in_err-put g c =
    let fault = err_from_is_err_and c.from_residual.result c.from_residual.ensures.1 in
    rw fault.1 (SendsFront-more _ _ c.args.label.now (set_text c.args.set.now) c.in_err-put.ensures)

pub returns : goal.returns
returns g c = Writes-then _ _ _ c.put_set.result c.args.label.now (set_text c.args.set.now) c.in_ok-put.ensures c.put_set.ensures
