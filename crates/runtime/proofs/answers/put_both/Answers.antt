use Rattle.std.proofs.Common.{◌++◌, codes}
use Rattle.std.proofs.lemmas.Result.{err_from_is_err_and}
use Rattle.byte_output.specs.SendingLemmas.{SendsFront-more, Writes-then}
use Rattle.runtime.specs.AnswerTexts.{set_text}
use Rattle.runtime.proofs.answers.put_both.Goals as goal

pub returns-in_err-put_labelled : goal.returns-in_err-put_labelled
returns-in_err-put_labelled g c =
    let fault = err_from_is_err_and c.from_residual.result c.from_residual.ensures.1 in
    rw fault.1 (SendsFront-more _ _ (c.args.label.now ++ set_text c.args.requested.now) (codes " effective " ++ set_text c.args.effective.now) c.in_err-put_labelled.ensures)

pub returns : goal.returns
returns g c =
    Writes-then _ _ _ c.put_labelled-2.result (c.args.label.now ++ set_text c.args.requested.now) (codes " effective " ++ set_text c.args.effective.now)
    c.in_ok-put_labelled.ensures c.put_labelled-2.ensures
