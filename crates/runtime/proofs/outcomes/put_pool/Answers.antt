use Rattle.std.proofs.Common.{◌++◌, codes}
use Rattle.std.proofs.lemmas.Result.{err_from_is_err_and}
use Rattle.byte_output.specs.SendingLemmas.{SendsFront-more, Writes-then}
use Rattle.runtime.specs.AnswerTexts.{set_text}
use Rattle.runtime.proofs.outcomes.put_pool.Goals as goal

pub returns-in_err-put_labelled : goal.returns-in_err-put_labelled
returns-in_err-put_labelled g c =
    let fault = err_from_is_err_and c.from_residual.result c.from_residual.ensures.1 in
    rw fault.1 (SendsFront-more _ _ (codes "pool " ++ set_text c.args.pool.now) (codes "\nend\n") c.in_err-put_labelled.ensures)

pub returns : goal.returns
returns g c = Writes-then _ _ _ c.put.result (codes "pool " ++ set_text c.args.pool.now) (codes "\nend\n") c.in_ok-put_labelled.ensures c.put.ensures
