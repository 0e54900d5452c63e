use Rattle.std.proofs.lemmas.Result.{err_from_is_err_and}
use Rattle.byte_output.specs.Arguments.{number_text, word_text}
use Rattle.byte_output.specs.SendingLemmas.{SendsFront-more, Writes-then}
use Rattle.cpu_list.specs.FaultTitle.{list_code}
use Rattle.runtime.proofs.refusal.put_list_error.Goals as goal

pub returns-in_err-put_word : goal.returns-in_err-put_word
returns-in_err-put_word g c =
    let fault = err_from_is_err_and c.from_residual.result c.from_residual.ensures.1 in
    rw fault.1 (SendsFront-more _ _ (word_text (list_code c.args.error.kind)) (number_text c.args.error.at) (rw c.code.ensures at c.in_err-put_word.ensures))

pub returns : goal.returns
returns g c =
    Writes-then _ _ _ c.put_argument.result (word_text (list_code c.args.error.kind)) (number_text c.args.error.at)
    (rw c.code.ensures at c.in_ok-put_word.ensures) c.put_argument.ensures
