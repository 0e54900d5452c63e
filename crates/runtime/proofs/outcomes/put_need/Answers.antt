use Rattle.std.proofs.lemmas.Result.{err_from_is_err_and}
use Rattle.byte_output.specs.SendingLemmas.{SendsFront-more, SendsFront-then, Writes-then}
use Rattle.runtime.proofs.outcomes.put_need.Goals as goal

pub returns-in_err-put_number : goal.returns-in_err-put_number
returns-in_err-put_number g c =
    let fault = err_from_is_err_and c.from_residual.result c.from_residual.ensures.1 in
    rw fault.1 (SendsFront-more _ _ _ _ c.in_err-put_number.ensures)

pub returns-in_err-put_set : goal.returns-in_err-put_set
returns-in_err-put_set g c =
    let fault = err_from_is_err_and c.from_residual-in_err-put_set.result c.from_residual-in_err-put_set.ensures.1 in
    rw fault.1 (SendsFront-then _ _ _ _ _ c.in_ok-put_number.ensures
    (SendsFront-more _ _ _ _ c.in_err-put_set.ensures))

pub returns : goal.returns
returns g c =
    Writes-then _ _ _ c.put.result _ _ c.in_ok-put_number.ensures
    (Writes-then _ _ _ c.put.result _ _ c.in_ok-put_set.ensures c.put.ensures)
