use Rattle.std.proofs.lemmas.Result.{err_from_is_err_and}
use Rattle.byte_output.specs.SendingLemmas.{SendsFront-more, SendsFront-then, Writes-then}
use Rattle.program_io.proofs.output.put_error_line.Goals as goal

pub returns-in_err-put : goal.returns-in_err-put
returns-in_err-put g c =
    let fault = err_from_is_err_and c.from_residual.result c.from_residual.ensures.1 in
    rw fault.1 (SendsFront-more _ _ _ _ c.in_err-put.ensures)

pub returns-in_err-put_name : goal.returns-in_err-put_name
returns-in_err-put_name g c =
    let fault = err_from_is_err_and c.from_residual-in_err-put_name.result c.from_residual-in_err-put_name.ensures.1 in
    rw fault.1 (SendsFront-then _ _ _ _ _ c.in_ok-put.ensures (SendsFront-more _ _ _ _ c.in_err-put_name.ensures))

pub returns : goal.returns
returns g c =
    Writes-then _ _ _ c.put_reason.result _ _ c.in_ok-put.ensures (Writes-then _ _ _ c.put_reason.result _ _ c.in_ok-put_name.ensures c.put_reason.ensures)
