use Rattle.std.proofs.lemmas.Result.{err_from_is_err_and}
use Rattle.byte_output.specs.SendingLemmas.{SendsFront-more, SendsFront-then, Writes-then}
use Rattle.program_io.proofs.output.put_error_at.Goals as goal

pub returns-in_err-put : goal.returns-in_err-put
returns-in_err-put g c =
    let fault = err_from_is_err_and c.from_residual.result c.from_residual.ensures.1 in
    rw fault.1 (SendsFront-more _ _ _ _ c.in_err-put.ensures)

pub returns-in_err-put_name : goal.returns-in_err-put_name
returns-in_err-put_name g c =
    let fault = err_from_is_err_and c.from_residual-in_err-put_name.result c.from_residual-in_err-put_name.ensures.1 in
    rw fault.1 (SendsFront-then _ _ _ _ _ c.in_ok-put.ensures (SendsFront-more _ _ _ _ c.in_err-put_name.ensures))

pub returns-in_err-put-2 : goal.returns-in_err-put-2
returns-in_err-put-2 g c =
    let fault = err_from_is_err_and c.from_residual-in_err-put-2.result c.from_residual-in_err-put-2.ensures.1 in
    rw fault.1
    (SendsFront-then _ _ _ _ _ c.in_ok-put.ensures (SendsFront-then _ _ _ _ _ c.in_ok-put_name.ensures (SendsFront-more _ _ _ _ c.in_err-put-2.ensures)))

pub returns-in_err-put-3 : goal.returns-in_err-put-3
returns-in_err-put-3 g c =
    let fault = err_from_is_err_and c.from_residual-in_err-put-3.result c.from_residual-in_err-put-3.ensures.1 in
    rw fault.1
    (SendsFront-then _ _ _ _ _ c.in_ok-put.ensures (SendsFront-then _ _ _ _ _ c.in_ok-put_name.ensures
    (SendsFront-then _ _ _ _ _ c.in_ok-put-2.ensures (SendsFront-more _ _ _ _ c.in_err-put-3.ensures))))

pub returns : goal.returns
returns g c =
    Writes-then _ _ _ c.put_place.result _ _ c.in_ok-put.ensures
    (Writes-then _ _ _ c.put_place.result _ _ c.in_ok-put_name.ensures
    (Writes-then _ _ _ c.put_place.result _ _ c.in_ok-put-2.ensures (Writes-then _ _ _ c.put_place.result _ _ c.in_ok-put-3.ensures c.put_place.ensures)))
