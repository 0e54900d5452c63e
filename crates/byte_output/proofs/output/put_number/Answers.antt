use Rattle.std.proofs.lemmas.Result.{err_from_is_err_and}
use Rattle.byte_output.specs.SendingLemmas.{SendsFront-more, SendsFront-then, Writes-then}
use Rattle.byte_output.proofs.output.put_number.Goals as goal

pub returns-in_err-put : goal.returns-in_err-put
returns-in_err-put g c =
    let p = err_from_is_err_and c.from_residual.result c.from_residual.ensures.1 in
    rw p.1 (SendsFront-more _ _ _ _ c.in_err-put.ensures)

pub returns-in_err-put-2 : goal.returns-in_err-put-2
returns-in_err-put-2 g c =
    let p = err_from_is_err_and c.from_residual-in_err-put-2.result c.from_residual-in_err-put-2.ensures.1 in
    rw p.1 (SendsFront-then _ _ _ _ _ c.in_ok-put.ensures (SendsFront-more _ _ _ _ (rw (c.as_bytes.ensures.value, c.format.ensures.text) at c.in_err-put-2.ensures)))

pub returns : goal.returns
returns g c =
    Writes-then _ _ _ c.put-3.result _ _ c.in_ok-put.ensures
    (Writes-then _ _ _ c.put-3.result _ _ (rw (c.as_bytes.ensures.value, c.format.ensures.text) at c.in_ok-put-2.ensures) c.put-3.ensures)
