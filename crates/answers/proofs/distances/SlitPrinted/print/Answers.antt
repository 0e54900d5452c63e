-- The number of localities, and then the rows.
use Rattle.std.proofs.lemmas.Result.{err_from_is_err_and}
use Rattle.byte_output.specs.SendingLemmas.{SendsFront-more, Writes-then}
use Rattle.answers.proofs.distances.SlitPrinted.print.Goals as goal

pub returns-in_err-put_number_line : goal.returns-in_err-put_number_line
returns-in_err-put_number_line g c =
    let fault = err_from_is_err_and c.from_residual.result c.from_residual.ensures.1 in
    rw fault.1 (SendsFront-more _ _ _ _ (rw c.localities.ensures.localities at c.in_err-put_number_line.ensures))

pub returns : goal.returns
returns g c = Writes-then _ _ _ c.write_rows.result _ _ (rw c.localities.ensures.localities at c.in_ok-put_number_line.ensures) c.write_rows.ensures
