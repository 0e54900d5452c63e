-- The set's text, and then the line feed.
use Rattle.std.proofs.lemmas.Result.{err_from_is_err_and}
use Rattle.byte_output.specs.SendingLemmas.{SendsFront-more, Writes-then}
use Rattle.answers.proofs.list.IdSetPrinted.print.Goals as goal

pub returns-in_err-write_list : goal.returns-in_err-write_list
returns-in_err-write_list g c =
    let fault = err_from_is_err_and c.from_residual.result c.from_residual.ensures.1 in
    rw fault.1 (SendsFront-more _ _ _ _ c.in_err-write_list.ensures)

pub returns : goal.returns
returns g c = Writes-then _ _ _ c.put.result _ _ c.in_ok-write_list.ensures c.put.ensures
