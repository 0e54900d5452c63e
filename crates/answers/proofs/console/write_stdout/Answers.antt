use Rattle.std.proofs.lemmas.Result.{err_from_is_err_and}
use Rattle.program_io.specs.TakingLemmas.{TakesFront-some}
use Rattle.answers.proofs.console.write_stdout.Goals as goal

pub returns-in_err-print : goal.returns-in_err-print
returns-in_err-print g c =
    let fault = err_from_is_err_and c.from_residual.result c.from_residual.ensures.1 in
    rw fault.1 (TakesFront-some _ _ _ c.in_err-print.ensures)
