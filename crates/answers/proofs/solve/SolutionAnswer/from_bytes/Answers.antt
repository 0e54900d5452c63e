use Rattle.std.proofs.lemmas.Result.{err_from_is_err_and}
use Rattle.answers.proofs.Solutions.{unsolved}
use Rattle.answers.proofs.solve.SolutionAnswer.from_bytes.Goals as goal

pub returns-in_err-solve_text : goal.returns-in_err-solve_text
returns-in_err-solve_text c =
    let p = err_from_is_err_and c.from_residual.result c.from_residual.ensures.1 in
    rw (p.1, p.2) (unsolved c.args.bytes.now c.in_err-solve_text.field-0.0 c.in_err-solve_text.ensures.fault c.in_err-solve_text.ensures.complete)
