-- The two numbers, each with the words before it.
use Rattle.std.proofs.Common.{◌++◌, append_assoc, codes, decimal}
use Rattle.std.proofs.lemmas.Result.{err_from_is_err_and}
use Rattle.byte_output.specs.SendingLemmas.{SendsFront-more, Writes-then}
use Rattle.answers.proofs.check.put_moves.Goals as goal

pub returns-in_err-put_number : goal.returns-in_err-put_number
returns-in_err-put_number g c =
    let fault = err_from_is_err_and c.from_residual.result c.from_residual.ensures.1 in
    rw (fault.1, ← append_assoc (decimal c.args.distance) (codes " moves ") (decimal c.args.moves ++ codes "\n"))
    (SendsFront-more _ _ (codes "plan total " ++ (decimal c.args.distance ++ codes " moves ")) _ c.in_err-put_number.ensures)

pub returns : goal.returns
returns g c =
    rw (← append_assoc (decimal c.args.distance) (codes " moves ") (decimal c.args.moves ++ codes "\n"))
    (Writes-then _ _ _ c.put_number-2.result (codes "plan total " ++ (decimal c.args.distance ++ codes " moves ")) _ c.in_ok-put_number.ensures c.put_number-2.ensures)
