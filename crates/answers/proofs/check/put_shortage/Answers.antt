-- The two numbers, each with the words before it.
use Rattle.std.proofs.Common.{◌++◌, append_assoc, codes, decimal}
use Rattle.std.proofs.lemmas.Result.{err_from_is_err_and}
use Rattle.byte_output.specs.SendingLemmas.{SendsFront-more, Writes-then}
use Rattle.answers.proofs.check.put_shortage.Goals as goal

pub returns-in_err-put_number : goal.returns-in_err-put_number
returns-in_err-put_number g c =
    let fault = err_from_is_err_and c.from_residual.result c.from_residual.ensures.1 in
    rw (fault.1, ← append_assoc (decimal c.args.asked) (codes " cpus ") (decimal c.args.allowed ++ codes "\n"))
    (SendsFront-more _ _ (codes "short demand " ++ (decimal c.args.asked ++ codes " cpus ")) _ c.in_err-put_number.ensures)

pub returns : goal.returns
returns g c =
    rw (← append_assoc (decimal c.args.asked) (codes " cpus ") (decimal c.args.allowed ++ codes "\n"))
    (Writes-then _ _ _ c.put_number-2.result (codes "short demand " ++ (decimal c.args.asked ++ codes " cpus ")) _ c.in_ok-put_number.ensures (rw c.from.ensures at c.put_number-2.ensures))
