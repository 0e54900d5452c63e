-- The first argument, and then the second.
use Rattle.std.proofs.Common.{append-nil}
use Rattle.std.proofs.lemmas.Result.{err_from_is_err_and}
use Rattle.byte_output.specs.SendingLemmas.{SendsFront-more, Writes-then}
use Rattle.program_io.proofs.refusal.Arguments.write.Goals as goal

pub returns-in_err-put_argument-in-Two : goal.returns-in_err-put_argument-in-Two
returns-in_err-put_argument-in-Two g c =
    let fault = err_from_is_err_and c.from_residual.result c.from_residual.ensures.1 in
    rw (fault.1, c.in-Two.is) (SendsFront-more _ _ _ _ c.in_err-put_argument-in-Two.ensures)

pub returns-in_ok-put_argument-in-Two : goal.returns-in_ok-put_argument-in-Two
returns-in_ok-put_argument-in-Two g c =
    rw (c.in-Two.is, append-nil) (Writes-then _ _ _ c.put_argument-in-Two-2.result _ _ c.in_ok-put_argument-in-Two.ensures c.put_argument-in-Two-2.ensures)
