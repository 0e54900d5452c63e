-- At a fault the parts before went out, and a front of the one that was written.
use Rattle.std.proofs.Common.{ℕ, List, Bor}
use Rattle.std.proofs.lemmas.Result.{err_from_is_err_and}
use Rattle.byte_output.specs.SendingLemmas.{sends_part}
use Rattle.byte_output.proofs.output.put_all.Goals as goal

pub returns-in_err-put : goal.returns-in_err-put
returns-in_err-put g c =
    let fault = err_from_is_err_and c.from_residual.result c.from_residual.ensures.1 in
    rw fault.1 (sends_part (λ (part : Bor (List ℕ)). part.now) _ _ _ c.args.parts.now c.loop-part.part-index _ c.loop-part-test.true c.loop-part.invariant c.in_err-put.ensures)
