use Rattle.std.proofs.Common.{arith}
use Rattle.std.proofs.lemmas.Result.{err_from_is_err_and}
use Rattle.byte_output.specs.SendingLemmas.{HasSent-then, HasSent-fails}
use Rattle.runtime.proofs.ContainerLines.{hold_next}
use Rattle.runtime.proofs.outcomes.put_holds.Goals as goal

pub returns-in_err-put_hold : goal.returns-in_err-put_hold
returns-in_err-put_hold g c =
    let fault = err_from_is_err_and c.from_residual.result c.from_residual.ensures.1 in
    let next = hold_next c.args.rows.now c.args.sets.now c.loop-k.k c.index-rows-k.result c.index-sets-k.result c.loop-k-test.true (omega arith) c.index-rows-k.is c.index-sets-k.is in
    rw fault.1 (HasSent-fails _ _ _ _ _ _ _ c.loop-k.invariant next c.in_err-put_hold.ensures)

pub loop-k-preserved : goal.loop-k-preserved
loop-k-preserved g c =
    let next = hold_next c.args.rows.now c.args.sets.now c.loop-k.k c.index-rows-k.result c.index-sets-k.result c.loop-k-test.true (omega arith) c.index-rows-k.is c.index-sets-k.is in
    HasSent-then _ _ _ _ _ _ _ c.loop-k.invariant next c.in_ok-put_hold.ensures
