-- At a fault the parts before went out or waited, and a front of all with the one that was added went out.
use Rattle.std.proofs.Common.{ℕ, List, Bor}
use Rattle.std.proofs.lemmas.Result.{err_from_is_err_and}
use Rattle.byte_output.specs.GatheringLemmas.{gathers_none, gathers_part, fails_part}
use Rattle.byte_output.proofs.buffer.Buffer.add_all.Goals as goal

pub loop-part-init : goal.loop-part-init
loop-part-init g c = gathers_none _ c.args.self.now

pub returns-in_err-add : goal.returns-in_err-add
returns-in_err-add g c =
    let fault = err_from_is_err_and c.from_residual.result c.from_residual.ensures.1 in
    rw fault.1 (fails_part (λ (part : Bor (List ℕ)). part.now) _ _ _ c.args.self.now _ c.args.parts.now c.loop-part.part-index _ c.loop-part-test.true c.loop-part.invariant c.in_err-add.ensures)

pub loop-part-preserved : goal.loop-part-preserved
loop-part-preserved g c =
    gathers_part (λ (part : Bor (List ℕ)). part.now) _ _ _ c.args.self.now _ _ c.args.parts.now c.loop-part.part-index _ c.loop-part-test.true c.loop-part.invariant c.in_ok-add.ensures
