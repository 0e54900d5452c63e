use Rattle.std.proofs.Common.{ℕ, ◌<◌, get_or, length}
use Rattle.std.proofs.lemmas.Result.{err_from_is_err_and}
use Rattle.std.proofs.lemmas.List.{get_or_default}
use Rattle.byte_output.specs.SendingLemmas.{HasSent-then, HasSent-fails}
use Rattle.runtime.proofs.ContainerLines.{member_next}
use Rattle.runtime.proofs.outcomes.put_members.Goals as goal

pub returns-in_err-put_member : goal.returns-in_err-put_member
returns-in_err-put_member g c =
    let fault = err_from_is_err_and c.from_residual.result c.from_residual.ensures.1 in
    let k : ℕ = get_or c.args.members.now c.loop-k.k-index 0 in
    let below : k < length c.args.rows.now = c.requires c.loop-k.k-index 0 c.loop-k-test.true in
    let next = member_next c.args.rows.now c.args.members.now c.loop-k.k-index k c.index-rows-k.result c.loop-k-test.true (get_or_default c.args.members.now c.loop-k.k-index 0 k c.loop-k-test.true) below c.index-rows-k.is in
    rw fault.1 (HasSent-fails _ _ _ _ _ _ _ c.loop-k.invariant next c.in_err-put_member.ensures)

pub loop-k-preserved : goal.loop-k-preserved
loop-k-preserved g c =
    let k : ℕ = get_or c.args.members.now c.loop-k.k-index 0 in
    let below : k < length c.args.rows.now = c.requires c.loop-k.k-index 0 c.loop-k-test.true in
    let next = member_next c.args.rows.now c.args.members.now c.loop-k.k-index k c.index-rows-k.result c.loop-k-test.true (get_or_default c.args.members.now c.loop-k.k-index 0 k c.loop-k-test.true) below c.index-rows-k.is in
    HasSent-then _ _ _ _ _ _ _ c.loop-k.invariant next c.in_ok-put_member.ensures
