use Rattle.std.proofs.Common.{◌≡◌, ◌<◌, length, ap, ◌∙◌, arith}
use Rattle.std.specs.Prelude.{◌^◌}
use Rattle.cpu_set.specs.Members.{InRange}
use Rattle.std.proofs.lemmas.List.{get_or_default}
use Rattle.std.proofs.lemmas.Result.{err_from_is_err_and}
use Rattle.certificate.specs.RowView.{RowView}
use Rattle.byte_output.specs.GatheringLemmas.{gathers_next, fails_next}
use Rattle.certificate_text.proofs.Texts.{hold_next}
use Rattle.certificate_text.proofs.HeldItems.{hold_more}
use Rattle.certificate_text.proofs.writing.add_holds.Goals as goal

pub returns-in_err-add_hold-clause-written : goal.returns-in_err-add_hold-clause-written
returns-in_err-add_hold-clause-written g c =
    let fault = err_from_is_err_and c.from_residual.result c.from_residual.ensures.1 in
    let in_values : c.loop-k.k < length c.args.values.now = omega arith in
    let id : c.as_bytes.result.now ≡ c.index-rows-k.result.id = c.as_bytes.ensures.value ∙ ap (λ (r : RowView). r.id) c.row.view_is in
    let next = hold_next c.args.rows.now c.args.sets.now c.args.values.now c.loop-k.k c.index-rows-k.result c.index-sets-k.result _
    c.loop-k-test.true (omega arith) in_values c.index-rows-k.is c.index-sets-k.is (get_or_default c.args.values.now c.loop-k.k 0 _ in_values) in
    rw fault.1 (fails_next _ _ _ _ _ _ _ _ _ c.loop-k.invariant.sent next (rw id at c.in_err-add_hold.ensures.written))

pub loop-k-preserved : goal.loop-k-preserved
loop-k-preserved g c =
    let in_values : c.loop-k.k < length c.args.values.now = omega arith in
    let id : c.as_bytes.result.now ≡ c.index-rows-k.result.id = c.as_bytes.ensures.value ∙ ap (λ (r : RowView). r.id) c.row.view_is in
    let next = hold_next c.args.rows.now c.args.sets.now c.args.values.now c.loop-k.k c.index-rows-k.result c.index-sets-k.result _
    c.loop-k-test.true (omega arith) in_values c.index-rows-k.is c.index-sets-k.is (get_or_default c.args.values.now c.loop-k.k 0 _ in_values) in
    record {
      sent = gathers_next _ _ _ _ _ _ _ _ _ c.loop-k.invariant.sent next (rw id at c.in_ok-add_hold.ensures.written);
      sets = hold_more InRange c.args.sets.now c.loop-k.k c.index-sets-k.result (omega arith) c.index-sets-k.is c.loop-k.invariant.sets c.add_hold.ensures.held.0;
      values = hold_more (λ v. v < 2 ^ 64) c.args.values.now c.loop-k.k _ in_values (get_or_default c.args.values.now c.loop-k.k 0 _ in_values) c.loop-k.invariant.values c.add_hold.ensures.held.1;
    }

pub returns-clause-held : goal.returns-clause-held
returns-clause-held g c = ((λ k d lt. c.loop-k.invariant.sets k d (omega arith)), (λ k d lt. c.loop-k.invariant.values k d (omega arith)))
