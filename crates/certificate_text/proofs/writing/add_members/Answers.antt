use Rattle.std.proofs.Common.{◌≡◌, ℕ, get_or}
use Rattle.std.proofs.lemmas.Result.{err_from_is_err_and}
use Rattle.certificate_text.specs.CertificateText.{id_at}
use Rattle.certificate_text.specs.Line.{ShortLine}
use Rattle.certificate_text.specs.Written.{line_text}
use Rattle.byte_output.specs.GatheringLemmas.{fails_part}
use Rattle.byte_output.specs.GatheringLemmas.{gathers_part}
use Rattle.certificate_text.proofs.Texts.{id_is}
use Rattle.certificate_text.proofs.writing.add_members.Goals as goal

pub returns-in_err-add_member : goal.returns-in_err-add_member
returns-in_err-add_member g c =
    let fault = err_from_is_err_and c.from_residual.result c.from_residual.ensures.1 in
    let k = get_or c.args.members.now c.loop-k.k-index 0 in
    let id : c.index-rows-k.result.id ≡ id_at c.args.rows.now k = id_is c.args.rows.now k c.index-rows-k.result (c.requires c.loop-k.k-index 0 c.loop-k-test.true) c.index-rows-k.is in
    rw fault.1 (fails_part (λ (j : ℕ). line_text (ShortLine (id_at c.args.rows.now j))) _ _ _ _ _ c.args.members.now c.loop-k.k-index 0 c.loop-k-test.true c.loop-k.invariant (rw id at c.in_err-add_member.ensures))

pub loop-k-preserved : goal.loop-k-preserved
loop-k-preserved g c =
    let k = get_or c.args.members.now c.loop-k.k-index 0 in
    let id : c.index-rows-k.result.id ≡ id_at c.args.rows.now k = id_is c.args.rows.now k c.index-rows-k.result (c.requires c.loop-k.k-index 0 c.loop-k-test.true) c.index-rows-k.is in
    gathers_part (λ (j : ℕ). line_text (ShortLine (id_at c.args.rows.now j))) _ _ _ _ _ _ c.args.members.now c.loop-k.k-index 0 c.loop-k-test.true c.loop-k.invariant (rw id at c.in_ok-add_member.ensures)
