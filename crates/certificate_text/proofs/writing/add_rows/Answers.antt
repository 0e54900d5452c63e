use Rattle.std.proofs.Common.{subst, arith}
use Rattle.byte_output.specs.Gathering.{HasGathered}
use Rattle.std.proofs.lemmas.Result.{err_from_is_err_and}
use Rattle.certificate.specs.RowView.{RowView}
use Rattle.byte_output.specs.GatheringLemmas.{gathers_part}
use Rattle.certificate_text.proofs.Pieces.{fails_item}
use Rattle.certificate_text.specs.Line.{RowLine}
use Rattle.certificate_text.specs.Written.{line_text, IsRowHeld}
use Rattle.certificate_text.proofs.HeldItems.{hold_more}
use Rattle.certificate_text.proofs.writing.add_rows.Goals as goal

pub returns-in_err-add_row-clause-written : goal.returns-in_err-add_row-clause-written
returns-in_err-add_row-clause-written g c =
    let p = err_from_is_err_and c.from_residual.result c.from_residual.ensures.1 in
    rw p.1 (fails_item (λ (row : RowView). line_text (RowLine row)) _ _ _ _ _ c.args.rows.now c.loop-row.row-index c.row-item.result c.loop-row-test.true c.loop-row.invariant.sent c.row-item.is c.in_err-add_row.ensures.written)

pub loop-row-preserved : goal.loop-row-preserved
loop-row-preserved g c = record {
  sent = gathers_part (λ (row : RowView). line_text (RowLine row)) _ _ _ _ _ _ c.args.rows.now c.loop-row.row-index c.row-item.result c.loop-row-test.true c.loop-row.invariant.sent
      (subst (λ (x : RowView). HasGathered (g.W.Write.contents c.loop-row.w) (g.W.Write.contents c.add_row.new.w) c.loop-row.buffer c.add_row.new.buffer (line_text (RowLine x))) c.row-item.is c.in_ok-add_row.ensures.written);
  held = hold_more IsRowHeld c.args.rows.now c.loop-row.row-index c.row-item.result c.loop-row-test.true c.row-item.is c.loop-row.invariant.held c.in_ok-add_row.ensures.held;
}

pub returns-clause-held : goal.returns-clause-held
returns-clause-held g c = λ k d lt. c.loop-row.invariant.held k d (omega arith)
