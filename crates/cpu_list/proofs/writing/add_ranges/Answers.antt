use native.Mathlib.Numerals.{unary_clauses}
use Rattle.std.proofs.Common.{sym, ap, drop-cons, ◌++◌}
use Rattle.std.proofs.lemmas.Result.{err_from_is_err_and}
use Rattle.byte_output.specs.SendingLemmas.{HasSent-none}
use Rattle.byte_output.specs.GatheringLemmas.{gathers_next, fails_next}
use Rattle.cpu_list.proofs.RangeText.{text_after-nil}
use Rattle.cpu_list.proofs.SetTexts.{text_left}
use Rattle.cpu_list.proofs.writing.add_ranges.Goals as goal

pub loop-range-init : goal.loop-range-init
loop-range-init g c = HasSent-none _ _ _ (ap (λ text. c.args.buffer.now ++ text) (sym (text_after-nil c.args.ranges.now)))

pub returns-in_err-add_item : goal.returns-in_err-add_item
returns-in_err-add_item g c =
    let p = err_from_is_err_and c.from_residual.result c.from_residual.ensures.1 in
    rw p.1 (fails_next _ _ _ _ _ _ _ _ _ c.loop-range.invariant (text_left _ _ _ _ (drop-cons c.args.ranges.now c.loop-range.range-index _ c.loop-range-test.true)) c.in_err-add_item.ensures)

pub loop-range-preserved : goal.loop-range-preserved
loop-range-preserved g c =
    simp unary_clauses
    (gathers_next _ _ _ _ _ _ _ _ _ c.loop-range.invariant (text_left _ _ _ _ (drop-cons c.args.ranges.now c.loop-range.range-index _ c.loop-range-test.true)) c.in_ok-add_item.ensures)
