use Rattle.std.proofs.Common.{[], ◌∷◌, decimal}
use Rattle.std.proofs.lemmas.Result.{err_from_is_err_and}
use Rattle.cpu_list.proofs.RangeText.{after_first, range_text-begins, range_text-apart, range_text-same}
use Rattle.byte_output.specs.GatheringLemmas.{fails_more, fails_then, gathers_then}
use Rattle.cpu_list.proofs.writing.add_range.Goals as goal

pub returns-in_err-add_number : goal.returns-in_err-add_number
returns-in_err-add_number g c =
    let p = err_from_is_err_and c.from_residual.result c.from_residual.ensures.1 in
    rw (p.1, range_text-begins (c.args.first, c.args.last)) (fails_more _ _ c.args.buffer.now (decimal c.args.first) (after_first (c.args.first, c.args.last)) (rw c.from.ensures at c.in_err-add_number.ensures))

pub returns-then-first-last : goal.returns-then-first-last
returns-then-first-last g c = rw (range_text-same c.args.first c.args.last c.if-first-last.true) (rw c.from.ensures at c.in_ok-add_number.ensures)

pub returns-in_err-add : goal.returns-in_err-add
returns-in_err-add g c =
    let p = err_from_is_err_and c.from_residual-in_err-add.result c.from_residual-in_err-add.ensures.1 in
    rw (p.1, range_text-apart c.args.first c.args.last c.if-first-last.false)
    (fails_then _ _ _ _ _ (decimal c.args.first) (45 ∷ decimal c.args.last) (rw c.from.ensures at c.in_ok-add_number.ensures)
    (fails_more _ _ c.add_number.new.self (45 ∷ []) (decimal c.args.last) c.in_err-add.ensures))

pub returns : goal.returns
returns g c =
    rw (range_text-apart c.args.first c.args.last c.if-first-last.false)
    (gathers_then _ _ _ _ _ _ c.add_number-2.result (decimal c.args.first) (45 ∷ decimal c.args.last) (rw c.from.ensures at c.in_ok-add_number.ensures)
    (gathers_then _ _ _ _ _ _ c.add_number-2.result (45 ∷ []) (decimal c.args.last) c.in_ok-add.ensures (rw c.from-2.ensures at c.add_number-2.ensures)))
