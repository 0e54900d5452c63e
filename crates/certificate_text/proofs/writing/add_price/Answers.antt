use Rattle.std.proofs.lemmas.Result.{err_from_is_err_and}
use Rattle.std.proofs.Common.{rules}
use Rattle.byte_output.specs.GatheringLemmas.{fails_more, fails_then, gathers_then}
use Rattle.certificate_text.proofs.RangesWritten.{ranges_text-is}
use Rattle.certificate_text.proofs.writing.add_price.Goals as goal

pub returns-in_err-add_number_between-clause-written : goal.returns-in_err-add_number_between-clause-written
returns-in_err-add_number_between-clause-written g c = λ d.
    let p = err_from_is_err_and c.from_residual.result c.from_residual.ensures.1 in
    rw p.1 (fails_more _ _ _ _ _ (rw (c.amount-amount.ensures d) at c.in_err-add_number_between.ensures))

pub returns-in_err-add_ranges-clause-written : goal.returns-in_err-add_ranges-clause-written
returns-in_err-add_ranges-clause-written g c = λ d.
    let p = err_from_is_err_and c.from_residual-in_err-add_ranges.result c.from_residual-in_err-add_ranges.ensures.1 in
    rw p.1 (fails_then _ _ _ _ _ _ _ (rw (c.amount-amount.ensures d) at c.in_ok-add_number_between.ensures)
    (fails_more _ _ _ _ _ (rw (ranges_text-is _ _ (c.ranges-ranges.ensures.ranges d)) at c.in_err-add_ranges.ensures)))

pub returns-clause-written : goal.returns-clause-written
returns-clause-written g c = λ d.
    gathers_then _ _ _ _ _ _ c.add.result _ _ (rw (c.amount-amount.ensures d) at c.in_ok-add_number_between.ensures)
    (gathers_then _ _ _ _ _ _ c.add.result _ _ (rw (ranges_text-is _ _ (c.ranges-ranges.ensures.ranges d)) at c.in_ok-add_ranges.ensures) c.add.ensures)

pub returns-in_err-add_number_between-clause-held : goal.returns-in_err-add_number_between-clause-held
returns-in_err-add_number_between-clause-held g c = λ d. record { amount = rw (← c.amount-amount.ensures d) (search rules); cpus = c.ranges-ranges.ensures.in_range d }

pub returns-in_err-add_ranges-clause-held : goal.returns-in_err-add_ranges-clause-held
returns-in_err-add_ranges-clause-held g c = λ d. record { amount = rw (← c.amount-amount.ensures d) (search rules); cpus = c.ranges-ranges.ensures.in_range d }

pub returns-clause-held : goal.returns-clause-held
returns-clause-held g c = λ d. record { amount = rw (← c.amount-amount.ensures d) (search rules); cpus = c.ranges-ranges.ensures.in_range d }
