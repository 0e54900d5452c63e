use Rattle.std.proofs.Common.{◌≡◌, None, option_map, ap, ◌∙◌, sym, arith, get_or, below_more}
use Rattle.std.proofs.lemmas.List.{get_or_default}
use Rattle.faults.specs.FirstLaws.{first_below-at, first_below-none}
use Rattle.certificate.specs.PlanFault.{at_both, value_fault, values_fault}
use Rattle.certificate.specs.declared.fault.CheckFault.TheVariants.{ValueTooHigh}
use Rattle.certificate.proofs.RowFaults.{at_both_read}
use Rattle.certificate.proofs.Noting.{no_amounts}
use Rattle.certificate.proofs.value_checks.check_values.Goals as goal

pub note_prices-requires-clause-none : goal.note_prices-requires-clause-none
note_prices-requires-clause-none c = no_amounts

pub returns-in-Some : goal.returns-in-Some
unfolding values_fault
returns-in-Some c =
    first_below-at _ c.loop-k.k (λ k. at_both (value_fault c.args.prices.now k) c.args.rows.now c.args.values.now k) (ValueTooHigh c.loop-k.k c.in-Some.cpu)
    c.loop-k-test.true c.loop-k.invariant
    (at_both_read (value_fault c.args.prices.now c.loop-k.k) c.args.rows.now c.args.values.now c.loop-k.k c.index-rows-k.result (get_or c.args.values.now c.loop-k.k 0)
    c.loop-k-test.true (omega arith) c.index-rows-k.is (get_or_default c.args.values.now c.loop-k.k 0 _ (omega arith))
    ∙ ap (option_map (ValueTooHigh c.loop-k.k)) (sym (c.first_too_high.ensures c.args.prices.now c.note_prices.ensures) ∙ c.in-Some.is))

pub loop-k-preserved : goal.loop-k-preserved
loop-k-preserved c =
    below_more (λ k. at_both (value_fault c.args.prices.now k) c.args.rows.now c.args.values.now k ≡ None) c.loop-k.k c.loop-k.invariant
    (at_both_read (value_fault c.args.prices.now c.loop-k.k) c.args.rows.now c.args.values.now c.loop-k.k c.index-rows-k.result (get_or c.args.values.now c.loop-k.k 0)
    c.loop-k-test.true (omega arith) c.index-rows-k.is (get_or_default c.args.values.now c.loop-k.k 0 _ (omega arith))
    ∙ ap (option_map (ValueTooHigh c.loop-k.k)) (sym (c.first_too_high.ensures c.args.prices.now c.note_prices.ensures) ∙ c.in_default.is))

pub returns : goal.returns
unfolding values_fault
returns c =
    first_below-none _ (λ k. at_both (value_fault c.args.prices.now k) c.args.rows.now c.args.values.now k) (λ j lt. c.loop-k.invariant j (omega arith))
