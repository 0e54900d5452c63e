use Rattle.std.proofs.Common.{◌≡◌, None, subst, ◌∙◌, arith, below_more, All}
use Rattle.std.proofs.lemmas.Result.{err_from_is_err_and}
use Rattle.std.proofs.lemmas.List.{take_all}
use Rattle.std.proofs.lemmas.List.Elements.{All-more}
use Rattle.cpu_set.specs.Members.{InRange}
use Rattle.faults.specs.FirstLaws.{first_below-at, first_below-none}
use Rattle.certificate.specs.PlanFault.{at_both, row_fault, rows_fault}
use Rattle.certificate.proofs.RowFaults.{at_both_read}
use Rattle.certificate.proofs.Causes.{rows_cause}
use Rattle.certificate.proofs.row_checks.check_rows.Goals as goal

pub returns-in_err-check_row-clause-fault : goal.returns-in_err-check_row-clause-fault
unfolding rows_fault
returns-in_err-check_row-clause-fault c =
    let p = err_from_is_err_and c.from_residual.result c.from_residual.ensures.1 in
    rw (p.1, p.2)
    (first_below-at _ c.loop-k.k (λ k. at_both (row_fault k) c.args.rows.now c.args.sets.now k) _ c.loop-k-test.true c.loop-k.invariant.none
    (at_both_read (row_fault c.loop-k.k) c.args.rows.now c.args.sets.now c.loop-k.k c.index-rows-k.result c.index-sets-k.result
    c.loop-k-test.true (omega arith) c.index-rows-k.is c.index-sets-k.is ∙ c.in_err-check_row.ensures.fault))

pub loop-k-preserved : goal.loop-k-preserved
loop-k-preserved c = record {
  none =
      below_more (λ k. at_both (row_fault k) c.args.rows.now c.args.sets.now k ≡ None) c.loop-k.k c.loop-k.invariant.none
      (at_both_read (row_fault c.loop-k.k) c.args.rows.now c.args.sets.now c.loop-k.k c.index-rows-k.result c.index-sets-k.result
      c.loop-k-test.true (omega arith) c.index-rows-k.is c.index-sets-k.is ∙ c.in_ok-check_row.ensures.fault);
  in_range =
      All-more InRange c.args.sets.now c.loop-k.k c.index-sets-k.result (omega arith) c.loop-k.invariant.in_range
      (subst InRange c.index-sets-k.is c.in_ok-check_row.ensures.in_range);
}

pub returns-clause-fault : goal.returns-clause-fault
unfolding rows_fault
returns-clause-fault c = first_below-none _ (λ k. at_both (row_fault k) c.args.rows.now c.args.sets.now k) (λ j lt. c.loop-k.invariant.none j (omega arith))

pub returns-in_err-check_row-clause-cause : goal.returns-in_err-check_row-clause-cause
returns-in_err-check_row-clause-cause c =
    let p = err_from_is_err_and c.from_residual.result c.from_residual.ensures.1 in
    rw (p.1, p.2)
    (rows_cause c.args.rows.now c.args.sets.now c.loop-k.k c.index-rows-k.result c.index-sets-k.result _ c.requires c.loop-k-test.true
    c.index-rows-k.is c.index-sets-k.is c.loop-k.invariant.none c.loop-k.invariant.in_range c.in_err-check_row.ensures.fault)

pub returns-clause-in_range : goal.returns-clause-in_range
returns-clause-in_range c = subst (λ sets. All InRange sets) (take_all c.loop-k.k c.args.sets.now (omega arith)) c.loop-k.invariant.in_range
