use Rattle.std.proofs.Common.{arith}
use Rattle.std.proofs.lemmas.Result.{err_from_is_err_and}
use Rattle.faults.specs.FirstLaws.{first_below-none, first_below-at}
use Rattle.slit.specs.Table.{distance, table}
use Rattle.slit.specs.EntriesFault.{entry_fault, table_row_fault}
use Rattle.slit.proofs.entries.check_row.Goals as goal

pub returns-in_err-check_entry-clause-fault : goal.returns-in_err-check_entry-clause-fault
unfolding table_row_fault
returns-in_err-check_entry-clause-fault c =
    let p = err_from_is_err_and c.from_residual.result c.from_residual.ensures.1 in
    rw (p.1, p.2)
    (first_below-at c.args.count c.loop-column.column
    (λ j. entry_fault c.args.row j (distance (table c.args.count c.args.entries.now) c.args.row j))
    _ c.loop-column-test.true c.loop-column.invariant.none (rw (← c.entry_at.ensures) c.in_err-check_entry.ensures.fault))

pub returns-clause-fault : goal.returns-clause-fault
unfolding table_row_fault
returns-clause-fault c =
    first_below-none _ _ (λ k lt. c.loop-column.invariant.none k (omega arith))
