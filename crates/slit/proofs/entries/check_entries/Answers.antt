use Rattle.std.proofs.Common.{arith}
use Rattle.std.proofs.lemmas.Result.{err_from_is_err_and}
use Rattle.faults.specs.FirstLaws.{first_below-none, first_below-at}
use Rattle.slit.specs.Table.{table}
use Rattle.slit.specs.EntriesFault.{table_row_fault, entries_fault}
use Rattle.slit.proofs.entries.check_entries.Goals as goal

pub returns-in_err-check_row-clause-fault : goal.returns-in_err-check_row-clause-fault
unfolding entries_fault
returns-in_err-check_row-clause-fault c =
    let p = err_from_is_err_and c.from_residual.result c.from_residual.ensures.1 in
    rw (p.1, p.2)
    (first_below-at c.args.count c.loop-row.row (table_row_fault (table c.args.count c.args.entries.now))
    _ c.loop-row-test.true c.loop-row.invariant.none c.in_err-check_row.ensures.fault)

pub returns-clause-fault : goal.returns-clause-fault
unfolding entries_fault
returns-clause-fault c =
    first_below-none _ _ (λ k lt. c.loop-row.invariant.none k (omega arith))
