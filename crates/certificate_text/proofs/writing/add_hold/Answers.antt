use Rattle.std.proofs.lemmas.Result.{err_from_is_err_and}
use Rattle.byte_output.specs.GatheringLemmas.{fails_more, fails_then, gathers_then}
use Rattle.certificate_text.proofs.writing.add_hold.Goals as goal

pub returns-in_err-add_all-clause-written : goal.returns-in_err-add_all-clause-written
returns-in_err-add_all-clause-written g c =
    let p = err_from_is_err_and c.from_residual.result c.from_residual.ensures.1 in
    rw p.1 (fails_more _ _ _ _ _ (rw (c.as_slice.ensures, c.as_slice-2.ensures) at c.in_err-add_all.ensures))

pub returns-in_err-add_list-clause-written : goal.returns-in_err-add_list-clause-written
returns-in_err-add_list-clause-written g c =
    let p = err_from_is_err_and c.from_residual-in_err-add_list.result c.from_residual-in_err-add_list.ensures.1 in
    rw p.1 (fails_then _ _ _ _ _ _ _ (rw (c.as_slice.ensures, c.as_slice-2.ensures) at c.in_ok-add_all.ensures) (fails_more _ _ _ _ _ c.in_err-add_list.ensures))

pub returns-clause-written : goal.returns-clause-written
returns-clause-written g c =
    gathers_then _ _ _ _ _ _ c.add_number_between.result _ _ (rw (c.as_slice.ensures, c.as_slice-2.ensures) at c.in_ok-add_all.ensures)
    (gathers_then _ _ _ _ _ _ c.add_number_between.result _ _ c.in_ok-add_list.ensures c.add_number_between.ensures)
