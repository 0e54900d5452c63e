use Rattle.std.proofs.lemmas.Result.{err_from_is_err_and}
use Rattle.byte_output.specs.GatheringLemmas.{fails_more, gathers_then}
use Rattle.certificate_text.proofs.writing.add_head.Goals as goal

pub returns-in_err-add_header-clause-written : goal.returns-in_err-add_header-clause-written
returns-in_err-add_header-clause-written g c =
    let p = err_from_is_err_and c.from_residual.result c.from_residual.ensures.1 in
    rw p.1 (fails_more _ _ _ _ _ c.in_err-add_header.ensures)

pub returns-clause-written : goal.returns-clause-written
returns-clause-written g c = gathers_then _ _ _ _ _ _ c.add_rows.result _ _ c.in_ok-add_header.ensures c.add_rows.ensures.written
