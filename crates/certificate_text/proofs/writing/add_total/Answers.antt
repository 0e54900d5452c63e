use Rattle.std.proofs.lemmas.Result.{err_from_is_err_and}
use Rattle.byte_output.specs.GatheringLemmas.{fails_more, gathers_then}
use Rattle.certificate_text.proofs.Totals.{total_line}
use Rattle.certificate_text.proofs.writing.add_total.Goals as goal

pub returns-in_err-add_number_between-in-WithMoves : goal.returns-in_err-add_number_between-in-WithMoves
returns-in_err-add_number_between-in-WithMoves g c =
    let p = err_from_is_err_and c.from_residual.result c.from_residual.ensures.1 in
    rw (p.1, c.in-WithMoves.is, total_line c.args.total) (fails_more _ _ _ _ _ (rw c.unpack-cost.ensures.distance at c.in_err-add_number_between-in-WithMoves.ensures))

pub returns-in_ok-add_number_between-in-WithMoves : goal.returns-in_ok-add_number_between-in-WithMoves
returns-in_ok-add_number_between-in-WithMoves g c =
    rw (c.in-WithMoves.is, total_line c.args.total)
    (gathers_then _ _ _ _ _ _ c.add_number_between-in-WithMoves-2.result _ _ (rw c.unpack-cost.ensures.distance at c.in_ok-add_number_between-in-WithMoves.ensures)
    (rw c.unpack-cost.ensures.moves at c.add_number_between-in-WithMoves-2.ensures))
