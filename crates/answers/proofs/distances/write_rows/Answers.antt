-- The rows before went out, and at a fault a front of the next one.
use Rattle.std.proofs.Common.{rules}
use Rattle.std.proofs.lemmas.Result.{err_from_is_err_and}
use Rattle.byte_output.specs.SendingLemmas.{HasSent-fails, HasSent-then}
use Rattle.answers.proofs.Rows.{flat_map-rest}
use Rattle.answers.specs.SlitAnswer.{row_text}
use Rattle.answers.proofs.distances.write_rows.Goals as goal

pub returns-in_err-write_row : goal.returns-in_err-write_row
returns-in_err-write_row g c =
    let fault = err_from_is_err_and c.from_residual.result c.from_residual.ensures.1 in
    rw fault.1 (HasSent-fails _ _ _ _ _ _ _ c.loop-i.invariant
    (flat_map-rest (row_text c.args.table.now) c.args.table.now.localities c.loop-i.i (search rules)) c.in_err-write_row.ensures)

pub loop-i-preserved : goal.loop-i-preserved
loop-i-preserved g c = HasSent-then _ _ _ _ _ _ _ c.loop-i.invariant
    (flat_map-rest (row_text c.args.table.now) c.args.table.now.localities c.loop-i.i (search rules)) c.in_ok-write_row.ensures
