-- The entries before went out, and at a fault a front of the next one.
use Rattle.std.proofs.Common.{rules}
use Rattle.std.proofs.lemmas.Result.{err_from_is_err_and}
use Rattle.byte_output.specs.SendingLemmas.{HasSent-fails, HasSent-then}
use Rattle.slit.specs.Table.{distance}
use Rattle.answers.proofs.Rows.{flat_map-rest}
use Rattle.answers.specs.SlitAnswer.{entry_text}
use Rattle.answers.proofs.distances.write_entries.Goals as goal

pub returns-in_err-write_entry : goal.returns-in_err-write_entry
returns-in_err-write_entry g c =
    let fault = err_from_is_err_and c.from_residual.result c.from_residual.ensures.1 in
    rw fault.1 (HasSent-fails _ _ _ _ _ _ _ c.loop-j.invariant
    (flat_map-rest (λ j. entry_text j (distance c.args.table.now c.args.i j)) c.args.table.now.localities c.loop-j.j (search rules)) c.in_err-write_entry.ensures)

pub loop-j-preserved : goal.loop-j-preserved
loop-j-preserved g c = HasSent-then _ _ _ _ _ _ _ c.loop-j.invariant
    (flat_map-rest (λ j. entry_text j (distance c.args.table.now c.args.i j)) c.args.table.now.localities c.loop-j.j (search rules)) c.in_ok-write_entry.ensures
