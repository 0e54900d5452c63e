use Rattle.std.proofs.Common.{refl}
use Rattle.certificate_text.specs.Line.{RowLine}
use Rattle.certificate_text.proofs.ProblemLines.{no_row, row_refused, row_taken}
use Rattle.certificate_text.proofs.problems.take_row.Goals as goal

pub add_row-requires : goal.add_row-requires
add_row-requires c = c.second_word.ensures c.in-Row.row (rw c.in-Row.is at c.in-Ok.ensures.ok)

pub returns-in-Row : goal.returns-in-Row
returns-in-Row c = row_taken c.add_row.result c.args.rows.now c.add_row.new.self c.args.line.now c.in-Row.row c.add_row.ensures (rw c.in-Row.is at c.in-Ok.ensures.ok)

pub returns-in_default : goal.returns-in_default
returns-in_default c = no_row c.args.rows.now c.args.line.now c.in-Ok.said c.in_default.not-Row c.in-Ok.ensures.ok

pub returns-in-Err-Memory : goal.returns-in-Err-Memory
returns-in-Err-Memory c =
    let row = c.in-Err-Memory.ensures.memory c.in-Err-Memory.field-0-is in
    row_refused c.no_room_for_row.result c.args.rows.now c.args.line.now row.0 row.1 c.no_room_for_row.ensures

pub returns-in-Err-Fault : goal.returns-in-Err-Fault
returns-in-Err-Fault c = λ row s. absurd ((rw c.in-Err-Fault.field-0-is at c.in-Err-Fault.ensures.bad) _ refl (RowLine row) s)
