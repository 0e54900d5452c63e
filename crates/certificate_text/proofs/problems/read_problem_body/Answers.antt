use Rattle.std.proofs.Common.{codes, refl}
use Rattle.certificate_text.proofs.BadLines.{no_bytes, some_bytes}
use Rattle.certificate_text.specs.ProblemText.{problem_header}
use Rattle.certificate_text.proofs.ProblemLines.{bad_first, more_taken, no_first, not_false, not_true, row_can, row_known, rows_all, rows_ask, rows_bad, rows_long, rows_none, rows_short}
use Rattle.certificate_text.proofs.Refusing.{other_word, same_word}
use Rattle.certificate_text.proofs.problems.read_problem_body.Goals as goal

pub returns-in_default-clause-error : goal.returns-in_default-clause-error
returns-in_default-clause-error c = no_first c.args.text.now c.in_default.ensures

pub returns-then-ne-clause-error : goal.returns-then-ne-clause-error
returns-then-ne-clause-error c =
    bad_first c.args.text.now c.in-Some.first.now c.in-Some.behind.now c.in-Some.ensures.0
    (other_word c.in-Some.first.now c.as_slice.result.now problem_header (not_true _ c.if-ne.ensures) c.as_slice.ensures)

pub loop-line-init : goal.loop-line-init
loop-line-init c =
    let first = same_word c.in-Some.first.now c.as_slice.result.now problem_header (not_false _ c.if-ne.ensures) c.as_slice.ensures in
    rw c.of_rows-rows.ensures (refl, rows_none c.args.text.now c.in-Some.first.now c.in-Some.behind.now c.in-Some.ensures.0 c.in-Some.ensures.1 first)

pub returns-then-is_empty-clause-ok : goal.returns-then-is_empty-clause-ok
returns-then-is_empty-clause-ok c =
    let last = same_word c.in-Some-split_once.line.now c.as_slice-in-Some-split_once.result.now (codes "end") c.if-eq.ensures c.as_slice-in-Some-split_once.ensures in
    rw c.into_problem.ensures (rows_all c.args.text.now c.loop-line.rest.now c.in-Some-split_once.line.now c.in-Some-split_once.after.now c.loop-line.rows.rows c.loop-line.number
    c.loop-line.invariant.1 c.in-Some-split_once.ensures.0 last (no_bytes c.in-Some-split_once.after.now c.is_empty.result c.is_empty.ensures c.if-is_empty.true))

pub returns-then-eq-clause-error : goal.returns-then-eq-clause-error
returns-then-eq-clause-error c =
    let last = same_word c.in-Some-split_once.line.now c.as_slice-in-Some-split_once.result.now (codes "end") c.if-eq.ensures c.as_slice-in-Some-split_once.ensures in
    rows_long c.args.text.now c.loop-line.rest.now c.in-Some-split_once.line.now c.in-Some-split_once.after.now c.loop-line.rows.rows c.loop-line.number
    c.loop-line.invariant.1 c.in-Some-split_once.ensures.0 last (some_bytes c.in-Some-split_once.after.now c.is_empty.result c.is_empty.ensures c.if-is_empty.false)

pub returns-in-Err-Memory-clause-error : goal.returns-in-Err-Memory-clause-error
returns-in-Err-Memory-clause-error c =
    let t = rw c.in-Err-Memory.field-0-is at c.in-Err-Memory.ensures in
    rows_ask c.args.text.now c.loop-line.rest.now c.in-Some-split_once.line.now c.in-Some-split_once.after.now c.loop-line.rows.rows c.loop-line.number t.0
    c.loop-line.invariant.1 c.in-Some-split_once.ensures.0 c.in-Some-split_once.ensures.1 t.1 (row_can c.loop-line.rows t.0 c.loop-line.invariant.0 t.2)

pub returns-in-Err-Fault-clause-error : goal.returns-in-Err-Fault-clause-error
returns-in-Err-Fault-clause-error c =
    let t = rw c.in-Err-Fault.field-0-is at c.in-Err-Fault.ensures in
    rows_bad c.args.text.now c.loop-line.rest.now c.in-Some-split_once.line.now c.in-Some-split_once.after.now c.loop-line.rows.rows c.loop-line.number
    c.loop-line.invariant.1 c.in-Some-split_once.ensures.0
    (other_word c.in-Some-split_once.line.now c.as_slice-in-Some-split_once.result.now (codes "end") c.if-eq.ensures c.as_slice-in-Some-split_once.ensures)
    (λ row s. row_known c.loop-line.rows row c.loop-line.invariant.0 (t row s))

pub loop-line-preserved : goal.loop-line-preserved
loop-line-preserved c =
    more_taken c.args.text.now c.loop-line.rest.now c.in-Some-split_once.line.now c.in-Some-split_once.after.now c.loop-line.rows c.take_row.new.rows c.loop-line.number
    c.loop-line.invariant.0 c.loop-line.invariant.1 c.in-Some-split_once.ensures.0 c.in-Some-split_once.ensures.1 c.in-Ok.ensures

pub returns-clause-error : goal.returns-clause-error
returns-clause-error c =
    rows_short c.args.text.now c.loop-line.rest.now c.loop-line.rows.rows c.loop-line.number c.loop-line.invariant.1 c.in_default-split_once.ensures
