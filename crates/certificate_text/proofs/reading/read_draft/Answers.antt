use Rattle.std.proofs.Common.{sym, ◌∙◌}
use Rattle.certificate_text.proofs.BadLines.{read_more, read_bad, read_asks, read_no_feed, read_too_early, read_all, no_bytes, some_bytes}
use Rattle.certificate_text.proofs.Finishing.{complete_from, incomplete_from}
use Rattle.certificate_text.proofs.reading.read_draft.Goals as goal

pub returns-in-Err-Memory-clause-error : goal.returns-in-Err-Memory-clause-error
returns-in-Err-Memory-clause-error c =
    read_asks c.args.text.now c.loop-line.rest.now c.in-Some.line.now c.in-Some.after.now c.loop-line.draft c.loop-line.number c.loop-line.invariant
    c.in-Some.ensures.0 (rw c.in-Err-Memory.field-0-is at c.in-Err-Memory.ensures)

pub returns-in-Err-Fault-clause-error : goal.returns-in-Err-Fault-clause-error
returns-in-Err-Fault-clause-error c =
    read_bad c.args.text.now c.loop-line.rest.now c.in-Some.line.now c.in-Some.after.now c.loop-line.draft c.loop-line.number c.loop-line.invariant
    c.in-Some.ensures.0 (rw c.in-Err-Fault.field-0-is at c.in-Err-Fault.ensures)

pub loop-line-preserved : goal.loop-line-preserved
loop-line-preserved c =
    let taken = c.in-Ok.ensures in
    read_more c.args.text.now c.loop-line.rest.now c.in-Some.line.now c.in-Some.after.now c.loop-line.draft c.take_line.new.draft c.loop-line.number taken.0
    c.loop-line.invariant c.in-Some.ensures.0 c.in-Some.ensures.1 taken.1 taken.2

pub returns-then-not-is_empty-clause-error : goal.returns-then-not-is_empty-clause-error
returns-then-not-is_empty-clause-error c =
    read_no_feed c.args.text.now c.loop-line.rest.now c.loop-line.draft c.loop-line.number c.loop-line.invariant c.in_default.ensures
    (some_bytes c.loop-line.rest.now c.is_empty.result c.is_empty.ensures c.if-not-is_empty.true)

pub returns-then-not-is_complete-clause-error : goal.returns-then-not-is_complete-clause-error
returns-then-not-is_complete-clause-error c =
    read_too_early c.args.text.now c.loop-line.rest.now c.loop-line.draft c.loop-line.number c.loop-line.invariant c.in_default.ensures
    (incomplete_from c.loop-line.draft (sym c.is_complete.ensures ∙ c.if-not-is_complete.true))

pub returns-clause-ok : goal.returns-clause-ok
returns-clause-ok c =
    let done = complete_from c.loop-line.draft (sym c.is_complete.ensures ∙ c.if-not-is_complete.false) in (
      done.0,
      done.1,
      read_all c.args.text.now c.loop-line.rest.now c.loop-line.draft c.loop-line.number done.0 c.loop-line.invariant c.in_default.ensures
          (no_bytes c.loop-line.rest.now c.is_empty.result c.is_empty.ensures c.if-not-is_empty.false) done.1,
    )
