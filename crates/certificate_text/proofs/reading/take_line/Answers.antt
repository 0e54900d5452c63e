use Rattle.std.proofs.Common.{refl}
use Rattle.certificate_text.specs.LineRead.{line_view}
use Rattle.certificate_text.proofs.Taking.{line_taken}
use Rattle.certificate_text.proofs.reading.take_line.Goals as goal

pub returns-in-Ok : goal.returns-in-Ok
returns-in-Ok c =
    line_taken c.take.result c.args.draft.now c.take.new.self c.args.line.now (line_view c.in-Ok.said) c.take.ensures c.in-Ok.ensures.ok

pub returns-in-Err-Fault : goal.returns-in-Err-Fault
returns-in-Err-Fault c = λ l s. absurd ((rw c.in-Err-Fault.field-0-is at c.in-Err-Fault.ensures.bad) _ refl l s)
