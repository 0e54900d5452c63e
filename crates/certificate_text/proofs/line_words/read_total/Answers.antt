use Rattle.certificate_text.proofs.Totals.{only_moves, only_plain}
use Rattle.certificate_text.proofs.line_words.read_total.Goals as goal

pub returns-in_err-total-in-Some : goal.returns-in_err-total-in-Some
returns-in_err-total-in-Some c =
    rw c.from_residual.ensures (only_moves c.args.text.now c.in-Some.field-0.0.now c.in-Some.field-0.1.now c.in-Some.ensures.0 c.in_err-total-in-Some.ensures)

pub returns-in_err-total-in-None : goal.returns-in_err-total-in-None
returns-in_err-total-in-None c = rw c.from_residual-in_err-total-in-None.ensures (only_plain c.args.text.now c.in-None.ensures c.in_err-total-in-None.ensures)
