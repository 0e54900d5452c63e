use Rattle.std.proofs.Common.{arith}
use Rattle.certificate_text.proofs.Decimals.{below, not_below, none_below}
use Rattle.certificate_text.proofs.decimal.read_below.Goals as goal

pub returns-in_err-number : goal.returns-in_err-number
returns-in_err-number c = rw c.from_residual.ensures (none_below c.args.limit c.args.word.now (omega arith) c.in_err-number.ensures)

pub returns-then-number-limit : goal.returns-then-number-limit
returns-then-number-limit c = below c.args.limit c.in_ok-number.number c.args.word.now c.in_ok-number.ensures (omega arith)

pub returns-else-number-limit : goal.returns-else-number-limit
returns-else-number-limit c = not_below c.args.limit c.in_ok-number.number c.args.word.now (omega arith) c.in_ok-number.ensures (omega arith)
