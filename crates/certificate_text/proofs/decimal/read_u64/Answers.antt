use Rattle.std.proofs.Common.{◌<◌, length, arith}
use Rattle.certificate_text.proofs.Decimals.{writes_number, no_number, one_more, all_read}
use Rattle.certificate_text.proofs.decimal.read_u64.Goals as goal

pub returns-then-is_empty : goal.returns-then-is_empty
returns-then-is_empty c = λ n h. let facts = writes_number c.args.word.now n h in grind arith

pub returns-then-word-gt1 : goal.returns-then-word-gt1
returns-then-word-gt1 c = λ n h. let facts = writes_number c.args.word.now n h in omega arith

pub returns-in_err-number : goal.returns-in_err-number
returns-in_err-number c =
    rw c.from_residual.ensures (no_number c.args.word.now c.loop-digit.digit-index c.loop-digit.number (omega arith) c.loop-digit.invariant.1 c.in_err-number.ensures)

pub loop-digit-preserved : goal.loop-digit-preserved
loop-digit-preserved c =
    let next = one_more c.args.word.now c.loop-digit.digit-index c.loop-digit.number c.in_ok-number.number (omega arith) c.loop-digit.invariant.0
    c.loop-digit.invariant.1 c.in_ok-number.ensures in
    (next.0, next.1, next.2)

pub returns : goal.returns
returns c =
    let some : 0 < length c.args.word.now = grind arith in
    all_read c.args.word.now c.loop-digit.digit-index c.loop-digit.number (omega arith) some (λ e. omega arith)
    c.loop-digit.invariant.0 c.loop-digit.invariant.1 c.loop-digit.invariant.2
