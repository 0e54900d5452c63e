use Rattle.std.proofs.Common.{cond, get_or, ap, ◌∙◌, arith}
use Rattle.certificate.proofs.Noting.{range_end}
use Rattle.certificate.proofs.amounts.note_range.Goals as goal

pub returns-clause-noted : goal.returns-clause-noted
returns-clause-noted c = λ q d lt.
    c.loop-at.invariant.noted q d lt
    ∙ ap (λ b. cond b c.args.amount (get_or c.args.amounts.now q d))
    (range_end c.args.first c.args.last c.loop-at.at q (omega (arith, c.loop-at-test.false)) c.loop-at.invariant.some c.loop-at.invariant.none)
