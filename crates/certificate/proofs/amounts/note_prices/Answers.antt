use Rattle.std.proofs.Common.{◌<◌, cond, length, get_or, sym, ap, ◌∙◌, arith}
use Rattle.std.specs.FinSet as set
use Rattle.certificate.specs.declared.price_lists.Price.{Price}
use Rattle.certificate.proofs.Elements.{element_at}
use Rattle.certificate.proofs.Noting.{amounts_more}
use Rattle.certificate.proofs.amounts.note_prices.Goals as goal

pub loop-at-preserved : goal.loop-at-preserved
loop-at-preserved c =
    let lt : c.loop-at.at < length c.args.prices.now = omega (arith, c.len-at-end.ensures, c.loop-at-test.true) in
    let e = element_at c.args.prices.now c.loop-at.at lt in
    amounts_more c.args.prices.now c.loop-at.at e.0 _ _ lt e.1 c.requires.fit c.loop-at.invariant c.note_ranges.ensures.long
    (λ q d below. c.note_ranges.ensures.noted q d below
    ∙ ap (λ b. cond b c.amount.result (get_or c.loop-at.amounts q d)) (c.ranges-in-loop-at.ensures.members e.0 q ∙ ap (λ (p : Price). set.contains p.cpus q) (sym e.1))
    ∙ ap (λ n. cond (set.contains e.0.cpus q) n (get_or c.loop-at.amounts q d)) (c.amount.ensures e.0 ∙ ap (λ (p : Price). p.amount) (sym e.1)))
