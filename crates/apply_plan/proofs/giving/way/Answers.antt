use Rattle.std.proofs.Common.{sym, ◌∙◌}
use Rattle.std.specs.Prelude.{cond}
use Rattle.std.specs.FinSet as set
use Rattle.apply_plan.specs.DueWrite.{held}
use Rattle.apply_plan.proofs.giving.way.Goals as goal

pub returns : goal.returns
returns g c =
    let k = g.K.Kernel.state c.args.kernel.now in
    let reserved = c.args.reserved.now in
    let e = c.args.entry.now in
    c.union.ensures ∙ (λ i. set.union (c.minus-stays.ensures i) (c.minus-2.ensures i))
    ∙ (λ i. set.union (set.difference (c.requested.ensures i) (c.minus.ensures i)) (set.difference e.target (c.others.ensures i)))
    ∙ (λ i. set.union (set.difference (held k e) (set.difference (c.asks.ensures i) reserved)) (set.difference e.target (cond e.pinned c.args.seen.now.held c.args.seen.now.pinned)))
    ∙ sym c.requires.tells.on_way
