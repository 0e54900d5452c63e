use Rattle.std.proofs.Common.{sym, ◌∙◌}
use Rattle.std.specs.Prelude.{cond}
use Rattle.std.specs.FinSet as set
use Rattle.apply_plan.proofs.giving.places.Goals as goal

pub returns : goal.returns
returns g c =
    let reserved = c.args.reserved.now in
    let seen = c.args.seen.now in
    let e = c.args.entry.now in
    c.minus-2.ensures ∙ (λ i. set.difference (c.meet.ensures i) (c.asks.ensures i))
    ∙ (λ i. set.difference (set.intersection c.args.allowed.now (c.minus-spare.ensures i)) (set.difference (cond e.pinned seen.letting seen.moving) e.target))
    ∙ (λ i. set.difference (set.intersection c.args.allowed.now (set.difference (c.minus.ensures i) seen.held)) (set.difference (cond e.pinned seen.letting seen.moving) e.target))
    ∙ (λ i. set.difference (set.intersection c.args.allowed.now (set.difference (set.difference (c.online.ensures i) reserved) seen.held)) (set.difference (cond e.pinned seen.letting seen.moving) e.target))
    ∙ sym (c.requires.tells.in_places c.args.allowed.now)
