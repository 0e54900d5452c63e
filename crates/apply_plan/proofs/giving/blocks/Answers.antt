use Rattle.std.proofs.Common.{not, ◌&&◌, sym, ap, ◌∙◌}
use Rattle.std.specs.Prelude.{cond}
use Rattle.std.specs.FinSet as set
use Rattle.apply_plan.specs.DueWrite.{held}
use Rattle.apply_plan.specs.DirectWords.{has_own}
use Rattle.apply_plan.specs.Overviews.{asks_together}
use Rattle.apply_plan.specs.OverviewLemmas.{blocks_together}
use Rattle.apply_plan.specs.TurnLemmas.{is_apart, is_alone}
use Rattle.apply_plan.proofs.giving.blocks.Goals as goal

pub returns-then-first_alive : goal.returns-then-first_alive
returns-then-first_alive g c =
    let k = g.K.Kernel.state c.args.kernel.now in
    let reserved = c.args.reserved.now in
    let entries = c.args.entries.now in
    let e = c.args.entry.now in
    ap not (c.is_subset.ensures ∙ ap (λ s. set.is_subset s reserved) (c.meet.ensures ∙ (λ i. set.intersection (c.requested.ensures i) (c.asks.ensures i))
    ∙ (λ i. set.intersection (held k e) (set.difference (cond e.pinned (c.requires.seen.letting i) (c.requires.seen.moving i)) e.target))))
    ∙ sym (ap (λ b. b && has_own reserved (set.intersection (held k e) (asks_together k reserved entries e))) (sym c.first_alive.ensures ∙ c.if-first_alive.true))
    ∙ sym (blocks_together k reserved entries e (is_apart entries reserved c.requires.valid e c.requires.at) (is_alone entries reserved c.requires.valid e c.requires.at))
