use Rattle.std.proofs.Common.{sym, ap, ◌∙◌}
use Rattle.std.specs.Prelude.{cond}
use Rattle.std.specs.FinSet as set
use Rattle.apply_plan.specs.OverviewLemmas.{free_together}
use Rattle.apply_plan.proofs.taking.is_free.Goals as goal

pub returns : goal.returns
returns g c =
    let k = g.K.Kernel.state c.args.kernel.now in
    let e = c.args.entry.now in
    c.is_subset.ensures
    ∙ ap (λ s. set.is_subset s c.args.reserved.now) (c.meet.ensures ∙ (λ i. set.intersection (c.minus-lacking.ensures i) (c.others.ensures i))
    ∙ (λ i. set.intersection (set.difference e.target (c.requested.ensures i)) (cond e.pinned (c.requires.seen.held i) (c.requires.seen.pinned i))))
    ∙ sym (free_together k c.args.reserved.now c.args.entries.now e)
