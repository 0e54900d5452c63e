use Rattle.std.proofs.Common.{sym, ap, ◌∙◌}
use Rattle.std.proofs.lemmas.Bool.{not-true}
use Rattle.std.specs.FinSet as set
use Rattle.direct_finish.specs.SeenLemmas.{held_up_by}
use Rattle.direct_finish.proofs.calm.lacks_held.Goals as goal

pub returns : goal.returns
returns g c = λ t.
    let k = g.K.Kernel.state c.args.kernel.now in
    let e = c.args.entry.now in
    held_up_by k c.args.reserved.now c.args.entries.now e c.args.held.now c.requires.pinned c.requires.held
    (ap (λ s. set.is_subset (set.intersection (set.difference e.target s) c.args.held.now) c.args.reserved.now) (sym c.requested.ensures)
    ∙ ap (λ s. set.is_subset (set.intersection s c.args.held.now) c.args.reserved.now) (sym c.minus-lacks.ensures)
    ∙ ap (λ s. set.is_subset s c.args.reserved.now) (sym c.meet.ensures) ∙ sym c.is_subset.ensures ∙ not-true c.is_subset.result t)
