use Rattle.std.proofs.Common.{ap, ◌∙◌}
use Rattle.std.specs.FinSet as set
use Rattle.apply_plan.specs.FirstHolderLemmas.{next_is}
use Rattle.apply_plan.proofs.rings.next_of.Goals as goal

pub returns : goal.returns
returns g c =
    next_is (g.K.Kernel.state c.args.kernel.now) c.args.reserved.now c.args.entries.now c.args.entry.now c.args.seen.now c.args.places.now c.requires.firsts
    c.meet-held.result c.least_place.result
    (c.meet-held.ensures ∙ ap (λ s. set.intersection s c.args.seen.now) (c.minus-lacking.ensures ∙ ap (set.difference c.args.entry.now.target) c.requested.ensures))
    c.least_place.ensures
