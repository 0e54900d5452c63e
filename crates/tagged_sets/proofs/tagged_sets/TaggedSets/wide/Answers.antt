use Rattle.std.proofs.Common.{ap, arith, get_or, subst, sym, ◌∙◌}
use Rattle.tagged_sets.specs.Tagged.{IsWideOf, tagged}
use Rattle.tagged_sets.proofs.tagged_sets.TaggedSets.wide.Goals as goal

pub returns-then-kept-at : goal.returns-then-kept-at
returns-then-kept-at g c = λ d.
    let sets = tagged c.self.inside.ranges.items 0 c.self.inside.heads.items in
    let is : IsWideOf sets c.index-kept.result.now =
    subst (IsWideOf sets) (sym c.index-kept.ensures)
    (c.self.invariant.1 c.place_of-place.result c.index-kept.result.now (omega (arith, c.len.ensures, c.self.inside.wide.ok.0))) in
    is.1 d ∙ ap (λ n. (get_or sets n d).1) c.if-kept-at.true ∙ ap (λ all. (get_or all c.args.at d).1) c.self.view_is
