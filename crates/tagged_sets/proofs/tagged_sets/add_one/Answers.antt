use Rattle.cpu_set.specs.PointwiseLaws.{contains-union}
use Rattle.std.proofs.Common.{ap, arith, get_or, subst, sym, ◌||◌, ◌∙◌}
use Rattle.std.specs.FinSet as set
use Rattle.tagged_sets.specs.Tagged.{IsWideOf, tagged}
use Rattle.tagged_sets.proofs.tagged_sets.add_one.Goals as goal

pub returns-then-set-at : goal.returns-then-set-at
returns-then-set-at g c = λ d n.
    let sets = tagged c.sets.inside.ranges.items 0 c.sets.inside.heads.items in
    let w = c.index-set.result.now in
    let is : IsWideOf sets w =
    subst (IsWideOf sets) (sym c.index-set.ensures) (c.sets.invariant.1 c.args.kept w (omega (arith, c.len.ensures, c.if-kept-len.true))) in
    ap (λ s. set.contains s n) c.union.ensures ∙ contains-union c.args.all.now w.cpus n
    ∙ ap (λ s. set.contains c.args.all.now n || set.contains s n)
    (is.1 d ∙ ap (λ k. (get_or sets k d).1) c.if-set-at.true ∙ ap (λ all. (get_or all c.args.at d).1) c.sets.view_is)
