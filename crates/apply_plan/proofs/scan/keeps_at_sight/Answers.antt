use Rattle.std.proofs.Common.{◌≡◌, sym, ap, ◌∙◌}
use Rattle.std.proofs.lemmas.Bool.{both_ways, not-true}
use Rattle.cpu_set.specs.PointwiseLaws.{is_same_decides}
use Rattle.apply_plan.specs.Kept.{kept}
use Rattle.apply_plan.specs.KeptLemmas.{kept_part, kept_reserved}
use Rattle.cpu_set.specs.SetLaws.{is_empty-some}
use Rattle.apply_plan.proofs.scan.keeps_at_sight.Goals as goal

pub returns-then-eq : goal.returns-then-eq
returns-then-eq c = λ _.
    let same : c.args.held.now ≡ c.args.reserved.now = (is_same_decides _ _).0 (sym c.eq.ensures ∙ c.if-eq.true) in
    ap (kept c.args.reserved.now c.args.target.now) same ∙ kept_reserved c.args.reserved.now c.args.target.now ∙ sym same

pub returns-then-is_subset : goal.returns-then-is_subset
returns-then-is_subset c = λ yes.
    kept_part c.args.reserved.now c.args.target.now c.args.held.now (sym c.is_subset.ensures ∙ c.if-is_subset.true)
    (is_empty-some _ (λ e. both_ways c.is_empty.result (not-true _ yes) (c.is_empty.ensures.1 e)))
