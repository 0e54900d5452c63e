use Rattle.std.proofs.Common.{◌≡◌, false, sym, ap, subst, ◌∙◌}
use Rattle.std.proofs.lemmas.Bool.{both_ways, not-true}
use Rattle.cpu_set.specs.Ids.{is_empty}
use Rattle.cpu_set.specs.PointwiseLaws.{is_same_decides}
use Rattle.apply_plan.specs.Kept.{kept}
use Rattle.apply_plan.specs.KeptLemmas.{kept_target}
use Rattle.cpu_set.specs.SetLaws.{is_empty-some}
use Rattle.apply_plan.proofs.scan.holds_target.Goals as goal

pub returns-then-eq : goal.returns-then-eq
returns-then-eq c = λ yes reserved.
    let same : c.args.held.now ≡ c.args.target.now = (is_same_decides _ _).0 (sym c.eq.ensures ∙ c.if-eq.true) in
    let some : is_empty c.args.held.now ≡ false = is_empty-some _ (λ e. both_ways c.is_empty.result (not-true _ yes) (c.is_empty.ensures.1 e)) in
    ap (kept reserved c.args.target.now) same ∙ kept_target reserved c.args.target.now (subst (λ s. is_empty s ≡ false) same some) ∙ sym same
