use Rattle.certificate.proofs.TooHigh.{either_and, least_of_either, least_same}
use Rattle.certificate.specs.Lesser.{lesser}
use Rattle.cpu_set.specs.LeastLaws.{least-none}
use Rattle.cpu_set.specs.Ranges.{in_ranges}
use Rattle.std.proofs.Common.{ap, get_or, nat_le, nat_lt, refl, sym, take, ℕ, ◌&&◌, ◌∙◌}
use Rattle.std.proofs.lemmas.List.Folds.{list_any_more}
use Rattle.certificate.proofs.value_checks.first_cheaper.Goals as goal

pub loop-range-init : goal.loop-range-init
loop-range-init c = sym (least-none _ (λ q is_cpu. refl))

pub loop-range-preserved : goal.loop-range-preserved
loop-range-preserved c =
    let r : ℕ × ℕ = get_or c.args.ranges.now c.loop-range.range-index (0, 0) in
    c.lesser-least.ensures
    ∙ ap (λ m. lesser m c.first_in_range.result) c.loop-range.invariant
    ∙ ap (lesser _) c.first_in_range.ensures
    ∙ sym (least_of_either _ (λ q. (nat_le r.0 q && nat_le q r.1) && nat_lt (get_or c.args.amounts.now q 0) c.args.amount))
    ∙ least_same _ _ (λ q.
    sym (either_and (in_ranges (take c.loop-range.range-index c.args.ranges.now) q) (nat_le r.0 q && nat_le q r.1) (nat_lt (get_or c.args.amounts.now q 0) c.args.amount))
    ∙ ap (λ b. b && nat_lt (get_or c.args.amounts.now q 0) c.args.amount)
    (sym (list_any_more (λ (p : ℕ × ℕ). nat_le p.0 q && nat_le q p.1) c.args.ranges.now c.loop-range.range-index (0, 0) c.loop-range-test.true)))
