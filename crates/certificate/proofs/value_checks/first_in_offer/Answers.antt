use Rattle.certificate.proofs.TooHigh.{none_below}
use Rattle.certificate.proofs.TooHigh.{least_among, less_than_the_rest}
use Rattle.certificate.specs.Price.{price}
use Rattle.certificate.specs.declared.rows.Offer.{Offer}
use Rattle.cpu_set.specs.LeastLaws.{least-none}
use Rattle.std.proofs.Common.{ap, arith, get_or, nat_lt, sym, ◌&&◌, ◌-◌, ◌∙◌, ◌≡◌, ◌≤◌}
use Rattle.std.specs.FinSet as set
use Rattle.certificate.proofs.value_checks.first_in_offer.Goals as goal

pub returns-then-value-weight : goal.returns-then-value-weight
returns-then-value-weight c = λ prices d are.
    let low : c.args.value ≤ (get_or c.args.offers.now c.args.at d).weight = omega (arith, c.from-weight.ensures, c.weight.ensures d, c.if-value-weight.true) in
    sym (least-none _ (λ q is_cpu. none_below (set.contains (get_or c.args.offers.now c.args.at d).cpus q) (get_or c.args.offers.now c.args.at d).weight (price prices q) c.args.value low))

pub first_cheaper-requires : goal.first_cheaper-requires
first_cheaper-requires c = record { below = c.ranges-cpus.ensures.below; long = c.requires.long }

pub returns : goal.returns
returns c = λ prices d are.
    let o : Offer = get_or c.args.offers.now c.args.at d in
    let weighs : c.from-weight.result ≡ o.weight = c.from-weight.ensures ∙ c.weight.ensures d in
    c.first_cheaper.ensures
    ∙ least_among _ _ (λ q is_cpu.
    ap (λ b. b && nat_lt (get_or c.args.amounts.now q 0) (c.args.value - c.from-weight.result)) (c.ranges-cpus.ensures.members d q)
    ∙ ap (λ p. set.contains o.cpus q && nat_lt p (c.args.value - c.from-weight.result)) (are.each q 0 is_cpu)
    ∙ ap (λ n. set.contains o.cpus q && nat_lt (price prices q) (c.args.value - n)) weighs
    ∙ less_than_the_rest o.weight (price prices q) c.args.value (set.contains o.cpus q) (omega (arith, c.if-value-weight.false, weighs)))
