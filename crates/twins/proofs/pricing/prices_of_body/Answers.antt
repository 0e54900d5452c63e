use Rattle.std.proofs.Common.{get_or, take, sym, ap, ◌∙◌, arith, take_all}
use Rattle.twins.specs.IsPriced.{class_prices, with_price}
use Rattle.twins.proofs.ClassPrices.{class_prices_more}
use Rattle.twins.proofs.pricing.prices_of_body.Goals as goal

pub loop-g-preserved : goal.loop-g-preserved
loop-g-preserved c =
    c.in_ok-add.ensures
    ∙ ap (λ l. with_price l (get_or c.args.prices.now c.loop-g.g 0) c.index-sets-g.result) c.loop-g.invariant
    ∙ sym (class_prices_more c.args.sets.now c.args.prices.now c.loop-g.g c.index-sets-g.result c.loop-g-test.true (omega (arith, c.loop-g-test.true, c.requires)) c.index-sets-g.is)

pub returns : goal.returns
returns c =
    c.loop-g.invariant
    ∙ ap (λ sets. class_prices sets (take c.loop-g.g c.args.prices.now)) (take_all c.loop-g.g c.args.sets.now c.loop-g-test.false)
    ∙ ap (class_prices c.args.sets.now) (take_all c.loop-g.g c.args.prices.now (omega (arith, c.loop-g-test.false, c.requires)))
