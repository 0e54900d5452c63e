use Rattle.std.proofs.Common.{Some, ap, ◌∙◌}
use Rattle.std.proofs.lemmas.List.{get_or_default}
use Rattle.certificate.specs.Weight.{weight_in}
use Rattle.certificate.specs.declared.rows.Offer.{Offer}
use Rattle.twins.specs.IsPart.{is_same_weight}
use Rattle.twins.proofs.Weights.{rising_same}
use Rattle.twins.proofs.alike.cpus_of_weight.Goals as goal

pub returns-then-are_rising : goal.returns-then-are_rising
returns-then-are_rising c = λ d q.
    rising_same c.args.offers.now c.args.at c.offer-offer.result q c.requires.there c.offer-offer.ensures c.requires.fit (c.are_rising.ensures.0 c.if-are_rising.true)
    ∙ ap (λ (o : Offer). is_same_weight (Some o.weight) (weight_in c.args.offers.now q))
    (c.offer-offer.ensures ∙ get_or_default c.args.offers.now c.args.at c.offer-offer.result d c.requires.there)
