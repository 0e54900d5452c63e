use Rattle.certificate.proofs.OffersKept.{length-as_offers, weight_at}
use Rattle.std.proofs.Common.{ap, arith, get_or, length, ◌∙◌}
use Rattle.certificate.proofs.offers.Offers.weight.Goals as goal

pub tag-requires : goal.tag-requires
tag-requires c = omega (arith, length-as_offers c.self.inside.sets, ap length c.self.view_is)

pub returns : goal.returns
returns c = λ d.
    weight_at c.self.inside.sets c.args.at c.tag.result d (omega (arith, length-as_offers c.self.inside.sets, ap length c.self.view_is)) c.tag.ensures
    ∙ ap (λ offers. (get_or offers c.args.at d).weight) c.self.view_is
