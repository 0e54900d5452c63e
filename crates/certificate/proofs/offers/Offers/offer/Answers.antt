use Rattle.certificate.proofs.OffersKept.{length-as_offers, offer_at}
use Rattle.certificate.specs.declared.rows.Offer.{Offer}
use Rattle.std.proofs.Common.{ap, arith, get_or, length, ◌∙◌}
use Rattle.certificate.proofs.offers.Offers.offer.Goals as goal

pub tag-requires : goal.tag-requires
tag-requires c = omega (arith, length-as_offers c.self.inside.sets, ap length c.self.view_is)

pub cpus-requires : goal.cpus-requires
cpus-requires c = omega (arith, length-as_offers c.self.inside.sets, ap length c.self.view_is)

pub returns : goal.returns
returns c =
    let o : Offer = record { weight = c.tag.result; cpus = c.cpus.result } in
    offer_at c.self.inside.sets c.args.at o (omega (arith, length-as_offers c.self.inside.sets, ap length c.self.view_is)) c.tag.ensures c.cpus.ensures
    ∙ ap (λ offers. get_or offers c.args.at o) c.self.view_is
