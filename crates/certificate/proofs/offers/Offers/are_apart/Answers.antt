use Rattle.certificate.proofs.OffersKept.{apart_is}
use Rattle.certificate.specs.Limits.{are_apart}
use Rattle.certificate.specs.declared.rows.Offer.{Offer}
use Rattle.std.proofs.Common.{ap, ◌∙◌}
use Rattle.certificate.proofs.offers.Offers.are_apart.Goals as goal

pub returns : goal.returns
returns c = c.are_apart.ensures ∙ apart_is c.self.inside.sets ∙ ap (are_apart (λ (o : Offer). o.cpus)) c.self.view_is
