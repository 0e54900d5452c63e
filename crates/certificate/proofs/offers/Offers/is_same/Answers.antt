use Rattle.certificate.proofs.OffersKept.{offers_once}
use Rattle.certificate.specs.OffersOf.{as_offers}
use Rattle.std.proofs.Common.{ap, sym, ◌∙◌}
use Rattle.certificate.proofs.offers.Offers.is_same.Goals as goal

pub returns : goal.returns
returns c = (
  λ t. sym c.self.view_is ∙ ap as_offers (c.is_same.ensures.0 t) ∙ c.other.view_is,
  λ e. c.is_same.ensures.1 (offers_once c.self.inside.sets c.other.inside.sets (c.self.view_is ∙ e ∙ sym c.other.view_is)),
)
