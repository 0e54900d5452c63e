use Rattle.certificate.proofs.OffersKept.{length-as_offers}
use Rattle.std.proofs.Common.{ap, length, sym, ◌∙◌}
use Rattle.certificate.proofs.offers.Offers.len.Goals as goal

pub returns : goal.returns
returns c = c.len.ensures ∙ sym (length-as_offers c.self.inside.sets) ∙ ap length c.self.view_is
