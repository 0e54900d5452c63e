use Rattle.certificate.proofs.OffersKept.{weighed}
use Rattle.certificate.specs.Weight.{weight_in}
use Rattle.std.proofs.Common.{ap, ◌∙◌}
use Rattle.std.specs.Prelude.{is_some}
use Rattle.certificate.proofs.offers.Offers.cpus.Goals as goal

pub returns : goal.returns
returns c = λ q. c.all.ensures q ∙ weighed c.self.inside.sets q ∙ ap (λ offers. is_some (weight_in offers q)) c.self.view_is
