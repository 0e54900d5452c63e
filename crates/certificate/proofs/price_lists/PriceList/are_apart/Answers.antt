use Rattle.certificate.proofs.PricesKept.{apart_is}
use Rattle.certificate.specs.Limits.{are_apart}
use Rattle.certificate.specs.declared.price_lists.Price.{Price}
use Rattle.std.proofs.Common.{ap, ◌∙◌}
use Rattle.certificate.proofs.price_lists.PriceList.are_apart.Goals as goal

pub returns : goal.returns
returns c = c.are_apart.ensures ∙ apart_is c.self.inside.sets ∙ ap (are_apart (λ (o : Price). o.cpus)) c.self.view_is
