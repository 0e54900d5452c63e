use Rattle.certificate.proofs.PricesKept.{length-prices_of}
use Rattle.std.proofs.Common.{ap, length, sym, ◌∙◌}
use Rattle.certificate.proofs.price_lists.PriceList.len.Goals as goal

pub returns : goal.returns
returns c = c.len.ensures ∙ sym (length-prices_of c.self.inside.sets) ∙ ap length c.self.view_is
