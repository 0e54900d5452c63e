use Rattle.certificate.proofs.PricesKept.{amount_at, length-prices_of}
use Rattle.std.proofs.Common.{ap, arith, get_or, length, ◌∙◌}
use Rattle.certificate.proofs.price_lists.PriceList.amount.Goals as goal

pub tag-requires : goal.tag-requires
tag-requires c = omega (arith, length-prices_of c.self.inside.sets, ap length c.self.view_is)

pub returns : goal.returns
returns c = λ d.
    amount_at c.self.inside.sets c.args.at c.tag.result d (omega (arith, length-prices_of c.self.inside.sets, ap length c.self.view_is)) c.tag.ensures
    ∙ ap (λ prices. (get_or prices c.args.at d).amount) c.self.view_is
