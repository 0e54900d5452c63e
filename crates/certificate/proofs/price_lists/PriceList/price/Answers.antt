use Rattle.certificate.proofs.PricesKept.{length-prices_of, price_at}
use Rattle.certificate.specs.declared.price_lists.Price.{Price}
use Rattle.std.proofs.Common.{ap, arith, get_or, length, ◌∙◌}
use Rattle.certificate.proofs.price_lists.PriceList.price.Goals as goal

pub tag-requires : goal.tag-requires
tag-requires c = omega (arith, length-prices_of c.self.inside.sets, ap length c.self.view_is)

pub cpus-requires : goal.cpus-requires
cpus-requires c = omega (arith, length-prices_of c.self.inside.sets, ap length c.self.view_is)

pub returns : goal.returns
returns c =
    let o : Price = record { amount = c.tag.result; cpus = c.cpus.result } in
    price_at c.self.inside.sets c.args.at o (omega (arith, length-prices_of c.self.inside.sets, ap length c.self.view_is)) c.tag.ensures c.cpus.ensures
    ∙ ap (λ prices. get_or prices c.args.at o) c.self.view_is
