use Rattle.std.proofs.Common.{ap, ◌∙◌}
use Rattle.certificate.specs.PricesView.{PricesView}
use Rattle.certificate.proofs.LimitFacts.{limit_facts}
use Rattle.certificate.proofs.costs.proved_cost.Goals as goal

pub worth-requires-clause-few : goal.worth-requires-clause-few
worth-requires-clause-few c = (limit_facts _ _ _ c.requires.2.limits).few

pub worth-requires-clause-fit : goal.worth-requires-clause-fit
worth-requires-clause-fit c = (limit_facts _ _ _ c.requires.2.limits).rows_are

pub worth-requires-clause-values : goal.worth-requires-clause-values
worth-requires-clause-values c = rw (c.as_slice-values.ensures.value ∙ ap (λ (p : PricesView). p.values) c.prices.view_is) (limit_facts _ _ _ c.requires.2.limits).values_are

pub worth-requires-clause-same : goal.worth-requires-clause-same
worth-requires-clause-same c = rw (c.as_slice-values.ensures.value ∙ ap (λ (p : PricesView). p.values) c.prices.view_is) (limit_facts _ _ _ c.requires.2.limits).same_values

pub price_sum-requires : goal.price_sum-requires
price_sum-requires c = rw (ap (λ (p : PricesView). p.of_cpu) c.prices.view_is) (limit_facts _ _ _ c.requires.2.limits).prices_are
