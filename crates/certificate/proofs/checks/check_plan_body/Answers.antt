use Rattle.std.proofs.Common.{◌≡◌, Bool, true, List, ap, sym, ◌∙◌}
use Rattle.std.proofs.lemmas.Result.{err_from_is_err_and}
use Rattle.cpu_set.specs.Ids.{Ids}
use Rattle.certificate.specs.RowView.{RowView}
use Rattle.certificate.specs.PricesView.{PricesView}
use Rattle.certificate.specs.Limits.{is_within_limits}
use Rattle.certificate.proofs.LimitFacts.{AreWithin, limit_facts}
use Rattle.certificate.proofs.Exact.{rows_fault-says, apart_fault-says, values_fault-says}
use Rattle.certificate.proofs.Causes.{twice_cause, values_cause}
use Rattle.certificate.proofs.checks.check_plan_body.Goals as goal

facts_of :
    {rows : List RowView} {sets : List Ids} {prices : PricesView} {b : Bool} → b ≡ is_within_limits rows sets prices → b ≡ true
    → AreWithin rows sets prices
facts_of {rows} {sets} {prices} is within = limit_facts rows sets prices (sym is ∙ within)

pub check_rows-requires : goal.check_rows-requires
check_rows-requires c = (facts_of c.is_within_limits.ensures c.if-not-is_within_limits.false).same_sets

pub check_values-requires-clause-prices_fit : goal.check_values-requires-clause-prices_fit
check_values-requires-clause-prices_fit c =
    rw (ap (λ (p : PricesView). p.of_cpu) c.prices.view_is)
    (facts_of c.is_within_limits.ensures c.if-not-is_within_limits.false).prices_are

pub price_sum-requires : goal.price_sum-requires
price_sum-requires c =
    rw (ap (λ (p : PricesView). p.of_cpu) c.prices.view_is)
    (facts_of c.is_within_limits.ensures c.if-not-is_within_limits.false).prices_are

pub check_values-requires-clause-fit : goal.check_values-requires-clause-fit
check_values-requires-clause-fit c = (facts_of c.is_within_limits.ensures c.if-not-is_within_limits.false).rows_are

pub check_values-requires-clause-same : goal.check_values-requires-clause-same
check_values-requires-clause-same c =
    rw (c.as_slice-values.ensures.value ∙ ap (λ (p : PricesView). p.values) c.prices.view_is)
    (facts_of c.is_within_limits.ensures c.if-not-is_within_limits.false).same_values

pub plan_cost-total-requires-clause-few : goal.plan_cost-total-requires-clause-few
plan_cost-total-requires-clause-few c = (facts_of c.is_within_limits.ensures c.if-not-is_within_limits.false).few

pub plan_cost-total-requires-clause-fit : goal.plan_cost-total-requires-clause-fit
plan_cost-total-requires-clause-fit c = (facts_of c.is_within_limits.ensures c.if-not-is_within_limits.false).rows_are

pub plan_cost-total-requires-clause-same : goal.plan_cost-total-requires-clause-same
plan_cost-total-requires-clause-same c = (facts_of c.is_within_limits.ensures c.if-not-is_within_limits.false).same_sets

pub worth-requires-clause-few : goal.worth-requires-clause-few
worth-requires-clause-few c = (facts_of c.is_within_limits.ensures c.if-not-is_within_limits.false).few

pub worth-requires-clause-fit : goal.worth-requires-clause-fit
worth-requires-clause-fit c = (facts_of c.is_within_limits.ensures c.if-not-is_within_limits.false).rows_are

pub worth-requires-clause-values : goal.worth-requires-clause-values
worth-requires-clause-values c =
    rw (c.as_slice-values.ensures.value ∙ ap (λ (p : PricesView). p.values) c.prices.view_is)
    (facts_of c.is_within_limits.ensures c.if-not-is_within_limits.false).values_are

pub worth-requires-clause-same : goal.worth-requires-clause-same
worth-requires-clause-same c =
    rw (c.as_slice-values.ensures.value ∙ ap (λ (p : PricesView). p.values) c.prices.view_is)
    (facts_of c.is_within_limits.ensures c.if-not-is_within_limits.false).same_values

pub returns-in_err-check_apart-clause-cause : goal.returns-in_err-check_apart-clause-cause
returns-in_err-check_apart-clause-cause c =
    let limits = sym c.is_within_limits.ensures ∙ c.if-not-is_within_limits.false in
    let facts = facts_of c.is_within_limits.ensures c.if-not-is_within_limits.false in
    let p = err_from_is_err_and c.from_residual-in_err-check_apart.result c.from_residual-in_err-check_apart.ensures.1 in
    rw (p.1, p.2)
    (twice_cause c.args.rows.now c.args.sets.now c.args.prices.now _ limits c.in_ok-check_rows.ensures.in_range
    (rows_fault-says c.args.rows.now c.args.sets.now facts.same_sets c.in_ok-check_rows.ensures.in_range c.in_ok-check_rows.ensures.fault)
    c.in_err-check_apart.ensures)

pub returns-in_err-check_values-clause-cause : goal.returns-in_err-check_values-clause-cause
returns-in_err-check_values-clause-cause c =
    let limits = sym c.is_within_limits.ensures ∙ c.if-not-is_within_limits.false in
    let facts = facts_of c.is_within_limits.ensures c.if-not-is_within_limits.false in
    let p = err_from_is_err_and c.from_residual-in_err-check_values.result c.from_residual-in_err-check_values.ensures.1 in
    rw (p.1, p.2)
    (values_cause c.args.rows.now c.args.sets.now c.args.prices.now _ limits
    (record {
      met = rows_fault-says c.args.rows.now c.args.sets.now facts.same_sets c.in_ok-check_rows.ensures.in_range c.in_ok-check_rows.ensures.fault;
      apart = apart_fault-says c.args.sets.now c.in_ok-check_rows.ensures.in_range c.in_ok-check_apart.ensures;
    })
    (rw (c.as_slice-values.ensures.value ∙ ap (λ (p : PricesView). p.values) c.prices.view_is, ap (λ (p : PricesView). p.of_cpu) c.prices.view_is) at c.in_err-check_values.ensures))

pub returns-then-worth-total-clause-cause : goal.returns-then-worth-total-clause-cause
returns-then-worth-total-clause-cause c =
    let facts = facts_of c.is_within_limits.ensures c.if-not-is_within_limits.false in
    let values = c.as_slice-values.ensures.value ∙ ap (λ (p : PricesView). p.values) c.prices.view_is in
    let of_cpu = ap (λ (p : PricesView). p.of_cpu) c.prices.view_is in (
      sym c.is_within_limits.ensures ∙ c.if-not-is_within_limits.false,
      record {
        met = rows_fault-says c.args.rows.now c.args.sets.now facts.same_sets c.in_ok-check_rows.ensures.in_range c.in_ok-check_rows.ensures.fault;
        apart = apart_fault-says c.args.sets.now c.in_ok-check_rows.ensures.in_range c.in_ok-check_apart.ensures;
      },
      values_fault-says c.args.rows.now c.args.prices.now.values c.args.prices.now.of_cpu facts.same_values (rw (values, of_cpu) at c.in_ok-check_values.ensures),
      λ tight. c.if-worth-total.true (cc (c.worth.ensures, tight, c.plan_cost-total.ensures.cost, c.price_sum.ensures.sum, values, of_cpu)),
    )
