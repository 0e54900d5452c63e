use Rattle.std.proofs.Common.{◌∙◌, ap, length, arith}
use Rattle.twins.specs.PriceLaws.{prices_some}
use Rattle.network_simplex.proofs.proposal.checked.Goals as goal

pub returns-in-Ok : goal.returns-in-Ok
returns-in-Ok c = record {
  proved = c.in-Ok.ensures.proved;
  least = c.in-Ok.ensures.least;
  dealt = c.deals_of_twins_are_dealt.ensures _ _ _ _ c.requires c.in_ok-deal.ensures.dealt;
  by_class = record {
    classes = c.args.classes.now;
    grouping = c.requires;
    amounts = c.deref-3.result.now;
    as_many = omega (arith, c.if-len-sets.false, c.len.ensures, ap length c.deref-3.ensures.value, ap length (c.as_slice-sets.ensures.value ∙ c.classes.view_is));
    its = c.in_ok-prices_of.ensures;
  };
  some = rw c.in_ok-prices_of.ensures (prices_some c.args.classes.now c.deref-3.result.now c.requires.not_empty);
}
