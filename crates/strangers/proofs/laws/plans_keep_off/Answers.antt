use Rattle.runtime.specs.Found.{IsSeen}
use Rattle.strangers.proofs.KeptOffLemmas.{plans_keep_off, rebalances_away_are_told, requests_keep_off, strangers_stay}
use Rattle.strangers.proofs.laws.plans_keep_off.Goals as goal

pub returns : goal.returns
returns g c = record {
  plans = plans_keep_off (IsSeen g.B.Bundles.finds);
  requests = requests_keep_off (IsSeen g.B.Bundles.finds) c.cpu_lines.ensures c.runs.ensures.keep c.standing_plans.ensures.stands;
  stay = strangers_stay (IsSeen g.B.Bundles.finds);
  rebalances = rebalances_away_are_told (IsSeen g.B.Bundles.finds) c.cpu_lines.ensures c.runs.ensures.keep c.each_rebalance.ensures;
}
