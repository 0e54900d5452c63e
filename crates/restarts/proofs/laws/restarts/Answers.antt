use Rattle.restarts.proofs.TakingLemmas.{tries_restart, none_is_refused, only_pinned_since, rebalances_go_on}
use Rattle.restarts.proofs.laws.restarts.Goals as goal

pub returns : goal.returns
returns c = record {
  leaves = tries_restart c.runs.ensures.keep c.booted_nodes.ensures;
  none = none_is_refused c.runs.ensures.keep c.booted_nodes.ensures c.each_create.ensures.late;
  pinned = only_pinned_since c.runs.ensures.keep c.booted_nodes.ensures;
  goes_on = rebalances_go_on c.runs.ensures.keep c.booted_nodes.ensures c.each_rebalance.ensures;
}
