use Rattle.node.proofs.OrderLemmas.{both_leave}
use Rattle.apply_plan.specs.EffectLemmas.{safe_in_effect}
use Rattle.node.proofs.FirstLemmas.{first_is_node}
use Rattle.node.proofs.MachineLemmas.{runs_keep, runs_stay_safe, runs_stay_apart, rebalances_are_writes, rebalances_are_steps, direct_writes_keep}
use Rattle.node.proofs.SaidLemmas.{containers_are_said}
use Rattle.node.proofs.laws.runs.Goals as goal

pub returns : goal.returns
returns c = record {
  first = first_is_node;
  keep = runs_keep both_leave;
  safe = runs_stay_safe both_leave;
  apart = runs_stay_apart both_leave safe_in_effect;
  single = rebalances_are_writes both_leave;
  steps = rebalances_are_steps both_leave;
  direct = direct_writes_keep both_leave;
  said = containers_are_said;
}
