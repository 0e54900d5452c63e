use Rattle.apply_plan.specs.HandoverLemmas.{at_most_two}
use Rattle.apply_plan.specs.RunLemmas.{stays_safe, stays_between, ends_within}
use Rattle.apply_plan.proofs.laws.runs.Goals as goal

pub returns : goal.returns
returns c = record { safe = stays_safe; between = stays_between; ends = ends_within; few = at_most_two }
