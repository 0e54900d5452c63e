use Rattle.apply_plan.specs.DirectLemmas.{each_lowers, each_waits_for_less, few_left}
use Rattle.apply_plan.proofs.laws.directly.Goals as goal

pub returns : goal.returns
returns c = record { lowers = each_lowers; each = each_waits_for_less; few = few_left }
