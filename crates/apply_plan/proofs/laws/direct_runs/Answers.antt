use Rattle.apply_plan.specs.DirectRunLemmas.{stays_safe_directly, stays_on_way, ends_directly}
use Rattle.apply_plan.proofs.laws.direct_runs.Goals as goal

pub returns : goal.returns
returns c = record { safe = stays_safe_directly; on_way = stays_on_way; ends = ends_directly }
