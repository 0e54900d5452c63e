use Rattle.apply_plan.specs.EffectLemmas.{targets_take_effect, safe_in_effect}
use Rattle.apply_plan.proofs.laws.effects.Goals as goal

pub returns : goal.returns
returns c = record { targets = targets_take_effect; safe = safe_in_effect }
