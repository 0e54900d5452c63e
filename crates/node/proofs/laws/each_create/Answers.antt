use Rattle.node.proofs.LateLemmas.{places_fail_late}
use Rattle.node.proofs.MakingLemmas.{places_are_calls, places_stay_safe}
use Rattle.node.proofs.laws.each_create.Goals as goal

pub returns : goal.returns
returns c = record { single = places_are_calls; safe = places_stay_safe; late = places_fail_late }
