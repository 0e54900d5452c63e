use Rattle.node.proofs.RewriteLemmas.{updates_are_calls, updates_stay_safe, updates_fail}
use Rattle.node.proofs.laws.each_update.Goals as goal

pub returns : goal.returns
returns c = record { single = updates_are_calls; safe = updates_stay_safe; fails = updates_fail }
