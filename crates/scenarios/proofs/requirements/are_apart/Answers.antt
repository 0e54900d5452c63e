use Rattle.scenarios.proofs.ConditionLemmas.{free_is_apart}
use Rattle.scenarios.proofs.requirements.are_apart.Goals as goal

pub loop-rest-init : goal.loop-rest-init
loop-rest-init c = rw (c.empty-any.ensures, c.empty-pinned.ensures) (free_is_apart c.args.reserved.now c.args.entries.now)
