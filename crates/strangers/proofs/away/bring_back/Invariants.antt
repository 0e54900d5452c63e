use Rattle.std.proofs.Common.{◌≡◌}
use Rattle.strangers.proofs.AwayLemmas.{below}
use Rattle.strangers.specs.Guarded.{back}
use Rattle.strangers.proofs.away.bring_back.Given as goal

-- those below this one are back
abbrev pub invariant-loop-cpu : goal.invariant-loop-cpu
invariant-loop-cpu g l = l.runner ≡ back l.fn.runner (below l.cpus l.cpu)
