use Rattle.std.proofs.Common.{◌≡◌}
use Rattle.strangers.proofs.AwayLemmas.{below}
use Rattle.strangers.specs.Guarded.{away, can_leave}
use Rattle.strangers.proofs.away.take_away.Given as goal

-- those below this one that can leave are away
abbrev pub invariant-loop-cpu : goal.invariant-loop-cpu
invariant-loop-cpu g l = l.runner ≡ away l.fn.runner (below (can_leave l.cpus l.fn.runner.node.kernel) l.cpu)
