use Rattle.std.proofs.Common.{◌≡◌, ℕ, ◌<◌}
use Rattle.transport.specs.Numbers.{number}
use Rattle.transport.specs.Scans.{arc_at}
use Rattle.transport.proofs.arcs.skip_full.Given as goal

abbrev pub invariant-loop-at : goal.invariant-loop-at
invariant-loop-at l = (i : ℕ) → i < l.at → number l.residual (arc_at l.arcs i).class ≡ 0
