use Rattle.std.proofs.Common.{ℕ, ◌<◌}
use Rattle.blame.specs.Shrinking.{IsMarkedShortage, IsSettled}
use Rattle.blame.proofs.shrinking.try_each.Given as goal

abbrev pub invariant-loop-row : goal.invariant-loop-row
invariant-loop-row l = record {
  marked : IsMarkedShortage l.rows l.marked;
  settled : (k : ℕ) → k < l.row → IsSettled l.marked k;
}
