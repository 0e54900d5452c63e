use Rattle.std.proofs.Common.{ℕ, ◌<◌, ◌≤◌, get_or}
use Rattle.rows.proofs.chains.Chains.farthest.Given as goal

-- none of the nodes before this one is farther
abbrev pub invariant-loop-node : goal.invariant-loop-node
invariant-loop-node l = record {
  below : l.farthest < 255;
  most : (k : ℕ) → k < l.node → get_or l.self.weights k 255 < 255 → get_or l.self.weights k 255 ≤ l.farthest;
}
