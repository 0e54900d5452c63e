use Rattle.std.proofs.Common.{◌≡◌, ℕ, ◌<◌}
use Rattle.transport.specs.Numbers.{number}
use Rattle.transport.specs.Shares.{holders_of}
use Rattle.transport.proofs.assignment.give.Given as goal

abbrev pub invariant-loop-at : goal.invariant-loop-at
invariant-loop-at l = record {
  same : l.shares.items ≡ l.initial.shares.items;
  seen : (i : ℕ) → i < l.at → number (holders_of l.shares.items) i ≡ l.row → ⊥;
}
