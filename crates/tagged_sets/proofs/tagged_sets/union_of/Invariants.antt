use Rattle.std.proofs.Common.{take, ℕ, ◌≡◌, ◌≤◌}
use Rattle.std.specs.FinSet as set
use Rattle.tagged_sets.specs.Tagged.{in_any}
use Rattle.tagged_sets.proofs.tagged_sets.union_of.Given as goal

abbrev pub invariant-loop-at : goal.invariant-loop-at
invariant-loop-at g l = record {
  all : (q : ℕ) → set.contains l.all q ≡ in_any (take l.at l.sets) q;
  kept : l.kept ≤ l.at;
}
