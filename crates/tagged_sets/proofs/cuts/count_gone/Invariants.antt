use Rattle.cpu_set.specs.Ranges.{in_ranges}
use Rattle.std.proofs.Common.{take, true, ℕ, ◌≡◌}
use Rattle.std.specs.FinSet as set
use Rattle.tagged_sets.proofs.cuts.count_gone.Given as goal

abbrev pub invariant-loop-at : goal.invariant-loop-at
invariant-loop-at l = (q : ℕ) → in_ranges (take l.at l.ranges) q ≡ true → set.contains l.without q ≡ true
