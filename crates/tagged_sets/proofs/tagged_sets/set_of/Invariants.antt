use Rattle.cpu_set.specs.Ranges.{in_ranges}
use Rattle.std.proofs.Common.{take, ℕ, ◌≡◌}
use Rattle.std.specs.FinSet as set
use Rattle.tagged_sets.proofs.tagged_sets.set_of.Given as goal

abbrev pub invariant-loop-range : goal.invariant-loop-range
invariant-loop-range l = (q : ℕ) → set.contains l.cpus q ≡ in_ranges (take l.range-index l.ranges) q
