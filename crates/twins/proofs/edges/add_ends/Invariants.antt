use Rattle.cpu_set.specs.Members.{IsCpu}
use Rattle.cpu_set.specs.Ranges.{in_ranges}
use Rattle.std.proofs.Common.{false, take, true, ℕ, ◌+◌, ◌≡◌}
use Rattle.std.specs.FinSet as set
use Rattle.twins.proofs.edges.add_ends.Given as goal

abbrev pub invariant-loop-range : goal.invariant-loop-range
invariant-loop-range l = record {
  kept : (cpu : ℕ) → set.contains l.fn.edges cpu ≡ true → set.contains l.edges cpu ≡ true;
  told : (cpu : ℕ) → IsCpu (cpu + 1) → set.contains l.edges (cpu + 1) ≡ false
      → in_ranges (take l.range-index l.ranges) cpu ≡ in_ranges (take l.range-index l.ranges) (cpu + 1);
}
