use Rattle.cpu_set.specs.Ranges.{in_ranges}
use Rattle.std.proofs.Common.{◌≡◌, ℕ, ◌<◌, ◌≤◌, false, true, take}
use Rattle.std.specs.FinSet as set
use Rattle.rows.proofs.parts.have_none.Given as goal

-- no CPU of the ranges before this one is held, and none of the gap is
abbrev pub invariant-loop-range : goal.invariant-loop-range
invariant-loop-range l = record {
  before : (n : ℕ) → in_ranges (take l.range-index l.ranges) n ≡ true → set.contains l.held n ≡ false;
  gap : (n : ℕ) → l.gap.first ≤ n → n < l.gap.next → set.contains l.held n ≡ false;
}
