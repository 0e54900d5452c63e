-- Numbers of a set that are cut out of the ranges of another, in rising order.
use Rattle.cpu_set.specs.Ids.{Ids}
use Rattle.cpu_set.specs.Members.{InRange, IsCpu}
use Rattle.std.specs.Prelude.{ℕ, List, ◌≡◌, ◌+◌, ◌<◌, ◌≤◌, true, false, not}
use Rattle.std.specs.FinSet as set
use Rattle.tagged_sets.specs.Tagged.{set_of_ranges}

-- the numbers of the ranges that the set lacks
abbrev pub left_of : List (ℕ × ℕ) → Ids → Ids
left_of ranges s = set.difference (set_of_ranges ranges) s

-- the set has no number from one up to below the first, and each from there up to below the end
pub record IsRun (s : Ids) (from first end : ℕ) : Type 0 where
  pub none : (q : ℕ) → from ≤ q → q < first → set.contains s q ≡ false
  pub each : (q : ℕ) → first ≤ q → q < end → IsCpu q → set.contains s q ≡ true
  pub rising : first < end

-- t has the numbers of a range that s lacks, and not the one behind the range
pub record IsCut (t s : Ids) (first last : ℕ) : Type 0 where
  pub in_range : InRange t
  pub inside : (q : ℕ) → first ≤ q → q ≤ last → set.contains t q ≡ not (set.contains s q)
  pub behind : set.contains t (last + 1) ≡ false
