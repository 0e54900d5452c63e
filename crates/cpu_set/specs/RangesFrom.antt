-- The ranges of a set that are left, while they are taken one after another.
use Rattle.std.specs.Prelude.{◌≡◌, ℕ, ◌+◌, ◌-◌, ◌≤◌, true, false, List, [], filter, Option, Some, None, IfSome}
use Rattle.std.specs.FinSet as set
use Rattle.std.specs.List.{range_with_len}
use Rattle.cpu_set.specs.Ids.{Ids}
use Rattle.cpu_set.specs.Members.{IsCpu, IsComplement}
use Rattle.cpu_set.specs.Ranges.{ranges_of}
use Rattle.cpu_set.specs.declared.TheConstants.{CPU_LIMIT}

-- the ranges of the members at or above a number
unfoldable pub ranges_from : Ids → ℕ → List (ℕ × ℕ)
ranges_from s n = ranges_of (filter (set.contains s) (range_with_len n (CPU_LIMIT - n)))

-- the ranges from the next member on, if there is one
abbrev pub ranges_left : Ids → Option ℕ → List (ℕ × ℕ)
ranges_left s None = []
ranges_left s (Some n) = ranges_from s n

-- `last` ends the range of members that begins at `first`
pub record IsRangeOf (s : Ids) (first last : ℕ) : Type 0 where
  pub rising : first ≤ last
  pub in_range : IsCpu last
  pub whole : (n : ℕ) → first ≤ n → n ≤ last → set.contains s n ≡ true
  pub longest : IsCpu (last + 1) → set.contains s (last + 1) ≡ false

-- the next range begins at a member, and the numbers that the set lacks are known
pub record AreLeft (s absent : Ids) (next : Option ℕ) : Type 0 where
  pub lacks : IsComplement s absent
  pub in_range : IfSome next IsCpu
  pub member : IfSome next (λ n. set.contains s n ≡ true)
