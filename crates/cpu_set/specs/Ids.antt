-- A set of CPU or node numbers, as contracts see it: a finite set of numbers.
use Rattle.std.specs.Prelude.{◌≡◌, ℕ, ◌<◌, ◌≤◌, Bool, true, false, ◌==◌, ◌&&◌}
use Rattle.std.specs.Ordering.{nat_cmp}
use Rattle.std.specs.FinSet as set
use Rattle.std.specs.Coded.{Coded, coded_ℕ}

-- a set of CPU or node numbers: the standard library's finite set
abbrev pub Ids : Type 0
Ids = set.FinSet nat_cmp

abbrev pub ids_code : Coded Ids
ids_code = set.code coded_ℕ

-- the set has no number
abbrev pub is_empty : Ids → Bool
is_empty s = set.len s == 0

-- no number is in both sets
abbrev pub IsDisjoint : Ids → Ids → Type 0
IsDisjoint s t = (n : ℕ) → set.contains s n ≡ true → set.contains t n ≡ true → ⊥

-- no member is at or above `from`
abbrev pub NoneFrom : Ids → ℕ → Type 0
NoneFrom s from = (n : ℕ) → from ≤ n → set.contains s n ≡ false

-- n is the least member at or above `from`
pub record IsFirstFrom (s : Ids) (from n : ℕ) : Type 0 where
  pub above : from ≤ n
  pub member : set.contains s n ≡ true
  pub least : (k : ℕ) → from ≤ k → k < n → set.contains s k ≡ false

-- n is the greatest member
pub record IsLast (s : Ids) (n : ℕ) : Type 0 where
  pub member : set.contains s n ≡ true
  pub most : (k : ℕ) → set.contains s k ≡ true → k ≤ n

-- each set is within the other
abbrev pub is_same : Ids → Ids → Bool
is_same s t = set.is_subset s t && set.is_subset t s
