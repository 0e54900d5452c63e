-- The one spelling of a set of numbers as a list: rising ranges as long as possible, and no blanks.
-- From: cpuset(7), as the kernel prints lists.
use Rattle.std.specs.Prelude.{◌≡◌, ℕ, ◌==◌, if◌then◌else◌, List, ◌∷◌, ◌++◌, map, decimal}
use Rattle.std.specs.FinSet as set
use Rattle.std.specs.List.{join_with_byte}
use Rattle.cpu_set.specs.Ids.{Ids}
use Rattle.cpu_set.specs.Members.{members}
use Rattle.cpu_set.specs.Ranges.{ranges_of, AreRuns, in_ranges}
use Rattle.cpu_list.specs.ListText.{comma, hyphen}

-- one number, or the first and the last of several with a hyphen between
abbrev pub range_text : ℕ × ℕ → List ℕ
range_text r = if r.0 == r.1 then decimal r.0 else decimal r.0 ++ hyphen ∷ decimal r.1

-- the ranges with commas between
abbrev pub ranges_text : List (ℕ × ℕ) → List ℕ
ranges_text ranges = join_with_byte comma (map range_text ranges)

-- the one spelling of a set: its rising ranges, each as long as possible
unfoldable pub list_text : Ids → List ℕ
list_text s = ranges_text (ranges_of (members s))

-- the text is that of rising ranges which neither touch nor overlap, and which have the members of the set and no other number
pub record IsCanonical (text : List ℕ) (s : Ids) : Type 0 where
  pub ranges : List (ℕ × ℕ)
  pub rising : AreRuns 0 ranges
  pub same : (n : ℕ) → set.contains s n ≡ in_ranges ranges n
  pub spelled : text ≡ ranges_text ranges
