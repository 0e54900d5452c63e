-- Which texts are lists of numbers, and which numbers a list names.
-- From: cpuset(7), List Format, for commas, numbers and ranges. Blanks round an item, empty items, leading zeros, and items
-- in any order, repeated or overlapping, are ours.
use Rattle.std.specs.Prelude.{◌≡◌, ℕ, ◌+◌, ◌-◌, ◌<◌, ◌≤◌, Bool, true, false, ◌&&◌, ◌||◌, ◌⊎◌, ◌==◌, nat_lt, nat_le, if◌then◌else◌, List, [], length, take, drop, position, Option, Some, None}
use Rattle.std.specs.Char.{is_ascii_digit}
use Rattle.std.specs.FinSet as set
use Rattle.std.specs.List.{slice_split, prefix_len, suffix_len, list_any, list_all, AllByRecursion}
use Rattle.std.specs.Option.{option_zip}
use Rattle.std.specs.Ordering.{nat_cmp}
use Rattle.std.specs.Str.Parse.{digits_value}

-- what stands between items, and between the two numbers of a range
abbrev pub comma : ℕ
comma = 44

abbrev pub hyphen : ℕ
hyphen = 45

abbrev pub is_comma : ℕ → Bool
is_comma b = b == comma

abbrev pub is_hyphen : ℕ → Bool
is_hyphen b = b == hyphen

-- a space, a tab or a line feed
abbrev pub is_blank : ℕ → Bool
is_blank b = b == 32 || (b == 9 || b == 10)

-- what stands between the commas
abbrev pub pieces : List ℕ → List (List ℕ)
pieces text = slice_split is_comma text

-- how many blanks stand before an item's first byte
abbrev pub leading_blanks : List ℕ → ℕ
leading_blanks piece = prefix_len is_blank piece

-- without the blanks at its end
abbrev pub trim_end : List ℕ → List ℕ
trim_end piece = take (length piece - suffix_len is_blank piece) piece

-- the item of a piece: without the blanks round it
unfoldable pub item_of : List ℕ → List ℕ
item_of piece = trim_end (drop (leading_blanks piece) piece)

-- the number that decimal digits write, one or more of them
unfoldable pub number_of : List ℕ → Option ℕ
number_of digits = if nat_lt 0 (length digits) && list_all is_ascii_digit digits then Some (digits_value 10 digits) else None

-- one number, or two round the hyphen at this place
abbrev pub range_round : List ℕ → Option ℕ → Option (ℕ × ℕ)
range_round item None = option_zip (number_of item) (number_of item)
range_round item (Some at) = option_zip (number_of (take at item)) (number_of (drop (at + 1) item))

-- the first and the last number of an item, where it is a number or a range
unfoldable pub range_of : List ℕ → Option (ℕ × ℕ)
range_of item = range_round item (position is_hyphen item)

-- an empty item, a number below the limit, or a range that ends below the limit and doesn't descend
abbrev pub IsItem : ℕ → List ℕ → Type 0
IsItem limit item = (item ≡ []) ⊎ ((first last : ℕ) × (range_of item ≡ Some (first, last)) × (first ≤ last) × (last < limit))

-- each item of the text may stand in a list under the limit
abbrev pub IsList : ℕ → List ℕ → Type 0
IsList limit text = AllByRecursion (λ piece. IsItem limit (item_of piece)) (pieces text)

-- n is a number of this range
abbrev pub range_names : Option (ℕ × ℕ) → ℕ → Bool
range_names None n = false
range_names (Some r) n = nat_le r.0 n && nat_le n r.1

abbrev pub piece_names : ℕ → List ℕ → Bool
piece_names n piece = range_names (range_of (item_of piece)) n

-- n is a number or in a range of the text
abbrev pub names : List ℕ → ℕ → Bool
names text n = list_any (piece_names n) (pieces text)

-- the set has the numbers that the items of the text name, and no other
abbrev pub IsSetOf : List ℕ → set.FinSet nat_cmp → Type 0
IsSetOf text s = (n : ℕ) → set.contains s n ≡ names text n

-- a list under a limit names numbers below it alone
abbrev pub ListIsBelow : Type 0
ListIsBelow = (limit : ℕ) (text : List ℕ) (n : ℕ) → IsList limit text → names text n ≡ true → n < limit
