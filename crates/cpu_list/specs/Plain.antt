-- An item without blanks, that is read as it goes.
use Rattle.std.specs.Prelude.{◌≡◌, ℕ, ◌≤◌, min, true, List, length, take, Some}
use Rattle.std.specs.Char.{is_ascii_digit}
use Rattle.std.specs.List.{list_all, before_first}
use Rattle.std.specs.Str.Parse.{digits_value}
use Rattle.cpu_list.specs.ListText.{is_comma, item_of, range_of}

-- the first bytes are digits, and write this number, or one that is not below the limit
pub record IsFront (text : List ℕ) (limit number count : ℕ) : Type 0 where
  pub within : count ≤ length text
  pub all_digits : list_all is_ascii_digit (take count text) ≡ true
  pub capped : number ≡ min limit (digits_value 10 (take count text))

-- the first item has this length and names this range
pub record IsPlain (text : List ℕ) (first last long : ℕ) : Type 0 where
  pub long_is : long ≡ length (before_first is_comma text)
  pub range_is : range_of (item_of (before_first is_comma text)) ≡ Some (first, last)
