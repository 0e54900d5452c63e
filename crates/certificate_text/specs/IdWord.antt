-- The rule for ids: 1 to 64 bytes of ASCII letters, digits, `_`, `-`, `.` and `+`, and neither `.` nor `..`.
use Rattle.std.specs.Prelude.{◌≡◌, ◌≢◌, ℕ, ◌<◌, ◌≤◌, Bool, true, ◌||◌, ◌==◌, List, length, codes}
use Rattle.std.specs.Char.{is_ascii_alphanumeric}
use Rattle.std.specs.List.{list_all}
use Rattle.certificate_text.specs.declared.id.TheConstants.{ID_LIMIT}

-- a letter, a digit, `_`, `-`, `.` or `+`
abbrev pub is_id_letter : ℕ → Bool
is_id_letter b = is_ascii_alphanumeric b || (b == 95 || (b == 45 || (b == 46 || b == 43)))

-- the word is an id: 1 to 64 bytes of ASCII letters, digits, `_`, `-`, `.` and `+`, and neither `.` nor `..`
pub record IsId (word : List ℕ) : Type 0 where
  pub some : 0 < length word
  pub short : length word ≤ ID_LIMIT
  pub bytes : list_all is_id_letter word ≡ true
  pub not_here : word ≢ codes "."
  pub not_up : word ≢ codes ".."
