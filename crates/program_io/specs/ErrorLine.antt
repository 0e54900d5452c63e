-- The line that standard error gets of something that is wrong.
-- From: UTF-8's control characters below 160; the line is ours.
use Rattle.std.specs.Prelude.{ℕ, ◌/◌, ◌%◌, ◌==◌, ◌&&◌, ◌||◌, Bool, nat_le, nat_lt, if◌then◌else◌, List, [], ◌∷◌, ◌++◌, codes, decimal, get_or}

-- the control characters of ASCII
abbrev pub is_control : ℕ → Bool
is_control b = nat_lt b 32 || b == 127

-- in UTF-8 the control characters behind those of ASCII are this byte and one of these
abbrev pub is_lead : ℕ → Bool
is_lead b = b == 194

abbrev pub is_behind_lead : ℕ → Bool
is_behind_lead b = nat_le 128 b && nat_le b 159

abbrev pub hex_digit : ℕ → List ℕ
hex_digit n = get_or (codes "0123456789abcdef") n 0 ∷ []

-- a control character by its number
abbrev pub control_text : ℕ → List ℕ
control_text b = codes "\\x" ++ (hex_digit (b / 16) ++ hex_digit (b % 16))

-- a byte between others, as a terminal is shown it
abbrev pub shown_byte : (before b next : ℕ) → List ℕ
shown_byte before b next =
    if is_lead b && is_behind_lead next
    then []
    else (if is_control b || (is_lead before && is_behind_lead b) then control_text b else b ∷ [])

abbrev pub shown_behind : ℕ → List ℕ → List ℕ
shown_behind before [] = []
shown_behind before (b ∷ rest) = shown_byte before b (get_or rest 0 0) ++ shown_behind b rest

-- a name, with each control character by its number, so that a terminal does nothing but show it
abbrev pub shown_name : List ℕ → List ℕ
shown_name name = shown_behind 0 name

-- a name that is empty stands between quotation marks
abbrev pub called_name : List ℕ → List ℕ
called_name [] = codes "\"\""
called_name name = shown_name name

-- the line that standard error gets of something that is wrong: what it is of, and what is wrong with it
abbrev pub error_line : List ℕ → List ℕ → List ℕ
error_line of wrong = codes "error: " ++ (called_name of ++ (codes ": " ++ (wrong ++ codes "\n")))

-- the same of a text, and at which line and column
abbrev pub error_at : List ℕ → List ℕ → (line column : ℕ) → List ℕ
error_at of wrong line column =
    codes "error: " ++ (called_name of ++ (codes ": " ++ (wrong ++ (codes ", line " ++ (decimal line ++ (codes " column " ++ (decimal column ++ codes "\n")))))))
