-- An argument that stands behind a space: a word or a number.
use Rattle.std.specs.Prelude.{ℕ, List, ◌++◌, codes, decimal}

-- a space and a word
abbrev pub word_text : List ℕ → List ℕ
word_text word = codes " " ++ word

-- a space and a number in decimal digits
abbrev pub number_text : ℕ → List ℕ
number_text n = codes " " ++ decimal n
