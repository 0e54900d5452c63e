-- A number as a word: its decimal digits, with no leading zero.
use Rattle.std.specs.Prelude.{◌≡◌, ℕ, ◌<◌, List, decimal}

-- the word writes a number below the limit
pub record IsNumber (limit : ℕ) (word : List ℕ) (n : ℕ) : Type 0 where
  pub digits : word ≡ decimal n
  pub fits : n < limit
