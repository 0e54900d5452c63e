-- A set of numbers that all lie in one word.
use Rattle.std.specs.Prelude.{◌≡◌, ℕ, ◌/◌, ◌<◌, ◌≤◌, ◌^◌, true, replicate, slice_set}
use Rattle.std.specs.FinSet as set
use Rattle.cpu_set.specs.Ids.{Ids}
use Rattle.cpu_set.specs.Words.{set_of_words}
use Rattle.cpu_set.specs.declared.id_set.TheConstants.{WORDS}

-- the numbers whose bit is set in the word at this place
abbrev pub set_of_word : ℕ → ℕ → Ids
set_of_word at bits = set_of_words (slice_set (replicate WORDS 0) at bits)

-- a word of 64 bits, at a place where there is one
pub record IsWordSet (at bits : ℕ) : Type 0 where
  pub within : at < WORDS
  pub fits : bits < 2 ^ 64

-- each number of the set lies in a word from a first one up to before another, of those that there are
pub record AreWithin (from upto : ℕ) (s : Ids) : Type 0 where
  pub end : upto ≤ WORDS
  pub within : (n : ℕ) → set.contains s n ≡ true → (from ≤ n / 64) × (n / 64 < upto)
