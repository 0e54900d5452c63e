-- The bits of a word.
use Rattle.std.specs.Prelude.{◌≡◌, ℕ, ◌<◌, ◌≤◌}
use Rattle.std.specs.Int.{bit_at}

-- no bit is set at or above a place
abbrev pub NoBitFrom : ℕ → ℕ → Type 0
NoBitFrom word from = (i : ℕ) → from ≤ i → bit_at word i ≡ 0

-- the lowest bit that is set at or above a place
pub record IsFirstBit (word from at : ℕ) : Type 0 where
  pub above : from ≤ at
  pub below : at < 64
  pub is_set : bit_at word at ≡ 1
  pub least : (i : ℕ) → from ≤ i → i < at → bit_at word i ≡ 0
