-- A set kept as words of 64 bits: number n is bit n % 64 of word n / 64.
use Rattle.std.specs.Prelude.{◌≡◌, ℕ, ◌+◌, ◌*◌, ◌/◌, ◌%◌, ◌^◌, ◌<◌, ◌==◌, Bool, List, map, length, slice_index_or}
use Rattle.std.specs.Int.{bit_at}
use Rattle.std.specs.List.{range_with_len}
use Rattle.std.specs.Simd.Lanes.{mask_l}
use Rattle.std.specs.FinSet as set
use Rattle.cpu_set.specs.Ids.{Ids}
use Rattle.cpu_set.specs.Those.{those}
use Rattle.cpu_set.specs.declared.TheConstants.{CPU_LIMIT}
use Rattle.cpu_set.specs.declared.id_set.TheConstants.{WORDS}

-- the number's bit is set
abbrev pub has_bit : List ℕ → ℕ → Bool
has_bit words n = bit_at (slice_index_or words (n / 64) 0) (n % 64) == 1

-- the numbers whose bit is set
abbrev pub set_of_words : List ℕ → Ids
set_of_words words = those (has_bit words) CPU_LIMIT

-- as many words as there are, each of 64 bits
pub record AreWords (words : List ℕ) : Type 0 where
  pub long : length words ≡ WORDS
  pub fit : (k : ℕ) → slice_index_or words k 0 < 2 ^ 64

-- the number whose lowest n bits are set where they pass
unfoldable pub word_of : (ℕ → Bool) → ℕ → ℕ
word_of p n = mask_l (map p (range_with_len 0 n))

-- n words, whose bits are set where the numbers are in the set
unfoldable pub words_below : Ids → ℕ → List ℕ
words_below s n = map (λ k. word_of (λ i. set.contains s (k * 64 + i)) 64) (range_with_len 0 n)

abbrev pub words_of_set : Ids → List ℕ
words_of_set s = words_below s WORDS
