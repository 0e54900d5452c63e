-- The first member from a place on, found word by word.
use Rattle.std.proofs.Common.{◌≡◌, ℕ, ◌+◌, ◌*◌, ◌/◌, ◌%◌, ◌^◌, ◌<◌, ◌≤◌, ◌==◌, false, List, length, get_or, Option, Some, None, MatchOption, refl, ap, ◌∙◌, inl, inr, arith}
use Rattle.std.proofs.lemmas.Bool.{cases_lt}
use Rattle.std.proofs.lemmas.Nat.Bits.{bit_at-zero, bit_at-trailing_zeros}
use Rattle.std.specs.Int.{bit_at, w64, trailing_zeros}
use Rattle.std.specs.FinSet as finset
use Rattle.cpu_set.specs.Ids.{Ids, NoneFrom, IsFirstFrom}
use Rattle.cpu_set.specs.Word.{NoBitFrom, IsFirstBit}
use Rattle.cpu_set.specs.Words.{set_of_words, AreWords}
use Rattle.cpu_set.specs.WordLaws.{contains-set_of_words, has_bit-past, has_bit-at}
use Rattle.cpu_set.specs.declared.id_set.TheConstants.{WORDS}

-- no member stands between two places
abbrev pub NoneBetween : Ids → ℕ → ℕ → Type 0
NoneBetween s from upto = (q : ℕ) → from ≤ q → q < upto → finset.contains s q ≡ false

between : (s : Ids) (from middle q : ℕ) → NoneBetween s from middle → from ≤ q → (middle ≤ q → finset.contains s q ≡ false) → finset.contains s q ≡ false
between s from middle q low le high = elim (cases_lt q middle) [ inl lt ↦ low q le lt | inr more ↦ high more ]

pub IsFirstFrom-lower : (s : Ids) (from middle n : ℕ) → from ≤ middle → NoneBetween s from middle → IsFirstFrom s middle n → IsFirstFrom s from n
IsFirstFrom-lower s from middle n le none is =
    let above : middle ≤ n = is.above in
    record {
      above = omega arith;
      member = is.member;
      least = λ k from_k lt. between s from middle k none from_k (λ more. is.least k more lt);
    }

pub NoneFrom-lower : (s : Ids) (from middle : ℕ) → NoneBetween s from middle → NoneFrom s middle → NoneFrom s from
NoneFrom-lower s from middle none above q le = between s from middle q none le (above q)

pub first-lower :
    (s : Ids) (from middle : ℕ) (found : Option ℕ) → from ≤ middle → NoneBetween s from middle
    → MatchOption found (NoneFrom s middle) (λ n. IsFirstFrom s middle n) → MatchOption found (NoneFrom s from) (λ n. IsFirstFrom s from n)
first-lower s from middle None le none is = NoneFrom-lower s from middle none is
first-lower s from middle (Some n) le none is = IsFirstFrom-lower s from middle n le none is

unset : (b : ℕ) → b ≡ 0 → (b == 1) ≡ false
unset b e = rw e refl

pub bit_none : (words : List ℕ) (k q : ℕ) → AreWords words → q / 64 ≡ k → bit_at (get_or words k 0) (q % 64) ≡ 0 → finset.contains (set_of_words words) q ≡ false
bit_none words k q are at none =
    contains-set_of_words words are q ∙ unset _ (ap (λ j. bit_at (get_or words j 0) (q % 64)) at ∙ none)

-- no bit of a word from a place on
pub none-in_word :
    (words : List ℕ) (from k : ℕ) → AreWords words → from / 64 ≡ k → NoBitFrom (get_or words k 0) (from % 64)
    → NoneBetween (set_of_words words) from ((k + 1) * 64)
none-in_word words from k are at none q le lt = bit_none words k q are (omega arith) (none (q % 64) (omega arith))

pub NoBitFrom-zero : (word : ℕ) → word ≡ 0 → NoBitFrom word 0
NoBitFrom-zero word e i le = ap (λ v. bit_at v i) e ∙ bit_at-zero i

-- the lowest bit of a word from a place on
pub first-in_word :
    (words : List ℕ) (from k i : ℕ) → AreWords words → from / 64 ≡ k → IsFirstBit (get_or words k 0) (from % 64) i
    → IsFirstFrom (set_of_words words) from (k * 64 + i)
first-in_word words from k i are at is =
    let low : from % 64 ≤ i = is.above in
    let high : i < 64 = is.below in
    record {
      above = omega arith;
      member = contains-set_of_words words are (k * 64 + i) ∙ has_bit-at words k i high ∙ ap (λ v. v == 1) is.is_set;
      least = λ q le lt. bit_none words k q are (omega arith) (is.least (q % 64) (omega arith) (omega arith));
    }

pub IsFirstBit-whole : (word : ℕ) → word < 2 ^ 64 → 0 < word → IsFirstBit word 0 (trailing_zeros w64 word)
IsFirstBit-whole word fits some =
    let z = bit_at-trailing_zeros w64 word some fits in
    record { above = omega arith; below = z.0; is_set = z.1; least = λ i _ lt. z.2 i lt }

-- past the words there is none
pub none-past : (words : List ℕ) (upto : ℕ) → AreWords words → WORDS * 64 ≤ upto → NoneFrom (set_of_words words) upto
none-past words upto are past q le =
    let long : length words ≡ WORDS = are.long in
    contains-set_of_words words are q ∙ has_bit-past words q (omega arith)

pub none-from : (words : List ℕ) (from upto : ℕ) → AreWords words → WORDS * 64 ≤ upto → NoneBetween (set_of_words words) from upto → NoneFrom (set_of_words words) from
none-from words from upto are past none = NoneFrom-lower _ from upto none (none-past words upto are past)

pub NoneBetween-join : (s : Ids) (from middle upto : ℕ) → NoneBetween s from middle → NoneBetween s middle upto → NoneBetween s from upto
NoneBetween-join s from middle upto low high q le lt = between s from middle q low le (λ more. high q more lt)

-- a word read from its start on
pub IsFirstBit-start : (word i k : ℕ) → IsFirstBit word 0 i → IsFirstBit word (k * 64 % 64) i
IsFirstBit-start word i k is = let e : k * 64 % 64 ≡ 0 = omega arith in rw e is

pub NoBitFrom-start : (word k : ℕ) → NoBitFrom word 0 → NoBitFrom word (k * 64 % 64)
NoBitFrom-start word k none = let e : k * 64 % 64 ≡ 0 = omega arith in rw e none
