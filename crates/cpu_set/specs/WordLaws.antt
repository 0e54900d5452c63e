-- A set and its words tell the same.
use Rattle.std.proofs.Common.{◌≡◌, ℕ, ◌+◌, ◌*◌, ◌/◌, ◌%◌, ◌^◌, ◌<◌, ◌≤◌, ◌==◌, Bool, false, cond, ◌&&◌, nat_lt, List, map, length, get_or, refl, sym, ap, ◌∙◌, arith}
use Rattle.std.proofs.lemmas.Bool.Decides.{nat_tests}
use Rattle.std.proofs.lemmas.List.{get_or_past, ext_get_or}
use Rattle.std.proofs.lemmas.List.FromFn.{get_or-map-range_with_len, length-map-range_with_len}
use Rattle.std.proofs.lemmas.Nat.Bits.{bit_at-lt, bit_at-zero, same_from_bits_below}
use Rattle.std.proofs.lemmas.Simd.{mask_l-lt, bit_mask_l}
use Rattle.std.specs.Int.{bit_at}
use Rattle.std.specs.List.{range_with_len}
use Rattle.std.specs.FinSet as set
use Rattle.cpu_set.specs.ThoseLemmas.{contains-those}
use Rattle.cpu_set.specs.Words.{has_bit, set_of_words, AreWords, word_of, words_below, words_of_set}
use Rattle.cpu_set.specs.declared.TheConstants.{CPU_LIMIT}
use Rattle.cpu_set.specs.declared.id_set.TheConstants.{WORDS}

past : (q n : ℕ) (b : Bool) → (n ≤ q → b ≡ false) → (nat_lt q n && b) ≡ b
past q n b f = grind (arith, nat_tests)

unset : (n : ℕ) → n ≡ 0 → (i : ℕ) → (bit_at n i == 1) ≡ false
unset n e i = rw (e, bit_at-zero i) refl

-- no number past the words has a bit
pub has_bit-past : (words : List ℕ) (q : ℕ) → length words ≤ q / 64 → has_bit words q ≡ false
has_bit-past words q le = unset _ (get_or_past words (q / 64) 0 le) (q % 64)

-- a number is in the set where its bit is set
pub contains-set_of_words : (words : List ℕ) → AreWords words → (q : ℕ) → set.contains (set_of_words words) q ≡ has_bit words q
contains-set_of_words words are q =
    let long : length words ≡ WORDS = are.long in
    contains-those (has_bit words) CPU_LIMIT q ∙ past q CPU_LIMIT _ (λ le. has_bit-past words q (omega arith))

-- the bits of a word made of tests
bit-word_of : (p : ℕ → Bool) (n i : ℕ) → i < n → bit_at (word_of p n) i ≡ cond (p i) 1 0
unfolding word_of
bit-word_of p n i lt =
    bit_mask_l (map p (range_with_len 0 n)) i ∙ ap (λ b. cond b 1 0) (get_or-map-range_with_len p 0 n i i false (omega arith) (omega arith))

word_of-lt : (p : ℕ → Bool) (n : ℕ) → word_of p n < 2 ^ n
unfolding word_of
word_of-lt p n = simp length-map-range_with_len at (mask_l-lt (map p (range_with_len 0 n)))

bit_again : (b : ℕ) → b < 2 → cond (b == 1) 1 0 ≡ b
bit_again b lt = grind (arith, nat_tests)

-- a word is made of the tests of its bits
pub word_of-bits : (word n : ℕ) (p : ℕ → Bool) → word < 2 ^ n → ((i : ℕ) → i < n → p i ≡ (bit_at word i == 1)) → word_of p n ≡ word
word_of-bits word n p fits same =
    same_from_bits_below n _ _ (word_of-lt p n) fits
    (λ i lt. bit-word_of p n i lt ∙ ap (λ b. cond b 1 0) (same i lt) ∙ bit_again (bit_at word i) (bit_at-lt word i))

-- number k * 64 + i is bit i of word k
pub has_bit-at : (words : List ℕ) (k i : ℕ) → i < 64 → has_bit words (k * 64 + i) ≡ (bit_at (get_or words k 0) i == 1)
has_bit-at words k i lt =
    let word : (k * 64 + i) / 64 ≡ k = omega arith in
    let bit : (k * 64 + i) % 64 ≡ i = omega arith in
    rw (word, bit) refl

word_again : (words : List ℕ) (k : ℕ) → AreWords words → word_of (λ i. set.contains (set_of_words words) (k * 64 + i)) 64 ≡ get_or words k 0
word_again words k are =
    word_of-bits (get_or words k 0) 64 _ (are.fit k)
    (λ i lt. contains-set_of_words words are (k * 64 + i) ∙ has_bit-at words k i lt)

words_again : (n : ℕ) (words : List ℕ) → n ≡ WORDS → AreWords words → words_below (set_of_words words) n ≡ words
unfolding words_below
words_again n words e are =
    let f : ℕ → ℕ = λ k. word_of (λ i. set.contains (set_of_words words) (k * 64 + i)) 64 in
    let size : length (map f (range_with_len 0 n)) ≡ n = length-map-range_with_len f 0 n in
    ext_get_or 0 _ _ (size ∙ e ∙ sym are.long)
    (λ k lt. get_or-map-range_with_len f 0 n k k 0 (omega arith) (omega arith) ∙ word_again words k are)

-- words are those of their set
pub words_of_set-set_of_words : (words : List ℕ) → AreWords words → words_of_set (set_of_words words) ≡ words
words_of_set-set_of_words words are = words_again WORDS words refl are
