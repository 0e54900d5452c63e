-- What a word tells of a set: its members among the 64 numbers of its place.
use Rattle.std.proofs.Common.{◌≡◌, ℕ, ◌+◌, ◌*◌, ◌/◌, ◌%◌, ◌^◌, ◌<◌, ◌≤◌, ◌==◌, Bool, true, false, not, ◌&&◌, List, get_or, refl, sym, ap, ◌∙◌, arith}
use Rattle.std.specs.Prelude.{bit_and}
use Rattle.std.specs.Int.{bit_at, bit_not, trailing_zeros, w64}
use Rattle.std.specs.FinSet as finset
use Rattle.cpu_set.specs.Ids.{Ids, IsFirstFrom, NoneFrom}
use Rattle.cpu_set.specs.PointwiseLaws.{contains-intersection, contains-difference}
use Rattle.cpu_set.specs.Word.{NoBitFrom, IsFirstBit}
use Rattle.cpu_set.specs.WordLaws.{contains-set_of_words}
use Rattle.cpu_set.specs.Words.{AreWords, set_of_words}
use Rattle.cpu_set.specs.WordSets.{AreWithin}
use Rattle.cpu_set.specs.declared.id_set.TheConstants.{WORDS}
use Rattle.cpu_set.proofs.Bits.{bit-and}
use Rattle.cpu_set.proofs.Combined.{without-IsBitwise}
use Rattle.cpu_set.proofs.Finding.{IsFirstBit-start, IsFirstBit-whole, NoBitFrom-start, NoBitFrom-zero, NoneBetween, none-past}

-- the numbers of a place are in the set where their bits are set
abbrev pub Tells : ℕ → ℕ → Ids → Type 0
Tells word k s = (q : ℕ) → q / 64 ≡ k → (bit_at word (q % 64) == 1) ≡ finset.contains s q

pub tells_common : (a b k : ℕ) (s t : Ids) → Tells a k s → Tells b k t → Tells (bit_and a b) k (finset.intersection s t)
tells_common a b k s t of_s of_t q here =
    bit-and a b (q % 64) ∙ (λ i. of_s q here i && of_t q here i) ∙ sym (contains-intersection s t q)

pub tells_outside :
    (a b k : ℕ) (s t : Ids) → a < 2 ^ 64 → b < 2 ^ 64 → Tells a k s → Tells b k t → Tells (bit_and a (bit_not w64 b)) k (finset.difference s t)
tells_outside a b k s t fits_a fits_b of_s of_t q here =
    without-IsBitwise.bits a b (q % 64) fits_a fits_b (omega arith) ∙ (λ i. of_s q here i && not (of_t q here i)) ∙ sym (contains-difference s t q)

unset : (b : ℕ) (has : Bool) → (b == 1) ≡ has → b ≡ 0 → has ≡ false
unset b has e none = sym e ∙ ap (λ v. v == 1) none

-- no member is among the numbers of a place from one of them on
pub none_told : (word from k : ℕ) (s : Ids) → Tells word k s → from / 64 ≡ k → NoBitFrom word (from % 64) → NoneBetween s from ((k + 1) * 64)
none_told word from k s tells at none q le lt = unset _ _ (tells q (omega (arith, le, lt, at))) (none (q % 64) (omega (arith, le, lt, at)))

-- the first of them from one on
pub first_told : (word from k i : ℕ) (s : Ids) → Tells word k s → from / 64 ≡ k → IsFirstBit word (from % 64) i → IsFirstFrom s from (k * 64 + i)
first_told word from k i s tells at is =
    let low : from % 64 ≤ i = is.above in
    let high : i < 64 = is.below in
    record {
      above = omega arith;
      member = sym (tells (k * 64 + i) (omega arith)) ∙ ap (λ v. bit_at word v == 1) (omega arith) ∙ ap (λ v. v == 1) is.is_set;
      least = λ q le lt. unset _ _ (tells q (omega (arith, le, lt, at))) (is.least (q % 64) (omega (arith, le, lt, at)) (omega (arith, le, lt, at)));
    }

-- the same from the start of the place on, and for a word as it is
pub none_told_whole : (word k : ℕ) (s : Ids) → Tells word k s → word ≡ 0 → NoneBetween s (k * 64) ((k + 1) * 64)
none_told_whole word k s tells none = none_told word (k * 64) k s tells (omega arith) (NoBitFrom-start word k (NoBitFrom-zero word none))

pub first_told_whole :
    (word k : ℕ) (s : Ids) → Tells word k s → word < 2 ^ 64 → 0 < word → IsFirstFrom s (k * 64) (k * 64 + trailing_zeros w64 word)
first_told_whole word k s tells fits some = first_told word (k * 64) k _ s tells (omega arith) (IsFirstBit-start word _ k (IsFirstBit-whole word fits some))

pub tells_words : (words : List ℕ) (k : ℕ) (s : Ids) → AreWords words → set_of_words words ≡ s → Tells (get_or words k 0) k s
tells_words words k s are is q here =
    ap (λ j. bit_at (get_or words j 0) (q % 64) == 1) (sym here) ∙ sym (contains-set_of_words words are q) ∙ ap (λ t. finset.contains t q) is

-- the words of one set without those of another tell the numbers of the one alone
pub tells_words_outside :
    (words others : List ℕ) (k : ℕ) (s t : Ids) → AreWords words → AreWords others → set_of_words words ≡ s → set_of_words others ≡ t
    → Tells (bit_and (get_or words k 0) (bit_not w64 (get_or others k 0))) k (finset.difference s t)
tells_words_outside words others k s t are are_others is is_others =
    tells_outside _ _ k s t (are.fit k) (are_others.fit k) (tells_words words k s are is) (tells_words others k t are_others is_others)

gone : (has in' : Bool) → has ≡ false → (has && not in') ≡ false
gone has in' e = ap (λ b. b && not in') e

pub none_outside_past : (words : List ℕ) (s t : Ids) (upto : ℕ) → AreWords words → set_of_words words ≡ s → WORDS * 64 ≤ upto → NoneFrom (finset.difference s t) upto
none_outside_past words s t upto are is past q le =
    contains-difference s t q ∙ gone _ _ (ap (λ x. finset.contains x q) (sym is) ∙ none-past words upto are past q le)

-- what both have lies where the one has its numbers
common_none : (has in' : Bool) → (has ≡ true → ⊥) → (has && in') ≡ false
common_none true in' never = absurd (never refl)
common_none false in' never = refl

pub none_common_below : (from upto : ℕ) (s t : Ids) → AreWithin from upto s → NoneBetween (finset.intersection s t) 0 (from * 64)
none_common_below from upto s t within q le lt =
    contains-intersection s t q ∙ common_none _ _ (λ (has : finset.contains s q ≡ true). omega (arith, lt, (within.within q has).0))

pub none_common_past : (from upto k : ℕ) (s t : Ids) → AreWithin from upto s → upto ≤ k → NoneFrom (finset.intersection s t) (k * 64)
none_common_past from upto k s t within past q le =
    contains-intersection s t q ∙ common_none _ _ (λ (has : finset.contains s q ≡ true). omega (arith, le, past, (within.within q has).1))
