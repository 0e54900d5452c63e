-- The last member, found word by word from the end.
use Rattle.std.proofs.Common.{◌≡◌, ℕ, suc, ◌+◌, ◌-◌, ◌*◌, ◌/◌, ◌%◌, ◌^◌, ◌<◌, ◌≤◌, ◌==◌, true, false, List, get_or, sym, ap, ◌∙◌, subst, inl, inr, arith}
use Rattle.std.specs.Int.{bit_at, w64, leading_zeros}
use Rattle.std.specs.FinSet as finset
use Rattle.std.proofs.lemmas.Bool.{cases_lt}
use Rattle.std.proofs.lemmas.Nat.{leading_top}
use Rattle.std.proofs.Math.Nat.{pow-succ'}
use Rattle.std.proofs.lemmas.Nat.Bits.{bit_at_above, bit_at-zero}
use Rattle.cpu_set.specs.Ids.{NoneFrom, IsLast}
use Rattle.cpu_set.specs.Words.{set_of_words, AreWords}
use Rattle.cpu_set.specs.WordLaws.{contains-set_of_words, has_bit-past, has_bit-at}
use Rattle.cpu_set.specs.declared.id_set.TheConstants.{WORDS}
use Rattle.cpu_set.proofs.Finding.{bit_none}

-- the highest bit that is set
pub record IsLastBit (word at : ℕ) : Type 0 where
  pub below : at < 64
  pub is_set : bit_at word at ≡ 1
  pub none : (i : ℕ) → at < i → bit_at word i ≡ 0

quotient : (a p : ℕ) → 0 < p → p ≤ a → a < 2 * p → a / p ≡ 1
quotient a p some low high = grind arith

pub last_bit : (word : ℕ) → 0 < word → word < 2 ^ 64 → IsLastBit word (63 - leading_zeros w64 word)
last_bit word some fits =
    let top = leading_top 64 word some fits in
    let e : 63 - leading_zeros w64 word ≡ top.0 = omega (arith, top.1) in
    subst (IsLastBit word) (sym e) (record {
      below = omega (arith, top.1);
      is_set = one top.0 top.2 top.3;
      none = λ i lt. bit_at_above word (suc top.0) i top.3 (omega (arith, lt));
    })
  where
    twice : (p q : ℕ) → word < q → q ≡ 2 * p → word < 2 * p
    twice p q lt e = omega (arith, lt, e)

    one : (j : ℕ) → 2 ^ j ≤ word → word < 2 ^ suc j → bit_at word j ≡ 1
    one j low high = ap (λ v. v % 2) (quotient word (2 ^ j) (omega (arith, low, some)) low (twice (2 ^ j) (2 ^ suc j) high (pow-succ' 2 j)))

pub none_past_words : (words : List ℕ) (k : ℕ) → AreWords words → k ≡ WORDS → NoneFrom (set_of_words words) (k * 64)
none_past_words words k are e q le = contains-set_of_words words are q ∙ has_bit-past words q (omega (arith, le, e, are.long))

-- a word with no bit more
pub none_in_word : (words : List ℕ) (k : ℕ) → AreWords words → get_or words k 0 ≡ 0 → NoneFrom (set_of_words words) ((k + 1) * 64) → NoneFrom (set_of_words words) (k * 64)
none_in_word words k are zero above q le = elim (cases_lt q ((k + 1) * 64)) [
  | inl lt ↦ bit_none words k q are (omega arith) (ap (λ v. bit_at v (q % 64)) zero ∙ bit_at-zero (q % 64))
  | inr more ↦ above q more
]

pub last_in_word : (words : List ℕ) (k i : ℕ) → AreWords words → IsLastBit (get_or words k 0) i → NoneFrom (set_of_words words) ((k + 1) * 64) → IsLast (set_of_words words) (k * 64 + i)
last_in_word words k i are is above = record {
  member = contains-set_of_words words are (k * 64 + i) ∙ has_bit-at words k i is.below ∙ ap (λ v. v == 1) is.is_set;
  most = λ q on. elim (cases_lt (k * 64 + i) q) [
    | inl lt ↦ absurd (not_on q on (gone q lt))
    | inr le ↦ le
  ];
}
  where
    not_on : (q : ℕ) → finset.contains (set_of_words words) q ≡ true → finset.contains (set_of_words words) q ≡ false → ⊥
    not_on q on off = cc

    gone : (q : ℕ) → k * 64 + i < q → finset.contains (set_of_words words) q ≡ false
    gone q lt = elim (cases_lt q ((k + 1) * 64)) [
      | inl near ↦ bit_none words k q are (omega arith) (is.none (q % 64) (omega arith))
      | inr far ↦ above q far
    ]
