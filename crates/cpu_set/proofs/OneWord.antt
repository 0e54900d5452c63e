-- Sets within one word.
use Rattle.std.proofs.Common.{◌≡◌, ℕ, ◌+◌, ◌*◌, ◌/◌, ◌%◌, ◌^◌, ◌<◌, ◌≤◌, ◌==◌, true, false, ◌-◌, not, ◌&&◌, ◌||◌, Bool, List, length, get_or, set, Option, Some, None, MatchOption, refl, sym, ap, ◌∙◌, subst, inl, inr, arith}
use Rattle.std.specs.Prelude.{bit_and, bit_or, replicate}
use Rattle.std.specs.Int.{bit_at, bit_not, w64, trailing_zeros}
use Rattle.std.specs.Int.Bits.{or_zero_l}
use Rattle.std.specs.FinSet as finset
use Rattle.std.proofs.lemmas.Bool.{cases_lt}
use Rattle.std.proofs.lemmas.Bool.Decides.{nat_tests}
use Rattle.std.proofs.lemmas.List.{get_or-replicate, length-replicate}
use Rattle.std.proofs.lemmas.Nat.Bits.{bit_at-zero}
use Rattle.cpu_set.specs.Ids.{NoneFrom, IsFirstFrom}
use Rattle.cpu_set.specs.PointwiseLaws.{same_members, contains-remove}
use Rattle.cpu_set.specs.Word.{NoBitFrom, IsFirstBit}
use Rattle.cpu_set.specs.Words.{AreWords}
use Rattle.cpu_set.specs.WordSets.{set_of_word, IsWordSet}
use Rattle.cpu_set.specs.WordLaws.{contains-set_of_words}
use Rattle.cpu_set.specs.declared.id_set.TheConstants.{WORDS}
use Rattle.cpu_set.proofs.Bits.{none_shifted, first_shifted}
use Rattle.cpu_set.proofs.Combined.{AreWords-set, has_bit-set, each_word, removed_fits, inserted_fits, inserted_bit, removed_bit, without-IsBitwise}
use Rattle.cpu_set.proofs.Finding.{NoneFrom-lower}

-- no word has a bit
abbrev pub no_words : List ℕ
no_words = replicate WORDS 0

no_words-long : length no_words ≡ WORDS
no_words-long = length-replicate {A = ℕ} WORDS 0

none_at : (k : ℕ) → get_or no_words k 0 ≡ 0
none_at k = each_word no_words (λ v. v ≡ 0) refl (λ j lt. get_or-replicate WORDS j 0 0 (omega (arith, lt, no_words-long))) k

no_words-are : AreWords no_words
no_words-are = record { long = no_words-long; fit = λ k. rw (none_at k) (omega arith) }

pub one_word-are : (at bits : ℕ) → IsWordSet at bits → AreWords (set no_words at bits)
one_word-are at bits is = AreWords-set no_words at bits no_words-are is.within is.fits

-- a number is in the set where its bit is set, and it lies in the word
pub in_word : (at bits q : ℕ) → IsWordSet at bits → finset.contains (set_of_word at bits) q ≡ ((q / 64 == at) && (bit_at bits (q % 64) == 1))
in_word at bits q is =
    contains-set_of_words (set no_words at bits) (one_word-are at bits is) q
    ∙ has_bit-set no_words at bits q _ (omega (arith, is.within, no_words-long))
    (λ e. sym (kept (q / 64) at _ e))
    (λ ne. rw (none_at (q / 64), bit_at-zero (q % 64)) (apart (q / 64) at _ ne))
  where
    kept : (a b : ℕ) (v : Bool) → a ≡ b → ((a == b) && v) ≡ v
    kept a b v e = grind (arith, nat_tests)

    apart : (a b : ℕ) (v : Bool) → (a ≡ b → ⊥) → false ≡ ((a == b) && v)
    apart a b v ne = grind (arith, nat_tests)

outside : (at bits q : ℕ) → IsWordSet at bits → (q / 64 ≡ at → ⊥) → finset.contains (set_of_word at bits) q ≡ false
outside at bits q is ne = in_word at bits q is ∙ off (q / 64) at _ ne
  where
    off : (a b : ℕ) (v : Bool) → (a ≡ b → ⊥) → ((a == b) && v) ≡ false
    off a b v ne = grind (arith, nat_tests)

-- none lies past the word
pub none_past : (at bits from : ℕ) → IsWordSet at bits → (at + 1) * 64 ≤ from → NoneFrom (set_of_word at bits) from
none_past at bits from is le q above = outside at bits q is (λ e. omega arith)

-- the first from a place on, as the word tells it
pub first_of_word :
    (at bits from low : ℕ) (found : Option ℕ) → IsWordSet at bits → from < (at + 1) * 64 → low ≡ from - at * 64
    → MatchOption found (NoBitFrom bits low) (IsFirstBit bits low)
    → MatchOption found (NoneFrom (set_of_word at bits) from) (λ i. IsFirstFrom (set_of_word at bits) from (at * 64 + i))
first_of_word at bits from low None is lt e none =
    NoneFrom-lower _ from ((at + 1) * 64)
    (λ q ge less. elim (cases_lt q (at * 64)) [
      | inl before ↦ outside at bits q is (λ same. omega arith)
      | inr from_here ↦ in_word at bits q is ∙ unset (q / 64) at _ (none (q % 64) (omega arith))
    ])
    (none_past at bits ((at + 1) * 64) is (omega arith))
  where
    unset : (a b : ℕ) (v : ℕ) → v ≡ 0 → ((a == b) && (v == 1)) ≡ false
    unset a b v e = grind (arith, nat_tests)
first_of_word at bits from low (Some i) is lt e found = record {
  above = (let le : low ≤ i = found.above in omega arith);
  member = in_word at bits (at * 64 + i) is ∙ yes _ _ _ (omega arith) (ap (bit_at bits) place ∙ found.is_set);
  least = λ k ge less. elim (cases_lt k (at * 64)) [
    | inl before ↦ outside at bits k is (λ same. omega arith)
    | inr from_here ↦ in_word at bits k is ∙ unset (k / 64) at _ (found.least (k % 64) (omega arith) (let small : i < 64 = found.below in omega arith))
  ];
}
  where
    place : (at * 64 + i) % 64 ≡ i
    place = (let small : i < 64 = found.below in omega arith)

    yes : (a b v : ℕ) → a ≡ b → v ≡ 1 → ((a == b) && (v == 1)) ≡ true
    yes a b v e one = grind (arith, nat_tests)

    unset : (a b : ℕ) (v : ℕ) → v ≡ 0 → ((a == b) && (v == 1)) ≡ false
    unset a b v e = grind (arith, nat_tests)

-- a bit more
pub with_bit :
    (at bits n q : ℕ) → IsWordSet at bits → n / 64 ≡ at
    → finset.contains (set_of_word at (bit_or bits (1 * 2 ^ (n % 64) % 2 ^ 64))) q ≡ (finset.contains (set_of_word at bits) q || (q == n))
with_bit at bits n q is e =
    in_word at _ q (record { within = is.within; fits = inserted_fits bits (n % 64) is.fits })
    ∙ more (q / 64) at q n _ _ e (λ same. inserted_bit bits n q (same ∙ sym e)) (λ same. ap (λ v. v / 64) same)
    ∙ ap (λ v. v || (q == n)) (sym (in_word at bits q is))
  where
    more : (k l q n : ℕ) (v u : Bool) → n / 64 ≡ l → (k ≡ l → v ≡ ((q == n) || u)) → (q ≡ n → k ≡ n / 64) → ((k == l) && v) ≡ (((k == l) && u) || (q == n))
    more k l q n v u e f g = grind (arith, nat_tests)

-- a bit less
pub without_bit :
    (at bits i : ℕ) → IsWordSet at bits → i < 64 → set_of_word at (bit_and bits (bit_not w64 (1 * 2 ^ i % 2 ^ 64))) ≡ finset.remove (set_of_word at bits) (at * 64 + i)
without_bit at bits i is lt = same_members _ _ (λ q.
    in_word at _ q (record { within = is.within; fits = removed_fits bits _ is.fits })
    ∙ less (q / 64) at q (at * 64 + i) _ _ (bit q)
    ∙ ap (λ v. not (q == at * 64 + i) && v) (sym (in_word at bits q is))
    ∙ sym (contains-remove _ (at * 64 + i) q))
  where
    place : (at * 64 + i) % 64 ≡ i
    place = omega arith

    bit : (q : ℕ) → q / 64 ≡ at → (bit_at (bit_and bits (bit_not w64 (1 * 2 ^ i % 2 ^ 64))) (q % 64) == 1) ≡ (not (q == at * 64 + i) && (bit_at bits (q % 64) == 1))
    bit q same = subst (λ j. (bit_at (bit_and bits (bit_not w64 (1 * 2 ^ j % 2 ^ 64))) (q % 64) == 1) ≡ (not (q == at * 64 + i) && (bit_at bits (q % 64) == 1))) place (removed_bit bits (at * 64 + i) q (omega arith))

    less : (k l q n : ℕ) (v u : Bool) → (k ≡ l → v ≡ (not (q == n) && u)) → ((k == l) && v) ≡ (not (q == n) && ((k == l) && u))
    less k l q n v u f = grind (arith, nat_tests)

-- why a number can't be one more: it lies in another word than a member, or not behind all of them
pub apart : (at bits n m : ℕ) → IsWordSet at bits → finset.contains (set_of_word at bits) m ≡ true → m / 64 ≡ n / 64 → (n / 64 ≡ at → ⊥) → ⊥
apart at bits n m is on same ne = off _ on (outside at bits m is (λ e. ne (sym same ∙ e)))
  where
    off : (a : Bool) → (a ≡ true) → (a ≡ false) → ⊥
    off a here gone = cc

pub behind : (at bits n : ℕ) → IsWordSet at bits → n / 64 ≡ at → (bits / 2 ^ (n % 64) ≡ 0 → ⊥) → NoneFrom (set_of_word at bits) n → ⊥
behind at bits n is e some none =
    let i = n % 64 + trailing_zeros w64 (bits / 2 ^ (n % 64)) in
    let first = first_of_word at bits n (n % 64) (Some i) is (omega arith) (omega arith) (first_shifted bits (n % 64) is.fits (omega (arith, some))) in
    off _ first.member (none _ first.above)
  where
    off : (a : Bool) → (a ≡ true) → (a ≡ false) → ⊥
    off a here gone = cc

-- and none is at or above one that can be
pub none_behind : (at bits n : ℕ) → IsWordSet at bits → n / 64 ≡ at → bits / 2 ^ (n % 64) ≡ 0 → NoneFrom (set_of_word at bits) n
none_behind at bits n is e none = first_of_word at bits n (n % 64) None is (omega arith) (omega arith) (none_shifted bits (n % 64) none)

-- one bit alone
pub one_bit_alone : (n q : ℕ) → n / 64 < WORDS → finset.contains (set_of_word (n / 64) (1 * 2 ^ (n % 64) % 2 ^ 64)) q ≡ (q == n)
one_bit_alone n q lt =
    ap (λ b. finset.contains (set_of_word (n / 64) b) q) (sym (or_zero_l (1 * 2 ^ (n % 64) % 2 ^ 64)))
    ∙ with_bit (n / 64) 0 n q none refl
    ∙ ap (λ v. v || (q == n)) nowhere
  where
    none : IsWordSet (n / 64) 0
    none = record { within = lt; fits = omega arith }

    no : (k l v : ℕ) → v ≡ 0 → ((k == l) && (v == 1)) ≡ false
    no k l v e = grind (arith, nat_tests)

    nowhere : finset.contains (set_of_word (n / 64) 0) q ≡ false
    nowhere = in_word (n / 64) 0 q none ∙ no (q / 64) (n / 64) _ (bit_at-zero (q % 64))

-- the numbers left where another word's bits are taken out
pub without_word :
    (at bits other q : ℕ) (b : Bool) → IsWordSet at bits → other < 2 ^ 64 → (q / 64 ≡ at → (bit_at other (q % 64) == 1) ≡ b)
    → finset.contains (set_of_word at (bit_and bits (bit_not w64 other))) q ≡ (finset.contains (set_of_word at bits) q && not b)
without_word at bits other q b is fits tells =
    in_word at _ q (record { within = is.within; fits = removed_fits bits _ is.fits })
    ∙ ap (λ v. (q / 64 == at) && v) (without-IsBitwise.bits bits other (q % 64) is.fits fits (omega arith))
    ∙ left (q / 64) at _ _ b tells
    ∙ ap (λ v. v && not b) (sym (in_word at bits q is))
  where
    left : (k l : ℕ) (v u b : Bool) → (k ≡ l → u ≡ b) → ((k == l) && (v && not u)) ≡ (((k == l) && v) && not b)
    left k l v u b f = grind (arith, nat_tests)
