-- The bits of all words are as many as their set has members.
use Rattle.std.proofs.lemmas.Bool.Decides.{nat_tests}
use Rattle.std.proofs.Common.{◌&&◌, nat_lt, ◌≡◌, ℕ, zero, suc, ◌+◌, ◌*◌, ◌^◌, ◌<◌, ◌≤◌, ◌==◌, Bool, true, false, cond, List, [], ◌∷◌, map, length, get_or, refl, sym, ap, ◌∙◌, arith}
use Rattle.std.specs.Int.RustNames.{count_ones}
use Rattle.std.specs.Int.{bit_at, w64}
use Rattle.std.specs.List.{range_with_len, count_by}
use Rattle.std.specs.Simd.Lanes.{sum_l, fold_l, Steps}
use Rattle.std.proofs.Common.{Fits}
use Rattle.std.proofs.lemmas.Simd.{ones-mask_l, fold-sum, sum_fits}
use Rattle.std.proofs.lemmas.List.{map-id}
use Rattle.std.proofs.lemmas.List.Sums.{sum_by-cons}
use Rattle.std.proofs.Math.Nat.{suc-mul}
use Rattle.std.proofs.Math.Numerals.{add-one}
use Rattle.std.specs.FinSet as finset
use Rattle.cpu_set.specs.Members.{InRange, members}
use Rattle.cpu_set.specs.Those.{those}
use Rattle.cpu_set.specs.ThoseLemmas.{contains-those}
use Rattle.cpu_set.specs.SetLaws.{len-those_none, len-those_more, length-members}
use Rattle.cpu_set.specs.Words.{has_bit, set_of_words, AreWords, word_of}
use Rattle.cpu_set.specs.WordLaws.{has_bit-at, word_of-bits}
use Rattle.cpu_set.specs.declared.TheConstants.{CPU_LIMIT}
use Rattle.cpu_set.specs.declared.id_set.TheConstants.{WORDS}

count-shift : (p : ℕ → Bool) (a b n : ℕ) → count_by p (range_with_len (a + b) n) ≡ count_by (λ i. p (a + i)) (range_with_len b n)
count-shift p a b zero = refl
count-shift p a b (suc n) =
    let e : a + b + 1 ≡ a + (b + 1) = omega arith in
    sum_by-cons (λ x. cond (p x) 1 0) (a + b) (range_with_len (a + b + 1) n)
    ∙ ap (λ v. cond (p (a + b)) 1 0 + count_by p (range_with_len v n)) e ∙ ap (λ v. cond (p (a + b)) 1 0 + v) (count-shift p a (b + 1) n)
    ∙ sym (sum_by-cons (λ i. cond (p (a + i)) 1 0) b (range_with_len (b + 1) n))

len-block : (p : ℕ → Bool) (a n : ℕ) → finset.len (those p (a + n)) ≡ finset.len (those p a) + count_by p (range_with_len a n)
len-block p a zero = let e : a + 0 ≡ a = omega arith in ap (λ v. finset.len (those p v)) e ∙ plus_none _
  where
    plus_none : (k : ℕ) → k ≡ k + 0
    plus_none k = omega arith
len-block p a (suc n) =
    let e : a + suc n ≡ a + 1 + n = omega arith in
    ap (λ v. finset.len (those p v)) e ∙ len-block p (a + 1) n ∙ ap (λ v. v + count_by p (range_with_len (a + 1) n)) (len-those_more p a) ∙ joined _ _ _
    ∙ ap (λ v. finset.len (those p a) + v) (sym (sum_by-cons (λ x. cond (p x) 1 0) a (range_with_len (a + 1) n)))
  where
    joined : (x y z : ℕ) → x + y + z ≡ x + (y + z)
    joined x y z = omega arith

ones-word_of : (p : ℕ → Bool) (n : ℕ) → count_ones (word_of p n) ≡ count_by p (range_with_len 0 n)
unfolding word_of
ones-word_of p n = ones-mask_l p (range_with_len 0 n)

ones-word : (word n : ℕ) (p : ℕ → Bool) → word < 2 ^ n → ((i : ℕ) → i < n → p i ≡ (bit_at word i == 1)) → count_ones word ≡ count_by p (range_with_len 0 n)
ones-word word n p fits same = ap count_ones (sym (word_of-bits word n p fits same)) ∙ ones-word_of p n

-- one word more is as many members more as it has bits
len-word :
    (p : ℕ → Bool) (k n word : ℕ) → word < 2 ^ n → ((i : ℕ) → i < n → p (k * n + i) ≡ (bit_at word i == 1))
    → finset.len (those p (k * n + n)) ≡ finset.len (those p (k * n)) + count_ones word
len-word p k n word fits same =
    let e : k * n + 0 ≡ k * n = omega arith in
    len-block p (k * n) n
    ∙ ap (λ v. finset.len (those p (k * n)) + v)
    (ap (λ v. count_by p (range_with_len v n)) (sym e) ∙ count-shift p (k * n) 0 n ∙ sym (ones-word word n (λ i. p (k * n + i)) fits same))

-- the words from number k on have these bits
record HaveBits (p : ℕ → Bool) (k n : ℕ) (words : List ℕ) : Type 0 where
  fit : (j : ℕ) → get_or words j 0 < 2 ^ n
  same : (j i : ℕ) → j < length words → i < n → p ((k + j) * n + i) ≡ (bit_at (get_or words j 0) i == 1)

tail_bits : (p : ℕ → Bool) (k n word : ℕ) (words : List ℕ) → HaveBits p k n (word ∷ words) → HaveBits p (k + 1) n words
tail_bits p k n word words have = record {
  fit = λ j. have.fit (suc j);
  same = λ j i lt li.
      let e : k + 1 + j ≡ k + suc j = omega arith in
      ap (λ v. p (v * n + i)) e ∙ have.same (suc j) i (omega arith) li;
}

len-words :
    (p : ℕ → Bool) (k n : ℕ) (words : List ℕ) → HaveBits p k n words
    → finset.len (those p ((k + length words) * n)) ≡ finset.len (those p (k * n)) + sum_l (map count_ones words)
len-words p k n [] have =
    let e : k + 0 ≡ k = omega arith in
    ap (λ v. finset.len (those p (v * n))) e ∙ plus_none _
  where
    plus_none : (k : ℕ) → k ≡ k + 0
    plus_none k = omega arith
len-words p k n (word ∷ words) have =
    let e : k + suc (length words) ≡ k + 1 + length words = omega arith in
    let f : (k + 1) * n ≡ k * n + n = next k n in
    let g : k ≡ k + 0 = omega arith in
    ap (λ v. finset.len (those p (v * n))) e ∙ len-words p (k + 1) n words (tail_bits p k n word words have)
    ∙ ap (λ v. v + sum_l (map count_ones words))
    (ap (λ v. finset.len (those p v)) f ∙ len-word p k n word (have.fit 0) (λ i lt. ap (λ v. p (v * n + i)) g ∙ have.same 0 i (omega arith) lt))
    ∙ joined _ _ _
  where
    joined : (x y z : ℕ) → x + y + z ≡ x + (y + z)
    joined x y z = omega arith

    next : (k n : ℕ) → (k + 1) * n ≡ k * n + n
    next k n = ap (λ v. v * n) (add-one k) ∙ suc-mul k n

len-those_le : (p : ℕ → Bool) (n : ℕ) → finset.len (those p n) ≤ n
len-those_le p zero = let e = len-those_none p in omega arith
len-those_le p (suc n) =
    let next : n + 1 ≡ suc n = omega arith in
    let less = len-those_le p n in
    at_most (ap (λ v. finset.len (those p v)) (sym next) ∙ len-those_more p n) less (at_most_one (p n))
  where
    at_most_one : (b : Bool) → cond b 1 0 ≤ 1
    at_most_one true = omega arith
    at_most_one false = omega arith

    at_most : {a b c : ℕ} → a ≡ b + c → b ≤ n → c ≤ 1 → a ≤ suc n
    at_most e f g = omega arith

-- the bits of all words, counted
pub sum-is_len : (words : List ℕ) → AreWords words → sum_l (map count_ones words) ≡ finset.len (set_of_words words)
sum-is_len words are =
    let long : length words ≡ WORDS = are.long in
    let all : (0 + length words) * 64 ≡ CPU_LIMIT = omega arith in
    let none : finset.len (those (has_bit words) (0 * 64)) ≡ 0 = len-those_none (has_bit words) in
    sym (ap (λ v. finset.len (those (has_bit words) v)) (sym all)
    ∙ len-words (has_bit words) 0 64 words (record { fit = are.fit; same = λ j i lt li. from_none j i ∙ has_bit-at words j i li })
    ∙ ap (λ v. v + sum_l (map count_ones words)) none ∙ zero-plus _)
  where
    zero-plus : (k : ℕ) → 0 + k ≡ k
    zero-plus k = omega arith

    from_none : (j i : ℕ) → has_bit words ((0 + j) * 64 + i) ≡ has_bit words (j * 64 + i)
    from_none j i = let e : 0 + j ≡ j = omega arith in ap (λ v. has_bit words (v * 64 + i)) e

pub len-small : (words : List ℕ) → finset.len (set_of_words words) ≤ CPU_LIMIT
len-small words = len-those_le (has_bit words) CPU_LIMIT

pub InRange-words : (words : List ℕ) → InRange (set_of_words words)
InRange-words words q member = below q _ (sym (contains-those (has_bit words) CPU_LIMIT q) ∙ member)
  where
    below : (q : ℕ) (b : Bool) → (nat_lt q CPU_LIMIT && b) ≡ true → q < CPU_LIMIT
    below q b e = grind (arith, nat_tests)

pub len-members : (words : List ℕ) → finset.len (set_of_words words) ≡ length (members (set_of_words words))
len-members words = sym (length-members _ (InRange-words words))

-- the sum of the lanes
pub fold-is_len : (words : List ℕ) → AreWords words → fold_l (λ s x. s + x) 0 (map (λ x. x) (map count_ones words)) ≡ finset.len (set_of_words words)
fold-is_len words are =
    ap (fold_l (λ s x. s + x) 0) (map-id (map count_ones words)) ∙ fold-sum 0 (map count_ones words) ∙ zero-plus _ ∙ sum-is_len words are
  where
    zero-plus : (k : ℕ) → 0 + k ≡ k
    zero-plus k = omega arith

sum-small : (words : List ℕ) → AreWords words → sum_l (map count_ones words) ≤ CPU_LIMIT
sum-small words are = let e = sum-is_len words are in let le = len-small words in omega arith

pub fold_fits : (words : List ℕ) → AreWords words → Steps (λ s x. Fits w64 (s + x)) (λ s x. s + x) 0 (map (λ x. x) (map count_ones words))
fold_fits words are =
    let le = sum-small words are in
    let fits : 0 + sum_l (map count_ones words) < 2 ^ 64 = omega arith in
    rw map-id (sum_fits w64 0 (map count_ones words) fits)

pub fold_small : (words : List ℕ) → AreWords words → fold_l (λ s x. s + x) 0 (map (λ x. x) (map count_ones words)) < 2 ^ 32
fold_small words are = let e = fold-is_len words are in let le = len-small words in omega arith
