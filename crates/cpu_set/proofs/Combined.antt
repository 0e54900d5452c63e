-- What an operation on words makes of their set.
use Rattle.std.proofs.Common.{◌≡◌, ◌↔◌, ℕ, zero, suc, ◌+◌, ◌*◌, ◌/◌, ◌%◌, ◌^◌, ◌<◌, ◌≤◌, ◌==◌, Bool, true, false, not, ◌&&◌, ◌||◌, nat_lt, List, [], ◌∷◌, map, length, get_or, set, refl, sym, ap, ◌∙◌, inl, inr, arith}
use Rattle.std.specs.Prelude.{nat_le, bit_and, bit_or, bit_xor, replicate}
use Rattle.std.proofs.lemmas.Bool.{cases_eq, cases_lt}
use Rattle.std.proofs.lemmas.Bool.Decides.{nat_tests}
use Rattle.std.proofs.lemmas.List.{get_or_past, get_or-map, length-map, get_or-set_same, get_or-set_other, length-set, get_or-replicate, length-replicate}
use Rattle.std.proofs.lemmas.Nat.{or_lt, xor_lt, and_le_l, le_or_l, le_or_r}
use Rattle.std.proofs.lemmas.Nat.Bits.{bit_at-zero, bit_at-lt, bit_at_set_same, bit_at_set_other, bit_at_clear_same, bit_at_clear_other, same_from_bits_below}
use Rattle.std.proofs.lemmas.Simd.{get_or-zip2, length-zip2}
use Rattle.std.specs.Int.{bit_at, bit_not, w64}
use Rattle.std.specs.Simd.Lanes.{zip2, fold_l}
use Rattle.std.specs.FinSet as finset
use Rattle.cpu_set.specs.Ids.{Ids}
use Rattle.cpu_set.specs.Members.{IsComplement}
use Rattle.cpu_set.specs.PointwiseLaws.{same_members, contains-empty, contains-insert, contains-remove, contains-union, contains-difference}
use Rattle.cpu_set.specs.Words.{has_bit, set_of_words, AreWords}
use Rattle.cpu_set.specs.WordLaws.{contains-set_of_words, has_bit-past, has_bit-at}
use Rattle.cpu_set.specs.declared.TheConstants.{CPU_LIMIT}
use Rattle.cpu_set.specs.declared.id_set.TheConstants.{WORDS}
use Rattle.cpu_set.proofs.Bits.{bit-or, bit-and, bit-xor, bit-not}

-- a fact of each word, from that of the words there are
pub each_word : (words : List ℕ) (P : ℕ → Type 0) → P 0 → ((k : ℕ) → k < length words → P (get_or words k 0)) → (k : ℕ) → P (get_or words k 0)
each_word words P none some k =
    elim (cases_lt k (length words)) [ inl lt ↦ some k lt | inr le ↦ rw (get_or_past words k 0 le) none ]

get_or-lanes :
    (f : ℕ → ℕ → ℕ) (xs ys : List ℕ) (k : ℕ) → length xs ≡ length ys → f 0 0 ≡ 0
    → get_or (zip2 f xs ys) k 0 ≡ f (get_or xs k 0) (get_or ys k 0)
get_or-lanes f xs ys k long none =
    elim (cases_lt k (length xs)) [
      | inl lt ↦ get_or-zip2 f xs ys k 0 0 0 lt (omega arith)
      | inr le ↦
          let size : length (zip2 f xs ys) ≡ length xs = length-zip2 f xs ys long in
          get_or_past _ k 0 (omega arith) ∙ sym ((λ i. f (get_or_past xs k 0 le i) (get_or_past ys k 0 (past le) i)) ∙ none)
    ]
  where
    past : length xs ≤ k → length ys ≤ k
    past le = omega arith

-- an operation on two words that works on each bit alone
pub record IsBitwise (f : ℕ → ℕ → ℕ) (g : Bool → Bool → Bool) : Type 0 where
  pub none : f 0 0 ≡ 0
  pub fits : (a b : ℕ) → a < 2 ^ 64 → b < 2 ^ 64 → f a b < 2 ^ 64
  pub bits : (a b i : ℕ) → a < 2 ^ 64 → b < 2 ^ 64 → i < 64 → (bit_at (f a b) i == 1) ≡ g (bit_at a i == 1) (bit_at b i == 1)

pub AreWords-lanes : (f : ℕ → ℕ → ℕ) (g : Bool → Bool → Bool) (xs ys : List ℕ) → IsBitwise f g → AreWords xs → AreWords ys → AreWords (zip2 f xs ys)
AreWords-lanes f g xs ys bitwise of_xs of_ys =
    let same : length xs ≡ length ys = of_xs.long ∙ sym of_ys.long in
    record {
      long = length-zip2 f xs ys same ∙ of_xs.long;
      fit = λ k. rw (get_or-lanes f xs ys k same bitwise.none) (bitwise.fits _ _ (of_xs.fit k) (of_ys.fit k));
    }

has_bit-lanes :
    (f : ℕ → ℕ → ℕ) (g : Bool → Bool → Bool) (xs ys : List ℕ) (q : ℕ) → IsBitwise f g → AreWords xs → AreWords ys
    → has_bit (zip2 f xs ys) q ≡ g (has_bit xs q) (has_bit ys q)
has_bit-lanes f g xs ys q bitwise of_xs of_ys =
    let same : length xs ≡ length ys = of_xs.long ∙ sym of_ys.long in
    ap (λ v. bit_at v (q % 64) == 1) (get_or-lanes f xs ys (q / 64) same bitwise.none)
    ∙ bitwise.bits _ _ (q % 64) (of_xs.fit (q / 64)) (of_ys.fit (q / 64)) (omega arith)

-- words combined bit by bit are those of the combined sets
pub set_of_words-lanes :
    (f : ℕ → ℕ → ℕ) (g : Bool → Bool → Bool) (op : Ids → Ids → Ids)
    (pointwise : (s t : Ids) (q : ℕ) → finset.contains (op s t) q ≡ g (finset.contains s q) (finset.contains t q))
    (xs ys : List ℕ) → IsBitwise f g → AreWords xs → AreWords ys
    → set_of_words (zip2 f xs ys) ≡ op (set_of_words xs) (set_of_words ys)
set_of_words-lanes f g op pointwise xs ys bitwise of_xs of_ys =
    same_members _ _ (λ q.
    contains-set_of_words _ (AreWords-lanes f g xs ys bitwise of_xs of_ys) q ∙ has_bit-lanes f g xs ys q bitwise of_xs of_ys
    ∙ sym (pointwise _ _ q ∙ (λ i. g (contains-set_of_words xs of_xs q i) (contains-set_of_words ys of_ys q i))))

pub or-IsBitwise : IsBitwise bit_or (λ a b. a || b)
or-IsBitwise = record { none = refl; fits = λ a b fa fb. or_lt 64 a b fa fb; bits = λ a b i _ _ _. bit-or a b i }

and_fits : (a b : ℕ) → a < 2 ^ 64 → bit_and a b < 2 ^ 64
and_fits a b fits = let le : bit_and a b ≤ a = and_le_l a b in omega arith

pub and-IsBitwise : IsBitwise bit_and (λ a b. a && b)
and-IsBitwise = record { none = refl; fits = λ a b fa _. and_fits a b fa; bits = λ a b i _ _ _. bit-and a b i }

-- one of the two alone
abbrev pub differs : Bool → Bool → Bool
differs a b = (a && not b) || (b && not a)

pub xor-IsBitwise : IsBitwise bit_xor differs
xor-IsBitwise = record { none = refl; fits = λ a b fa fb. xor_lt 64 a b fa fb; bits = λ a b i _ _ _. bit-xor a b i }

-- a word without the bits of another
abbrev pub without : ℕ → ℕ → ℕ
without a b = bit_and a (bit_not w64 b)

pub without-IsBitwise : IsBitwise without (λ a b. a && not b)
without-IsBitwise = record {
  none = none_left _ (and_le_l 0 (bit_not w64 0));
  fits = λ a b fa _. and_fits a (bit_not w64 b) fa;
  bits = λ a b i fa fb lt. bit-and a _ i ∙ ap (λ v. (bit_at a i == 1) && v) (bit-not b i fb lt);
}
  where
    none_left : (n : ℕ) → n ≤ 0 → n ≡ 0
    none_left n le = omega arith

-- the operator on one vector within that on two
pub zip2-map : (f : ℕ → ℕ → ℕ) (h : ℕ → ℕ) (xs ys : List ℕ) → zip2 f xs (map h ys) ≡ zip2 (λ a b. f a (h b)) xs ys
zip2-map f h [] ys = refl
zip2-map f h (x ∷ xs) [] = refl
zip2-map f h (x ∷ xs) (y ∷ ys) = ap (λ rest. f x (h y) ∷ rest) (zip2-map f h xs ys)

not_fits : (a : ℕ) → bit_not w64 a < 2 ^ 64
not_fits a = omega arith

pub AreWords-not : (xs : List ℕ) → AreWords xs → AreWords (map (bit_not w64) xs)
AreWords-not xs of_xs = record {
  long = length-map xs (bit_not w64) ∙ of_xs.long;
  fit = each_word (map (bit_not w64) xs) (λ v. v < 2 ^ 64) (omega arith) (λ k lt.
      let low : k < length xs = (let size : length (map (bit_not w64) xs) ≡ length xs = length-map xs (bit_not w64) in omega arith) in
      rw (get_or-map (bit_not w64) xs k 0 0 low) (not_fits _));
}

outside : (q n : ℕ) (a b : Bool) → (q < n → a ≡ not b) → (n ≤ q → a ≡ false) → a ≡ (nat_lt q n && not b)
outside q n a b f g = grind (arith, nat_tests)

-- words with each bit turned are those of the other numbers
pub IsComplement-not : (xs : List ℕ) → AreWords xs → IsComplement (set_of_words xs) (set_of_words (map (bit_not w64) xs))
IsComplement-not xs of_xs q =
    let words = AreWords-not xs of_xs in
    let long : length xs ≡ WORDS = of_xs.long in
    contains-set_of_words _ words q
    ∙ outside q CPU_LIMIT _ _
    (λ lt. ap (λ v. bit_at v (q % 64) == 1) (get_or-map (bit_not w64) xs (q / 64) 0 0 (omega arith)) ∙ bit-not _ (q % 64) (of_xs.fit (q / 64)) (omega arith))
    (λ le. has_bit-past _ q (let size : length (map (bit_not w64) xs) ≡ length xs = length-map xs (bit_not w64) in omega arith))
    ∙ ap (λ v. nat_lt q CPU_LIMIT && not v) (sym (contains-set_of_words xs of_xs q))

-- the numbers that are in one of two sets alone
abbrev pub one_sided : Ids → Ids → Ids
one_sided s t = finset.union (finset.difference s t) (finset.difference t s)

pub contains-one_sided : (s t : Ids) (q : ℕ) → finset.contains (one_sided s t) q ≡ differs (finset.contains s q) (finset.contains t q)
contains-one_sided s t q =
    contains-union (finset.difference s t) (finset.difference t s) q
    ∙ (λ i. contains-difference s t q i || contains-difference t s q i)

alike : (a b : Bool) → differs a b ≡ false → a ≡ b
alike true true e = refl
alike true false e = e
alike false true e = sym e
alike false false e = refl

none_differ : (a : Bool) → differs a a ≡ false
none_differ true = refl
none_differ false = refl

-- no number is in one of two sets alone where they are the same
pub same_one_sided : (s t : Ids) → (one_sided s t ≡ finset.empty) ↔ (s ≡ t)
same_one_sided s t = (
  λ none. same_members s t (λ q. alike _ _ (sym (contains-one_sided s t q) ∙ ap (λ u. finset.contains u q) none ∙ contains-empty q)),
  λ e. same_members _ _ (λ q. contains-one_sided s t q ∙ ap (λ u. differs (finset.contains s q) (finset.contains u q)) (sym e) ∙ none_differ _ ∙ sym (contains-empty q)),
)

-- ---- one word

pub AreWords-set : (words : List ℕ) (at word : ℕ) → AreWords words → at < WORDS → word < 2 ^ 64 → AreWords (set words at word)
AreWords-set words at word are lt fits =
    let long : length words ≡ WORDS = are.long in
    record {
      long = length-set words at word ∙ are.long;
      fit = λ k. elim (cases_eq at k) [
        | inl e ↦ rw (ap (λ j. get_or (set words at word) j 0) (sym e) ∙ get_or-set_same words at word 0 (omega arith)) fits
        | inr ne ↦ rw (get_or-set_other words at k word 0 (λ e. ne (sym e))) (are.fit k)
      ];
    }

-- the bits where one word is another
pub has_bit-set :
    (words : List ℕ) (at word q : ℕ) (b : Bool) → at < length words
    → (q / 64 ≡ at → (bit_at word (q % 64) == 1) ≡ b) → ((q / 64 ≡ at → ⊥) → has_bit words q ≡ b) → has_bit (set words at word) q ≡ b
has_bit-set words at word q b lt same other =
    elim (cases_eq at (q / 64)) [
      | inl e ↦ ap (λ v. bit_at v (q % 64) == 1) (ap (λ j. get_or (set words at word) j 0) (sym e) ∙ get_or-set_same words at word 0 lt) ∙ same (sym e)
      | inr ne ↦ ap (λ v. bit_at v (q % 64) == 1) (get_or-set_other words at (q / 64) word 0 (λ e. ne (sym e))) ∙ other (λ e. ne (sym e))
    ]

one_bit : (i : ℕ) → 1 * 2 ^ i % 2 ^ 64 < 2 ^ 64
one_bit i = omega arith

pub inserted_fits : (word i : ℕ) → word < 2 ^ 64 → bit_or word (1 * 2 ^ i % 2 ^ 64) < 2 ^ 64
inserted_fits word i fits = or_lt 64 word _ fits (one_bit i)

pub removed_fits : (word other : ℕ) → word < 2 ^ 64 → bit_and word other < 2 ^ 64
removed_fits word other fits = and_fits word other fits

is_itself : (q n : ℕ) (b : Bool) → n ≡ q → true ≡ ((q == n) || b)
is_itself q n b e = grind (arith, nat_tests)

is_other : (q n : ℕ) (b : Bool) → (n ≡ q → ⊥) → b ≡ ((q == n) || b)
is_other q n b ne = grind (arith, nat_tests)

is_gone : (q n : ℕ) (b : Bool) → n ≡ q → false ≡ (not (q == n) && b)
is_gone q n b e = grind (arith, nat_tests)

is_left : (q n : ℕ) (b : Bool) → (n ≡ q → ⊥) → b ≡ (not (q == n) && b)
is_left q n b ne = grind (arith, nat_tests)

pub inserted_bit : (word n q : ℕ) → q / 64 ≡ n / 64 → (bit_at (bit_or word (1 * 2 ^ (n % 64) % 2 ^ 64)) (q % 64) == 1) ≡ ((q == n) || (bit_at word (q % 64) == 1))
inserted_bit word n q same =
    elim (cases_eq n q) [
      | inl e ↦ ap (λ v. bit_at (bit_or word (1 * 2 ^ (n % 64) % 2 ^ 64)) v == 1) (ap (λ v. v % 64) (sym e)) ∙ ap (λ v. v == 1) (bit_at_set_same w64 word (n % 64) (omega arith)) ∙ is_itself q n _ e
      | inr ne ↦ ap (λ v. v == 1) (bit_at_set_other w64 word (n % 64) (omega arith) (q % 64) (λ e. ne (omega arith))) ∙ is_other q n _ ne
    ]

pub removed_bit : (word n q : ℕ) → q / 64 ≡ n / 64 → (bit_at (bit_and word (bit_not w64 (1 * 2 ^ (n % 64) % 2 ^ 64))) (q % 64) == 1) ≡ (not (q == n) && (bit_at word (q % 64) == 1))
removed_bit word n q same =
    elim (cases_eq n q) [
      | inl e ↦ ap (λ v. bit_at (bit_and word (bit_not w64 (1 * 2 ^ (n % 64) % 2 ^ 64))) v == 1) (ap (λ v. v % 64) (sym e)) ∙ ap (λ v. v == 1) (bit_at_clear_same w64 word (n % 64) (omega arith)) ∙ is_gone q n _ e
      | inr ne ↦ ap (λ v. v == 1) (bit_at_clear_other w64 word (n % 64) (omega arith) (q % 64) (omega arith) (λ e. ne (omega arith))) ∙ is_left q n _ ne
    ]

-- a bit that is set puts its number in
pub set_of_words-inserted :
    (words : List ℕ) (n : ℕ) → AreWords words → n / 64 < WORDS
    → set_of_words (set words (n / 64) (bit_or (get_or words (n / 64) 0) (1 * 2 ^ (n % 64) % 2 ^ 64))) ≡ finset.insert (set_of_words words) n
set_of_words-inserted words n are lt =
    let long : length words ≡ WORDS = are.long in
    same_members _ _ (λ q.
    contains-set_of_words _ (AreWords-set words (n / 64) _ are lt (inserted_fits _ (n % 64) (are.fit (n / 64)))) q
    ∙ has_bit-set words (n / 64) _ q _ (omega arith)
    (λ e. inserted_bit (get_or words (n / 64) 0) n q e ∙ ap (λ k. (q == n) || (bit_at (get_or words k 0) (q % 64) == 1)) (sym e))
    (λ ne. is_other q n _ (λ e. ne (ap (λ v. v / 64) (sym e))))
    ∙ sym (contains-insert _ n q ∙ ap (λ b. (q == n) || b) (contains-set_of_words words are q)))

-- and one that is cleared takes it out
pub set_of_words-removed :
    (words : List ℕ) (n : ℕ) → AreWords words → n / 64 < WORDS
    → set_of_words (set words (n / 64) (bit_and (get_or words (n / 64) 0) (bit_not w64 (1 * 2 ^ (n % 64) % 2 ^ 64)))) ≡ finset.remove (set_of_words words) n
set_of_words-removed words n are lt =
    let long : length words ≡ WORDS = are.long in
    same_members _ _ (λ q.
    contains-set_of_words _ (AreWords-set words (n / 64) _ are lt (removed_fits _ _ (are.fit (n / 64)))) q
    ∙ has_bit-set words (n / 64) _ q _ (omega arith)
    (λ e. removed_bit (get_or words (n / 64) 0) n q e ∙ ap (λ k. not (q == n) && (bit_at (get_or words k 0) (q % 64) == 1)) (sym e))
    (λ ne. is_left q n _ (λ e. ne (ap (λ v. v / 64) (sym e))))
    ∙ sym (contains-remove _ n q ∙ ap (λ b. not (q == n) && b) (contains-set_of_words words are q)))

-- ---- no bit at all
fold-zero : (xs : List ℕ) (a : ℕ) → a ≡ 0 → ((k : ℕ) → get_or xs k 0 ≡ 0) → fold_l bit_or a xs ≡ 0
fold-zero [] a e all = e
fold-zero (x ∷ xs) a e all =
    let here : x ≡ 0 = all 0 in
    fold-zero xs (bit_or a x) (rw (e, here) refl) (λ k. all (suc k))

zero-fold : (xs : List ℕ) (a : ℕ) → fold_l bit_or a xs ≡ 0 → (a ≡ 0) × ((k : ℕ) → get_or xs k 0 ≡ 0)
zero-fold [] a e = (e, λ k. refl)
zero-fold (x ∷ xs) a e =
    let rest = zero-fold xs (bit_or a x) e in
    let of_a : a ≤ bit_or a x = le_or_l a x in
    let of_x : x ≤ bit_or a x = le_or_r a x in
    let none : bit_or a x ≡ 0 = rest.0 in
    (omega arith, by_place x xs (omega arith) rest.1)
  where
    by_place : (y : ℕ) (ys : List ℕ) → y ≡ 0 → ((k : ℕ) → get_or ys k 0 ≡ 0) → (k : ℕ) → get_or (y ∷ ys) k 0 ≡ 0
    by_place y ys e all zero = e
    by_place y ys e all (suc k) = all k

no_bits : (word : ℕ) → word < 2 ^ 64 → ((i : ℕ) → i < 64 → (bit_at word i == 1) ≡ false) → word ≡ 0
no_bits word fits none =
    same_from_bits_below 64 word 0 fits (omega arith) (λ i lt. unset (bit_at word i) (bit_at-lt word i) (none i lt) ∙ sym (bit_at-zero i))
  where
    unset : (b : ℕ) → b < 2 → (b == 1) ≡ false → b ≡ 0
    unset b lt e = grind (arith, nat_tests)

-- the words' set is empty where they have no bit
pub set_of_words-empty : (words : List ℕ) → AreWords words → ((k : ℕ) → get_or words k 0 ≡ 0) → set_of_words words ≡ finset.empty
set_of_words-empty words are none =
    same_members _ _ (λ q. contains-set_of_words words are q ∙ ap (λ v. v == 1) (ap (λ v. bit_at v (q % 64)) (none (q / 64)) ∙ bit_at-zero (q % 64)) ∙ sym (contains-empty q))

empty-none : (words : List ℕ) → AreWords words → set_of_words words ≡ finset.empty → (k : ℕ) → get_or words k 0 ≡ 0
empty-none words are e k =
    no_bits _ (are.fit k) (λ i lt.
    sym (has_bit-at words k i lt) ∙ sym (contains-set_of_words words are (k * 64 + i)) ∙ ap (λ s. finset.contains s (k * 64 + i)) e ∙ contains-empty (k * 64 + i))

pub empty-fold : (words : List ℕ) → AreWords words → set_of_words words ≡ finset.empty → fold_l bit_or 0 words ≡ 0
empty-fold words are e = fold-zero words 0 refl (empty-none words are e)

pub fold-empty : (words : List ℕ) → AreWords words → fold_l bit_or 0 words ≡ 0 → set_of_words words ≡ finset.empty
fold-empty words are e = set_of_words-empty words are (zero-fold words 0 e).1

pub zeroes_fit : (n k z : ℕ) → z ≡ 0 → get_or (replicate n z) k 0 ≡ 0
zeroes_fit n k z e = elim (cases_lt k n) [ inl lt ↦ get_or-replicate n k z 0 lt ∙ e | inr le ↦ get_or_past (replicate n z) k 0 (rw length-replicate le) ]

pub AreWords-zeroes : (n : ℕ) → n ≡ WORDS → AreWords (replicate n 0)
AreWords-zeroes n e = record { long = length-replicate n 0 ∙ e; fit = λ k. rw (zeroes_fit n k 0 refl) (omega arith) }

pub set_of_words-zeroes : set_of_words (replicate WORDS 0) ≡ finset.empty
set_of_words-zeroes = set_of_words-empty (replicate WORDS 0) (AreWords-zeroes WORDS refl) (λ k. zeroes_fit WORDS k 0 refl)

-- no number past the words is a member
pub contains-past : (words : List ℕ) (n : ℕ) → AreWords words → CPU_LIMIT ≤ n → nat_lt n CPU_LIMIT ≡ finset.contains (set_of_words words) n
contains-past words n are past =
    let long : length words ≡ WORDS = are.long in
    not_below n _ past (contains-set_of_words words are n ∙ has_bit-past words n (omega arith))
  where
    not_below : (n : ℕ) (b : Bool) → CPU_LIMIT ≤ n → b ≡ false → nat_lt n CPU_LIMIT ≡ b
    not_below n b past e = grind (arith, nat_tests)

-- ---- the numbers of a range, word by word
pub record IsFilled (old words : List ℕ) (first last k : ℕ) : Type 0 where
  pub are : AreWords words
  pub bits : (q : ℕ) → has_bit words q ≡ (has_bit old q || ((nat_le first q && nat_le q last) && nat_lt q (k * 64)))

nothing_yet : (a : Bool) (first last q n : ℕ) → (first ≤ q → n ≤ q) → a ≡ (a || ((nat_le first q && nat_le q last) && nat_lt q n))
nothing_yet a first last q n f = grind (arith, nat_tests)

pub IsFilled-none : (old : List ℕ) (first last : ℕ) → AreWords old → IsFilled old old first last (first / 64)
IsFilled-none old first last are = record { are = are; bits = λ q. nothing_yet _ first last q (first / 64 * 64) (λ le. omega arith) }

filled_here :
    (a b : Bool) (first last q n m : ℕ) → a ≡ (b || ((nat_le first q && nat_le q last) && nat_lt q n)) → n ≤ q → q < m
    → (a || (nat_le first q && nat_le q last)) ≡ (b || ((nat_le first q && nat_le q last) && nat_lt q m))
filled_here a b first last q n m e le lt = grind (arith, nat_tests)

filled_there :
    (a b : Bool) (first last q n m : ℕ) → a ≡ (b || ((nat_le first q && nat_le q last) && nat_lt q n)) → (q < n → q < m) → (q < m → q < n)
    → a ≡ (b || ((nat_le first q && nat_le q last) && nat_lt q m))
filled_there a b first last q n m e f g = grind (arith, nat_tests)

pub IsFilled-more :
    (old words : List ℕ) (first last k bits : ℕ) → k < WORDS → bits < 2 ^ 64
    → ((i : ℕ) → i < 64 → (bit_at bits i == 1) ≡ (nat_le first (k * 64 + i) && nat_le (k * 64 + i) last))
    → IsFilled old words first last k → IsFilled old (set words k (bit_or (get_or words k 0) bits)) first last (k + 1)
IsFilled-more old words first last k bits lt fits each is =
    let long : length words ≡ WORDS = is.are.long in
    record {
      are = AreWords-set words k _ is.are lt (or_lt 64 _ bits (is.are.fit k) fits);
      bits = λ q. has_bit-set words k _ q _ (omega arith)
          (λ e.
          let at : k * 64 + q % 64 ≡ q = omega arith in
          bit-or (get_or words k 0) bits (q % 64)
          ∙ ap (λ b. (bit_at (get_or words k 0) (q % 64) == 1) || b) (each (q % 64) (omega arith) ∙ ap (λ v. nat_le first v && nat_le v last) at)
          ∙ ap (λ j. (bit_at (get_or words j 0) (q % 64) == 1) || (nat_le first q && nat_le q last)) (sym e)
          ∙ filled_here _ _ first last q (k * 64) ((k + 1) * 64) (is.bits q) (omega arith) (omega arith))
          (λ ne. filled_there _ _ first last q (k * 64) ((k + 1) * 64) (is.bits q) (λ less. omega arith) (λ less. below q less ne));
    }
  where
    below : (q : ℕ) → q < (k + 1) * 64 → (q / 64 ≡ k → ⊥) → q < k * 64
    below q less ne = omega arith

within_word :
    (first last k i : ℕ) → first / 64 ≡ k → last / 64 ≡ k → i < 64
    → (nat_le (first % 64) i && nat_le i (last % 64)) ≡ (nat_le first (k * 64 + i) && nat_le (k * 64 + i) last)
within_word first last k i low high lt = grind (arith, nat_tests)

-- a range that is within a word
pub IsFilled-one :
    (words : List ℕ) (first last bits : ℕ) → AreWords words → first / 64 ≡ last / 64 → first / 64 < WORDS → bits < 2 ^ 64
    → ((i : ℕ) → i < 64 → (bit_at bits i == 1) ≡ (nat_le (first % 64) i && nat_le i (last % 64)))
    → IsFilled words (set words (first / 64) (bit_or (get_or words (first / 64) 0) bits)) first last (first / 64 + 1)
IsFilled-one words first last bits are same lt fits each =
    IsFilled-more words words first last (first / 64) bits lt fits (λ i less. each i less ∙ within_word first last (first / 64) i refl (sym same) less)
    (IsFilled-none words first last are)

filled_all : (a : Bool) (first last q n : ℕ) → (q ≤ last → q < n) → (a || ((nat_le first q && nat_le q last) && nat_lt q n)) ≡ (a || (nat_le first q && nat_le q last))
filled_all a first last q n f = grind (arith, nat_tests)

pub IsFilled-all :
    (old words : List ℕ) (first last k : ℕ) → AreWords old → last / 64 < k → IsFilled old words first last k
    → (q : ℕ) → finset.contains (set_of_words words) q ≡ (finset.contains (set_of_words old) q || (nat_le first q && nat_le q last))
IsFilled-all old words first last k of_old past is q =
    contains-set_of_words words is.are q ∙ is.bits q ∙ filled_all _ first last q (k * 64) (λ le. omega arith)
    ∙ ap (λ b. b || (nat_le first q && nat_le q last)) (sym (contains-set_of_words old of_old q))
