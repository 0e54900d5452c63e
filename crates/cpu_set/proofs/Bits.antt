-- Single bits as truth values, and words of them.
use Rattle.std.proofs.Common.{◌≡◌, ℕ, ◌+◌, ◌*◌, ◌/◌, ◌%◌, ◌^◌, ◌-◌, ◌<◌, ◌≤◌, ◌==◌, not, ◌&&◌, ◌||◌, min, max, sym, ap, ◌∙◌, inl, inr, arith}
use Rattle.std.specs.Prelude.{nat_le, bit_and, bit_or, bit_xor}
use Rattle.std.proofs.lemmas.Bool.{cases_lt}
use Rattle.std.proofs.lemmas.Bool.Decides.{nat_tests}
use Rattle.std.specs.Int.{bit_at, bit_not, w64, trailing_zeros}
use Rattle.std.proofs.lemmas.Nat.Bits.{bit_at-lt, bit_at_and, bit_at_or, bit_at_xor, bit_at_not, bit_at-zero, bit_at_above, bit_at-trailing_zeros, bit_at_mask_inside, bit_at_mask_below, bit_at_ones, bit_at_ones_above, ones_shl, ones_shr}
use Rattle.std.proofs.lemmas.Nat.{pow-add}
use Rattle.std.proofs.Math.Nat.{div-div-eq-div-mul, div-le_self}
use Rattle.cpu_set.specs.Word.{NoBitFrom, IsFirstBit}

either : (a b : ℕ) → a < 2 → b < 2 → (max a b == 1) ≡ ((a == 1) || (b == 1))
either a b la lb = grind (arith, nat_tests)

both : (a b : ℕ) → a < 2 → b < 2 → (min a b == 1) ≡ ((a == 1) && (b == 1))
both a b la lb = grind (arith, nat_tests)

differ : (a b : ℕ) → a < 2 → b < 2 → ((a + b) % 2 == 1) ≡ (((a == 1) && not (b == 1)) || ((b == 1) && not (a == 1)))
differ a b la lb = grind (arith, nat_tests)

other : (a : ℕ) → a < 2 → (1 - a == 1) ≡ not (a == 1)
other a la = grind (arith, nat_tests)

pub bit-or : (a b i : ℕ) → (bit_at (bit_or a b) i == 1) ≡ ((bit_at a i == 1) || (bit_at b i == 1))
bit-or a b i = ap (λ v. v == 1) (bit_at_or a b i) ∙ either _ _ (bit_at-lt a i) (bit_at-lt b i)

pub bit-and : (a b i : ℕ) → (bit_at (bit_and a b) i == 1) ≡ ((bit_at a i == 1) && (bit_at b i == 1))
bit-and a b i = ap (λ v. v == 1) (bit_at_and a b i) ∙ both _ _ (bit_at-lt a i) (bit_at-lt b i)

pub bit-xor : (a b i : ℕ) → (bit_at (bit_xor a b) i == 1) ≡ (((bit_at a i == 1) && not (bit_at b i == 1)) || ((bit_at b i == 1) && not (bit_at a i == 1)))
bit-xor a b i = ap (λ v. v == 1) (bit_at_xor a b i) ∙ differ _ _ (bit_at-lt a i) (bit_at-lt b i)

pub bit-not : (a i : ℕ) → a < 2 ^ 64 → i < 64 → (bit_at (bit_not w64 a) i == 1) ≡ not (bit_at a i == 1)
bit-not a i fits lt = ap (λ v. v == 1) (bit_at_not w64 a i fits lt) ∙ other _ (bit_at-lt a i)

-- the bits of a shifted word
pub bit_at-shifted : (n s i : ℕ) → bit_at (n / 2 ^ s) i ≡ bit_at n (s + i)
bit_at-shifted n s i = ap (λ v. v % 2) (div-div-eq-div-mul n (2 ^ s) (2 ^ i) ∙ ap (λ v. n / v) (sym (pow-add 2 s i)))

pub none_shifted : (n s : ℕ) → n / 2 ^ s ≡ 0 → NoBitFrom n s
none_shifted n s none i le =
    let e : i ≡ s + (i - s) = omega arith in
    ap (bit_at n) e ∙ sym (bit_at-shifted n s (i - s)) ∙ ap (λ v. bit_at v (i - s)) none ∙ bit_at-zero (i - s)

not_set : (b : ℕ) → b ≡ 0 → b ≡ 1 → ⊥
not_set b e f = omega arith

below_width : (n i : ℕ) → n < 2 ^ 64 → bit_at n i ≡ 1 → i < 64
below_width n i fits is =
    elim (cases_lt i 64) [ inl lt ↦ lt | inr le ↦ absurd (not_set _ (bit_at_above n 64 i fits le) is) ]

-- the lowest bit of what is left of a shifted word
pub first_shifted : (n s : ℕ) → n < 2 ^ 64 → 0 < n / 2 ^ s → IsFirstBit n s (s + trailing_zeros w64 (n / 2 ^ s))
first_shifted n s fits some =
    let less : n / 2 ^ s ≤ n = div-le_self n (2 ^ s) in
    let rest_fits : n / 2 ^ s < 2 ^ 64 = omega arith in
    let z = bit_at-trailing_zeros w64 (n / 2 ^ s) some rest_fits in
    let is = sym (bit_at-shifted n s (trailing_zeros w64 (n / 2 ^ s))) ∙ z.1 in
    record {
      above = omega arith;
      below = below_width n _ fits is;
      is_set = is;
      least = λ i le lt.
          let e : i ≡ s + (i - s) = omega arith in
          ap (bit_at n) e ∙ sym (bit_at-shifted n s (i - s)) ∙ z.2 (i - s) (omega arith);
    }

low_side : (first i : ℕ) → first < 64 → i < 64 → (bit_at ((2 ^ 64 - 1) * 2 ^ first % 2 ^ 64) i == 1) ≡ nat_le first i
low_side first i fits lt =
    ap (λ v. bit_at v i == 1) (ones_shl 64 first (omega arith)) ∙ elim (cases_lt i first) [
      | inl less ↦ rw (bit_at_mask_below first 64 i less) (grind (arith, nat_tests))
      | inr more ↦ rw (bit_at_mask_inside first 64 i more lt) (grind (arith, nat_tests))
    ]

high_side : (last i : ℕ) → last < 64 → (bit_at ((2 ^ 64 - 1) / 2 ^ (63 - last)) i == 1) ≡ nat_le i last
high_side last i fits =
    let e : 64 - (63 - last) ≡ last + 1 = omega arith in
    ap (λ v. bit_at v i == 1) (ones_shr 64 (63 - last) (omega arith) ∙ ap (λ v. 2 ^ v - 1) e) ∙ elim (cases_lt i (last + 1)) [
      | inl less ↦ rw (bit_at_ones (last + 1) i less) (grind (arith, nat_tests))
      | inr more ↦ rw (bit_at_ones_above (last + 1) i more) (grind (arith, nat_tests))
    ]

pub bits_of_range :
    (first last i : ℕ) → first < 64 → last < 64 → i < 64
    → (bit_at (bit_and ((2 ^ 64 - 1) * 2 ^ first % 2 ^ 64) ((2 ^ 64 - 1) / 2 ^ (63 - last))) i == 1) ≡ (nat_le first i && nat_le i last)
bits_of_range first last i lf ll li =
    bit-and _ _ i ∙ (λ j. low_side first i lf li j && high_side last i ll j)
