-- What is known of a word that writes a number in decimal digits.
use Rattle.std.proofs.Common.{◌≡◌, ℕ, zero, suc, ◌+◌, ◌*◌, ◌<◌, ◌≤◌, ◌^◌, Bool, true, false, List, length, get_or, take, take_all, Some, None, Result, Ok, Err, MatchOption, SomeIff, refl, ap, sym, ◌∙◌, arith, rules}
use Rattle.std.specs.Prelude.{decimal}
use Rattle.certificate_text.specs.NumberWord.{IsNumber}
use Rattle.std.specs.Char.{is_ascii_digit, digit_value}
use Rattle.std.specs.List.{list_all}
use Rattle.std.specs.Str.Parse.{digits_value}
use Rattle.std.proofs.lemmas.Str.Parse.{IsNumeralModel, numerals_by_value}
use Rattle.std.specs.Result.{OkIff, result_ok}
use Rattle.std.proofs.lemmas.Int.Digits.{digits_value_more}
use Rattle.std.proofs.lemmas.Str.Parse.{digits_value-take-le}
use Rattle.std.proofs.lemmas.List.Folds.{list_all_more, list_all_at}
use Rattle.std.proofs.lemmas.Fmt.{decimal_injective, digits_decimal, digits_value-decimal, decimal-digits_value, decimal_nonempty, first_decimal, decimal_digit}

abbrev pub AreDigits : List ℕ → Type 0
AreDigits word = list_all is_ascii_digit word ≡ true

pub own : IsNumeralModel AreDigits (digits_value 10)
own = numerals_by_value AreDigits (search rules)

-- the digits of a number, at least one, and none before it is 0
pub record WritesNumber (word : List ℕ) (n : ℕ) : Type 0 where
  pub some : 0 < length word
  pub leading : get_or word 0 0 ≡ 48 → length word ≡ 1
  pub digits : list_all is_ascii_digit word ≡ true
  pub value : digits_value 10 word ≡ n

decimal_leading : (n : ℕ) → n < 2 ^ 64 → get_or (decimal n) 0 0 ≡ 48 → length (decimal n) ≡ 1
decimal_leading zero h e = ap length (decimal_digit 0 (omega arith))
decimal_leading (suc n) h e = absurd (omega (arith, first_decimal (suc n) (omega arith) h))

pub writes_number : (word : List ℕ) (n : ℕ) → IsNumber (2 ^ 64) word n → WritesNumber word n
writes_number word n h = rw h.digits (record {
  some = decimal_nonempty n h.fits;
  leading = decimal_leading n h.fits;
  digits = digits_decimal own n h.fits;
  value = digits_value-decimal own n h.fits;
})

pub decimal_written : (word : List ℕ) → 0 < length word → (get_or word 0 0 ≡ 48 → length word ≡ 1) → AreDigits word
    → digits_value 10 word < 2 ^ 64 → word ≡ decimal (digits_value 10 word)
decimal_written word some leading digits fits = sym (decimal-digits_value own word digits some leading fits)

-- one more digit is no digit, or too much: the word writes no number below the limit
pub no_number : (word : List ℕ) (i number : ℕ) → i < length word → number ≡ digits_value 10 (take i word)
    → SomeIff None ((is_ascii_digit (get_or word i 0) ≡ true) × (number * 10 + digit_value (get_or word i 0) < 2 ^ 64)) (number * 10 + digit_value (get_or word i 0))
    → (n : ℕ) → IsNumber (2 ^ 64) word n → ⊥
no_number word i number within so_far fails n h =
    let facts = writes_number word n h in
    fails (here (is_ascii_digit (get_or word i 0)) refl facts.digits, fits facts.value)
  where
    here : (b : Bool) → is_ascii_digit (get_or word i 0) ≡ b → AreDigits word → is_ascii_digit (get_or word i 0) ≡ true
    here true e d = e
    here false e d = absurd (grind (arith, list_all_at is_ascii_digit word i 0 within e))

    fits : digits_value 10 word ≡ n → number * 10 + digit_value (get_or word i 0) < 2 ^ 64
    fits v = omega (arith, digits_value_more 10 word i within, digits_value-take-le 10 word (i + 1) (omega arith))

pub one_more : (word : List ℕ) (i number next : ℕ) → i < length word → AreDigits (take i word) → number ≡ digits_value 10 (take i word)
    → SomeIff (Some next) ((is_ascii_digit (get_or word i 0) ≡ true) × (number * 10 + digit_value (get_or word i 0) < 2 ^ 64)) (number * 10 + digit_value (get_or word i 0))
    → AreDigits (take (i + 1) word) × (next ≡ digits_value 10 (take (i + 1) word)) × (next < 2 ^ 64)
one_more word i number next within digits so_far more =
    (list_all_more is_ascii_digit word i 0 within ∙ rw (digits, more.0.0) refl, rw (digits_value_more 10 word i within, ← so_far) more.1, rw more.1 more.0.1)

-- the number in 32 bits
pub fits_32 : {E : Type 0} (word : List ℕ) (number : ℕ) (r : Result ℕ E) → IsNumber (2 ^ 64) word number
    → OkIff r (number < 2 ^ 32) number → MatchOption (result_ok r) ((n : ℕ) → IsNumber (2 ^ 32) word n → ⊥) (λ n. IsNumber (2 ^ 32) word n)
fits_32 word number (Ok n) h ok = rw ok.1 (record { digits = h.digits; fits = ok.0 })
fits_32 word number (Err x) h ok = λ n m.
    let small : n < 2 ^ 32 = m.fits in
    let same : n ≡ number = decimal_injective n number (omega arith) h.fits (sym m.digits ∙ h.digits) in
    ok (rw (← same) small)

-- the number below a limit
pub below : (limit number : ℕ) (word : List ℕ) → IsNumber (2 ^ 64) word number → number < limit → IsNumber limit word number
below limit number word h lt = record { digits = h.digits; fits = lt }

pub not_below : (limit number : ℕ) (word : List ℕ) → limit < 2 ^ 64 → IsNumber (2 ^ 64) word number → limit ≤ number → (n : ℕ) → IsNumber limit word n → ⊥
not_below limit number word low h past n m =
    let small : n < limit = m.fits in
    let same : n ≡ number = decimal_injective n number (omega arith) h.fits (sym m.digits ∙ h.digits) in
    absurd (omega (arith, small, same, past))

pub none_below : (limit : ℕ) (word : List ℕ) → limit < 2 ^ 64 → ((n : ℕ) → IsNumber (2 ^ 64) word n → ⊥) → (n : ℕ) → IsNumber limit word n → ⊥
none_below limit word low none n h = none n (record { digits = h.digits; fits = omega (arith, h.fits, low) })

-- all digits are read
pub all_read : (word : List ℕ) (i number : ℕ) → length word ≤ i → 0 < length word → (get_or word 0 0 ≡ 48 → length word ≡ 1)
    → AreDigits (take i word) → number ≡ digits_value 10 (take i word) → number < 2 ^ 64 → IsNumber (2 ^ 64) word number
all_read word i number past some leading digits value fits =
    let whole : take i word ≡ word = take_all i word past in
    let v : number ≡ digits_value 10 word = rw whole at value in
    record { digits = rw v (decimal_written word some leading (rw whole at digits) (rw v at fits)); fits = fits }
