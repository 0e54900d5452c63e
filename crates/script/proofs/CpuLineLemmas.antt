-- The lines by which a CPU goes offline and comes online are read as that.
use Rattle.std.proofs.Common.{◌≡◌, ℕ, ◌<◌, ◌≤◌, ◌^◌, true, false, nat_lt, nat_le, List, [], ◌∷◌, ◌++◌, length, codes, Some, All, refl, ap, ◌∙◌, arith, rules}
use Rattle.std.specs.Prelude.{decimal, not}
use Rattle.std.proofs.lemmas.Bool.{ltb-true, and_parts, not-true}
use Rattle.std.proofs.lemmas.List.Elements.{All-nil, All-cons}
use Rattle.std.proofs.lemmas.Bool.Decides.{nat_tests}
use Rattle.std.proofs.lemmas.Fmt.{digits_decimal, digits_value-decimal, decimal_nonempty, length-decimal-le}
use Rattle.std.proofs.lemmas.List.Splits.{slice_split_at, slice_split_none}
use Rattle.std.proofs.lemmas.Str.{IsUtf8-from_ascii, is_utf8-from_IsUtf8}
use Rattle.std.proofs.lemmas.Str.Ascii.{IsAscii-cons, IsAscii-nil}
use Rattle.std.proofs.lemmas.Str.Parse.{IsNumeralModel, numerals_by_value}
use Rattle.std.specs.Char.{is_ascii_digit}
use Rattle.std.specs.List.{filter, list_all}
use Rattle.std.specs.Str.{IsAscii, is_utf8}
use Rattle.std.specs.Str.Parse.{digits_value}
use Rattle.script.specs.CpuLines.{CpuLinesAreRead, offline_line, online_line}
use Rattle.script.specs.Lines.{is_blank, is_some_word, words_of}
use Rattle.script.specs.Requests.{number_of, request_of}

numerals : IsNumeralModel (λ ds. list_all is_ascii_digit ds ≡ true) (digits_value 10)
numerals = numerals_by_value _ (search rules)

small : (n : ℕ) → n < 2 ^ 32 → n < 2 ^ 64
small n h = omega (arith, h)

digits : (n : ℕ) → n < 2 ^ 32 → list_all is_ascii_digit (decimal n) ≡ true
digits n h = digits_decimal numerals n (small n h)

value : (n : ℕ) → n < 2 ^ 32 → digits_value 10 (decimal n) ≡ n
value n h = digits_value-decimal numerals n (small n h)

-- a digit is no blank
digit_no_blank : (d : ℕ) → is_ascii_digit d ≡ true → is_blank d ≡ false
digit_no_blank d e = grind (arith, nat_tests, e)

no_blank : (ds : List ℕ) → list_all is_ascii_digit ds ≡ true → All (λ b. is_blank b ≡ false) ds
no_blank [] e = All-nil (λ b. is_blank b ≡ false)
no_blank (d ∷ ds) e =
    let both = and_parts (is_ascii_digit d) (list_all is_ascii_digit ds) e in
    All-cons (λ b. is_blank b ≡ false) d ds (digit_no_blank d both.0) (no_blank ds both.1)

-- nor has a name one
not_blank : (name : List ℕ) → list_all (λ b. not (is_blank b)) name ≡ true → All (λ b. is_blank b ≡ false) name
not_blank [] e = All-nil (λ b. is_blank b ≡ false)
not_blank (b ∷ name) e =
    let both = and_parts (not (is_blank b)) (list_all (λ b. not (is_blank b)) name) e in
    All-cons (λ b. is_blank b ≡ false) b name (not-true (is_blank b) both.0) (not_blank name both.1)

some_word : (n : ℕ) → n < 2 ^ 32 → is_some_word (decimal n) ≡ true
some_word n h = grind (arith, nat_tests, decimal_nonempty n (small n h))

number : (n : ℕ) → n < 2 ^ 32 → number_of (decimal n) ≡ Some n
number n h = rw (some_word n h, digits n h, value n h) (grind (arith, nat_tests, h))

short : (n : ℕ) → n < 2 ^ 32 → length (decimal n) ≤ 10
short n h = length-decimal-le 10 n (omega arith) (omega (arith, h)) (small n h)

are_ascii : (word : List ℕ) → list_all (λ byte. nat_lt byte 128) word ≡ true → IsAscii word
are_ascii [] e = IsAscii-nil
are_ascii (byte ∷ word) e =
    let both = and_parts (nat_lt byte 128) (list_all (λ byte. nat_lt byte 128) word) e in
    IsAscii-cons byte word (ltb-true byte 128 both.0) (are_ascii word both.1)

is_text : (word : List ℕ) → list_all (λ byte. nat_lt byte 128) word ≡ true → is_utf8 word ≡ true
is_text word e = is_utf8-from_IsUtf8 word (IsUtf8-from_ascii word (are_ascii word e))

-- a name and a number are two words
two_words : (name : List ℕ) (n : ℕ) → n < 2 ^ 32 → All (λ b. is_blank b ≡ false) name → is_some_word name ≡ true
    → words_of (name ++ 32 ∷ decimal n) ≡ name ∷ decimal n ∷ []
two_words name n h plain some =
    ap (filter is_some_word) (slice_split_at is_blank name 32 (decimal n) plain refl ∙ ap (λ (ws : List (List ℕ)). name ∷ ws) (slice_split_none is_blank (decimal n) (no_blank (decimal n) (digits n h))))
    ∙ rw (some, some_word n h) refl

pub cpu_lines_are_read : CpuLinesAreRead
cpu_lines_are_read = record {
  offline = λ cpu h. (
    rw (let few : length (decimal cpu) ≤ 10 = short cpu h in let fits : nat_le (length (offline_line cpu)) 8192 ≡ true = grind (arith, nat_tests, few) in fits) refl,
    ap request_of (two_words (codes "offline") cpu h (not_blank (codes "offline") refl) refl)
        ∙ rw (is_text (codes "offline") refl, number cpu h) refl,
  );
  online = λ cpu h. (
    rw (let few : length (decimal cpu) ≤ 10 = short cpu h in let fits : nat_le (length (online_line cpu)) 8192 ≡ true = grind (arith, nat_tests, few) in fits) refl,
    ap request_of (two_words (codes "online") cpu h (not_blank (codes "online") refl) refl)
        ∙ rw (is_text (codes "online") refl, number cpu h) refl,
  );
}
