-- The bytes of numbers, ranges and lists as they are printed.
use Rattle.std.proofs.Common.{◌≡◌, ℕ, ◌^◌, ◌<◌, Bool, true, false, ◌||◌, List, ◌∷◌, decimal, ap, ◌∙◌, ⊎_elim, arith, rules}
use Rattle.std.specs.Char.{is_ascii_digit}
use Rattle.std.specs.List.{All, list_all}
use Rattle.std.specs.Str.Parse.{digits_value}
use Rattle.std.proofs.lemmas.Bool.{and_from, or_left, cases_eq, cond-true, eq-eqb}
use Rattle.std.proofs.lemmas.Bool.Decides.{nat_tests}
use Rattle.std.proofs.lemmas.Fmt.{digits_decimal, digits_value-decimal}
use Rattle.std.proofs.lemmas.List.Folds.{list_all-append}
use Rattle.std.proofs.lemmas.List.Sums.{AllPass-from_list_all, list_all-from_AllPass}
use Rattle.std.proofs.lemmas.Str.Parse.{IsNumeralModel, numerals_by_value}
use Rattle.cpu_list.specs.ListText.{is_comma, is_hyphen, is_blank}
use Rattle.cpu_list.specs.CanonicalList.{range_text}
use Rattle.cpu_list.specs.CanonicalLaws.{is_list_byte}
use Rattle.cpu_list.proofs.RangeText.{range_text-apart}

numerals : IsNumeralModel (λ ds. list_all is_ascii_digit ds ≡ true) (digits_value 10)
numerals = numerals_by_value _ (search rules)

pub digits_alone : (n : ℕ) → n < 2 ^ 64 → list_all is_ascii_digit (decimal n) ≡ true
digits_alone n fits = digits_decimal numerals n fits

pub digits_value-printed : (n : ℕ) → n < 2 ^ 64 → digits_value 10 (decimal n) ≡ n
digits_value-printed n fits = digits_value-decimal numerals n fits

-- what each byte passes, and what none does
pub all_pass_weaker : (p q : ℕ → Bool) → ((b : ℕ) → p b ≡ true → q b ≡ true) → (xs : List ℕ) → list_all p xs ≡ true → list_all q xs ≡ true
all_pass_weaker p q weaker xs e = list_all-from_AllPass q xs (λ k d lt. weaker _ (AllPass-from_list_all p xs e k d lt))

pub none_pass : (p q : ℕ → Bool) → ((b : ℕ) → p b ≡ true → q b ≡ false) → (xs : List ℕ) → list_all p xs ≡ true → All (λ b. q b ≡ false) xs
none_pass p q fails xs e k d lt = fails _ (AllPass-from_list_all p xs e k d lt)

-- a digit or a hyphen
abbrev pub is_range_byte : ℕ → Bool
is_range_byte b = is_ascii_digit b || is_hyphen b

pub digit-is_hyphen : (b : ℕ) → is_ascii_digit b ≡ true → is_hyphen b ≡ false
digit-is_hyphen b d = grind (arith, nat_tests)

pub range_byte-is_blank : (b : ℕ) → is_range_byte b ≡ true → is_blank b ≡ false
range_byte-is_blank b d = grind (arith, nat_tests)

pub range_byte-is_comma : (b : ℕ) → is_range_byte b ≡ true → is_comma b ≡ false
range_byte-is_comma b d = grind (arith, nat_tests)

pub range_byte-is_list_byte : (b : ℕ) → is_range_byte b ≡ true → is_list_byte b ≡ true
range_byte-is_list_byte b d = grind (arith, nat_tests)

number_bytes : (n : ℕ) → n < 2 ^ 64 → list_all is_range_byte (decimal n) ≡ true
number_bytes n fits = all_pass_weaker is_ascii_digit is_range_byte (λ b d. or_left _ _ d) (decimal n) (digits_alone n fits)

pub range_bytes : (first last : ℕ) → first < 2 ^ 64 → last < 2 ^ 64 → list_all is_range_byte (range_text (first, last)) ≡ true
range_bytes first last one two =
    ⊎_elim (λ same. ap (list_all is_range_byte) (cond-true _ _ _ (eq-eqb first last same)) ∙ number_bytes first one)
    (λ apart. ap (list_all is_range_byte) (range_text-apart first last apart)
    ∙ list_all-append is_range_byte (decimal first) (45 ∷ decimal last)
    ∙ and_from _ _ (number_bytes first one) (number_bytes last two))
    (cases_eq first last)
