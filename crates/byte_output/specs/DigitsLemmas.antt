-- A number that is read digit by digit, and never rises above a limit.
use Rattle.std.proofs.Common.{◌≡◌, ℕ, ◌+◌, ◌-◌, ◌*◌, ◌<◌, ◌≤◌, min, true, List, length, get_or, take, sym, ap, ◌∙◌, arith}
use Rattle.std.specs.Char.{is_ascii_digit, digit_value}
use Rattle.std.specs.List.{list_all}
use Rattle.std.specs.Str.Parse.{digits_value}
use Rattle.std.proofs.lemmas.Int.Digits.{digits_value_more}
use Rattle.std.proofs.lemmas.Bool.{and_from}
use Rattle.std.proofs.lemmas.Bool.Decides.{nat_tests}
use Rattle.std.proofs.lemmas.Str.{digit_value_digit}
use Rattle.std.proofs.lemmas.List.Folds.{list_all_more}

-- the numbers that a capped reading has seen so far
pub record IsCapped (digits : List ℕ) (limit i number : ℕ) : Type 0 where
  pub all_digits : list_all is_ascii_digit (take i digits) ≡ true
  pub capped : number ≡ min limit (digits_value 10 (take i digits))

digit_fits : (c : ℕ) → is_ascii_digit c ≡ true → (48 ≤ c) × (c ≤ 57)
digit_fits c d = (grind (arith, nat_tests), grind (arith, nat_tests))

value_of_digit : (c : ℕ) → is_ascii_digit c ≡ true → digit_value c ≡ c - 48
value_of_digit c d = let fits = digit_fits c d in omega (arith, digit_value_digit c fits)

min-step : (limit n d : ℕ) → min limit (min limit n * 10 + d) ≡ min limit (n * 10 + d)
min-step limit n d = omega arith

-- one digit more
pub capped_more : (digits : List ℕ) (limit i number next : ℕ) → i < length digits → IsCapped digits limit i number
    → is_ascii_digit (get_or digits i 0) ≡ true → next ≡ min limit (number * 10 + (get_or digits i 0 - 48)) → IsCapped digits limit (i + 1) next
capped_more digits limit i number next lt h d e = record {
  all_digits = list_all_more is_ascii_digit digits i 0 lt ∙ and_from _ _ h.all_digits d;
  capped =
      e ∙ ap (λ n. min limit (n * 10 + (get_or digits i 0 - 48))) h.capped
      ∙ ap (λ v. min limit (min limit (digits_value 10 (take i digits)) * 10 + v)) (sym (value_of_digit (get_or digits i 0) d))
      ∙ min-step limit (digits_value 10 (take i digits)) (digit_value (get_or digits i 0))
      ∙ ap (min limit) (sym (digits_value_more 10 digits i lt));
}
