-- The bounds of each item, the numbers that a list names, and the digits that are printed.
use Rattle.std.proofs.Common.{◌≡◌, ℕ, false, ◌&&◌, ◌||◌, nat_eq, nat_le, [], ◌∷◌, inl, inr, refl, ◌∙◌, lit≤, lit<, arith}
use Rattle.std.proofs.lemmas.Bool.Decides.{nat_tests}
use Rattle.std.proofs.lemmas.Fmt.{decimal_digit}
use Rattle.std.specs.FinSet.{contains-from_list_nat}
use Rattle.cpu_list.specs.ListText.{item_of, number_of, range_of}
use Rattle.cpu_list.proofs.laws.worked.Goals as goal

pub returns-clause-list : goal.returns-clause-list
unfolding item_of number_of range_of
returns-clause-list c = (inr (1, 3, refl, lit≤ tt, lit< tt), (inr (5, 5, refl, lit≤ tt, lit< tt), tt))

pub returns-clause-blanks_and_zeros : goal.returns-clause-blanks_and_zeros
unfolding item_of number_of range_of
returns-clause-blanks_and_zeros c = (inr (5, 5, refl, lit≤ tt, lit< tt), (inl refl, (inr (3, 3, refl, lit≤ tt, lit< tt), tt)))

same_numbers : (n : ℕ) → (nat_eq 1 n || (nat_eq 2 n || (nat_eq 3 n || (nat_eq 5 n || false)))) ≡ ((nat_le 1 n && nat_le n 3) || ((nat_le 5 n && nat_le n 5) || false))
same_numbers n = grind (arith, nat_tests)

pub returns-clause-set_named : goal.returns-clause-set_named
unfolding item_of number_of range_of
returns-clause-set_named c n = contains-from_list_nat (1 ∷ 2 ∷ 3 ∷ 5 ∷ []) n ∙ same_numbers n

pub returns-clause-printed : goal.returns-clause-printed
returns-clause-printed c = rw (decimal_digit 0 (lit< tt), decimal_digit 2 (lit< tt), decimal_digit 7 (lit< tt))
