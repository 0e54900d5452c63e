-- A printed range is an item that has no blanks and names its numbers.
use Rattle.std.proofs.Common.{◌≡◌, ℕ, ◌+◌, ◌-◌, ◌^◌, ◌<◌, Bool, true, false, List, [], ◌∷◌, ◌++◌, length, take, drop, decimal, Some, None, refl, sym, ap, ◌∙◌, ⊎_elim, arith, append_assoc, length-append}
use Rattle.std.specs.Char.{is_ascii_digit}
use Rattle.std.specs.List.{All, prefix_len, suffix_len, position_or_len}
use Rattle.std.specs.Option.{option_zip}
use Rattle.std.specs.Prelude.{position}
use Rattle.std.proofs.lemmas.Bool.{and_from, cases_eq, cond-true, cond-false, eq-eqb, lt-ltb, le-ltb}
use Rattle.std.proofs.lemmas.Fmt.{decimal_nonempty}
use Rattle.std.proofs.lemmas.List.{get_or_append_left, get_or_at, take_all, take_at, drop_at}
use Rattle.std.proofs.lemmas.List.Sums.{prefix_len_is, suffix_len_is, position_or_len_is}
use Rattle.cpu_list.specs.ListText.{is_hyphen, is_blank, trim_end, item_of, number_of, range_round, range_of}
use Rattle.cpu_list.specs.CanonicalList.{range_text}
use Rattle.cpu_list.proofs.RangeText.{range_text-apart}
use Rattle.cpu_list.proofs.TextBytes.{digits_alone, digits_value-printed, none_pass, digit-is_hyphen, is_range_byte, range_byte-is_blank, range_bytes}

number_of-decimal : (n : ℕ) → n < 2 ^ 64 → number_of (decimal n) ≡ Some n
unfolding number_of
number_of-decimal n fits =
    cond-true _ _ _ (and_from _ _ (lt-ltb 0 (length (decimal n)) (decimal_nonempty n fits)) (digits_alone n fits))
    ∙ ap (λ v. Some v) (digits_value-printed n fits)

no_hyphen : (n : ℕ) → n < 2 ^ 64 → All (λ b. is_hyphen b ≡ false) (decimal n)
no_hyphen n fits = none_pass is_ascii_digit is_hyphen digit-is_hyphen (decimal n) (digits_alone n fits)

pub position-none : (p : ℕ → Bool) (xs : List ℕ) → All (λ b. p b ≡ false) xs → position p xs ≡ None
position-none p xs none =
    let at : position_or_len p xs ≡ length xs = position_or_len_is p xs (length xs) 0 (omega arith) (λ k lt. none k 0 lt) (λ lt. absurd (omega arith)) in
    cond-false _ _ _ (le-ltb (position_or_len p xs) (length xs) (omega arith))

pub position-between : (p : ℕ → Bool) (xs : List ℕ) (y : ℕ) (ys : List ℕ) → All (λ b. p b ≡ false) xs → p y ≡ true → position p (xs ++ y ∷ ys) ≡ Some (length xs)
position-between p xs y ys none here =
    let long = length-append xs (y ∷ ys) in
    let at : position_or_len p (xs ++ y ∷ ys) ≡ length xs =
    position_or_len_is p (xs ++ y ∷ ys) (length xs) 0 (omega arith)
    (λ k lt. ap p (get_or_append_left xs (y ∷ ys) 0 k lt) ∙ none k 0 lt)
    (λ lt. ap p (get_or_at xs y ys 0 (length xs) refl) ∙ here) in
    cond-true _ _ _ (lt-ltb (position_or_len p (xs ++ y ∷ ys)) (length (xs ++ y ∷ ys)) (omega arith))
    ∙ ap (λ n. Some n) at

range_of-number : (n : ℕ) → n < 2 ^ 64 → range_of (decimal n) ≡ Some (n, n)
unfolding range_of
range_of-number n fits =
    ap (range_round (decimal n)) (position-none is_hyphen (decimal n) (no_hyphen n fits))
    ∙ ap (λ o. option_zip o o) (number_of-decimal n fits)

pub two_numbers : (a b : List ℕ) → option_zip (number_of (take (length a) (a ++ 45 ∷ b))) (number_of (drop (length a + 1) (a ++ 45 ∷ b))) ≡ option_zip (number_of a) (number_of b)
two_numbers a b =
    let whole : (a ++ 45 ∷ []) ++ b ≡ a ++ 45 ∷ b = append_assoc a (45 ∷ []) b in
    let left : take (length a) (a ++ 45 ∷ b) ≡ a = take_at a (45 ∷ b) (length a) refl in
    let right : drop (length a + 1) (a ++ 45 ∷ b) ≡ b = ap (drop (length a + 1)) (sym whole) ∙ drop_at (a ++ 45 ∷ []) b (length a + 1) (length-append a (45 ∷ [])) in
    ap (λ x. option_zip (number_of x) (number_of (drop (length a + 1) (a ++ 45 ∷ b)))) left
    ∙ ap (λ x. option_zip (number_of a) (number_of x)) right

range_of-two : (first last : ℕ) → first < 2 ^ 64 → last < 2 ^ 64 → range_of (decimal first ++ 45 ∷ decimal last) ≡ Some (first, last)
unfolding range_of
range_of-two first last one two =
    ap (range_round (decimal first ++ 45 ∷ decimal last)) (position-between is_hyphen (decimal first) 45 (decimal last) (no_hyphen first one) refl)
    ∙ two_numbers (decimal first) (decimal last)
    ∙ ap (λ o. option_zip o (number_of (decimal last))) (number_of-decimal first one)
    ∙ ap (λ o. option_zip (Some first) o) (number_of-decimal last two)

range_of-printed : (first last : ℕ) → first < 2 ^ 64 → last < 2 ^ 64 → range_of (range_text (first, last)) ≡ Some (first, last)
range_of-printed first last one two =
    ⊎_elim (λ same. ap range_of (cond-true _ _ _ (eq-eqb first last same)) ∙ range_of-number first one ∙ ap (λ n. Some (first, n)) same)
    (λ apart. ap range_of (range_text-apart first last apart) ∙ range_of-two first last one two)
    (cases_eq first last)

-- where there is no blank, all is the item
pub item_of-whole : (xs : List ℕ) → All (λ b. is_blank b ≡ false) xs → item_of xs ≡ xs
unfolding item_of
item_of-whole xs none =
    let front : prefix_len is_blank xs ≡ 0 = prefix_len_is is_blank xs 0 0 (omega arith) (λ k lt. absurd (omega arith)) (λ lt. none 0 0 lt) in
    let back : suffix_len is_blank xs ≡ length xs - length xs =
    suffix_len_is is_blank xs (length xs) 0 (omega arith) (λ k low lt. absurd (omega arith)) (λ some. none (length xs - 1) 0 (omega arith)) in
    ap (λ n. trim_end (drop n xs)) front ∙ take_all (length xs - suffix_len is_blank xs) xs (omega arith)

-- the item of a printed range names the range
pub range_of-item : (first last : ℕ) → first < 2 ^ 64 → last < 2 ^ 64 → range_of (item_of (range_text (first, last))) ≡ Some (first, last)
range_of-item first last one two =
    ap range_of (item_of-whole (range_text (first, last)) (none_pass is_range_byte is_blank range_byte-is_blank (range_text (first, last)) (range_bytes first last one two)))
    ∙ range_of-printed first last one two
