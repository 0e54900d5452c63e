-- An item of digits, or of two numbers with a hyphen between, as it stands at the front of a list.
use Rattle.std.proofs.Common.{◌≡◌, ℕ, ◌+◌, ◌-◌, ◌*◌, ◌<◌, ◌≤◌, true, false, min, List, [], ◌∷◌, ◌++◌, length, take, drop, get_or, Some, None, refl, sym, ap, ◌∙◌, arith, append_assoc, take-append-drop, length-drop}
use Rattle.std.specs.Char.{is_ascii_digit}
use Rattle.std.specs.List.{All, list_all, before_first}
use Rattle.std.specs.Option.{option_zip}
use Rattle.std.specs.Str.Parse.{digits_value}
use Rattle.std.proofs.lemmas.Bool.{and_from, or_left, cond-true, lt-ltb}
use Rattle.std.proofs.lemmas.Bool.Decides.{nat_tests}
use Rattle.std.proofs.lemmas.List.{get_or-take, take_more, length-take-le, get_or-drop}
use Rattle.std.proofs.lemmas.List.Folds.{list_all-append}
use Rattle.std.proofs.lemmas.List.Sums.{position_or_len_is}
use Rattle.std.proofs.Math.Seq.{take-append-add}
use Rattle.cpu_list.specs.ListText.{is_comma, is_hyphen, is_blank, item_of, number_of, range_round, range_of, range_names, piece_names}
use Rattle.cpu_list.specs.FirstFault.{item_fault, range_fault}
use Rattle.cpu_list.specs.Plain.{IsFront, IsPlain}
use Rattle.byte_output.specs.DigitsLemmas.{IsCapped, capped_more}
use Rattle.cpu_list.proofs.RangeReads.{position-none, position-between, two_numbers, item_of-whole}
use Rattle.cpu_list.proofs.TextBytes.{all_pass_weaker, none_pass, digit-is_hyphen, is_range_byte, range_byte-is_blank, range_byte-is_comma}

number_of-digits : (ds : List ℕ) → 0 < length ds → list_all is_ascii_digit ds ≡ true → number_of ds ≡ Some (digits_value 10 ds)
unfolding number_of
number_of-digits ds some digits = cond-true _ _ _ (and_from _ _ (lt-ltb 0 (length ds) some) digits)

range_of-digits : (ds : List ℕ) → 0 < length ds → list_all is_ascii_digit ds ≡ true → range_of ds ≡ Some (digits_value 10 ds, digits_value 10 ds)
unfolding range_of
range_of-digits ds some digits =
    ap (range_round ds) (position-none is_hyphen ds (none_pass is_ascii_digit is_hyphen digit-is_hyphen ds digits))
    ∙ ap (λ o. option_zip o o) (number_of-digits ds some digits)

range_of-pair :
    (a b : List ℕ) → 0 < length a → 0 < length b → list_all is_ascii_digit a ≡ true → list_all is_ascii_digit b ≡ true
    → range_of (a ++ 45 ∷ b) ≡ Some (digits_value 10 a, digits_value 10 b)
unfolding range_of
range_of-pair a b some_a some_b digits_a digits_b =
    ap (range_round (a ++ 45 ∷ b)) (position-between is_hyphen a 45 b (none_pass is_ascii_digit is_hyphen digit-is_hyphen a digits_a) refl)
    ∙ two_numbers a b
    ∙ ap (λ o. option_zip o (number_of b)) (number_of-digits a some_a digits_a)
    ∙ ap (λ o. option_zip (Some (digits_value 10 a)) o) (number_of-digits b some_b digits_b)

digits_are_plain : (ds : List ℕ) → list_all is_ascii_digit ds ≡ true → list_all is_range_byte ds ≡ true
digits_are_plain ds digits = all_pass_weaker is_ascii_digit is_range_byte (λ b d. or_left _ _ d) ds digits

pair_is_plain : (a b : List ℕ) → list_all is_ascii_digit a ≡ true → list_all is_ascii_digit b ≡ true → list_all is_range_byte (a ++ 45 ∷ b) ≡ true
pair_is_plain a b digits_a digits_b =
    list_all-append is_range_byte a (45 ∷ b) ∙ and_from _ _ (digits_are_plain a digits_a) (digits_are_plain b digits_b)

-- the first piece ends where no comma stood before
first_piece_is :
    (text : List ℕ) (n : ℕ) → n ≤ length text → list_all is_range_byte (take n text) ≡ true → (n < length text → is_comma (get_or text n 0) ≡ true)
    → before_first is_comma text ≡ take n text
first_piece_is text n within plain ends =
    let long : length (take n text) ≡ n = length-take-le n text within in
    let none : All (λ b. is_comma b ≡ false) (take n text) = none_pass is_range_byte is_comma range_byte-is_comma (take n text) plain in
    ap (λ k. take k text)
    (position_or_len_is is_comma text n 0 within (λ k lt. ap is_comma (sym (get_or-take n text k 0 lt)) ∙ none k 0 (omega arith)) ends)

plain_piece :
    (text piece : List ℕ) (n first last : ℕ) → n ≤ length text → take n text ≡ piece → list_all is_range_byte piece ≡ true
    → (n < length text → is_comma (get_or text n 0) ≡ true) → range_of piece ≡ Some (first, last) → IsPlain text first last n
plain_piece text piece n first last within is plain ends range =
    let front : before_first is_comma text ≡ piece = first_piece_is text n within (ap (list_all is_range_byte) is ∙ plain) ends ∙ is in
    record {
      long_is = sym (ap length (front ∙ sym is) ∙ length-take-le n text within);
      range_is = ap (λ p. range_of (item_of p)) front ∙ ap range_of (item_of-whole piece (none_pass is_range_byte is_blank range_byte-is_blank piece plain)) ∙ range;
    }

below_cap : (limit n v : ℕ) → n ≡ min limit v → n < limit → v ≡ n
below_cap limit n v e lt = omega arith

pub IsPlain-one :
    (text : List ℕ) (limit first count : ℕ) → IsFront text limit first count → 0 < count → first < limit
    → (count < length text → is_comma (get_or text count 0) ≡ true) → IsPlain text first first count
IsPlain-one text limit first count front some below ends =
    let long : length (take count text) ≡ count = length-take-le count text front.within in
    let value = below_cap limit first _ front.capped below in
    plain_piece text (take count text) count first first front.within refl (digits_are_plain (take count text) front.all_digits) ends
    (range_of-digits (take count text) (omega arith) front.all_digits ∙ ap (λ v. Some (v, v)) value)

pair_taken :
    (text : List ℕ) (count more : ℕ) → count < length text → get_or text count 0 ≡ 45
    → take (count + 1 + more) text ≡ take count text ++ 45 ∷ take more (drop (count + 1) text)
pair_taken text count more lt hyphen =
    let long : length (take (count + 1) text) ≡ count + 1 = length-take-le (count + 1) text (omega arith) in
    let front : take (count + 1) text ≡ take count text ++ 45 ∷ [] = take_more text count 0 lt ∙ ap (λ b. take count text ++ b ∷ []) hyphen in
    ap (λ t. take (count + 1 + more) t) (sym (take-append-drop (count + 1) text))
    ∙ ap (λ n. take (n + more) (take (count + 1) text ++ drop (count + 1) text)) (sym long)
    ∙ take-append-add (take (count + 1) text) (drop (count + 1) text) more
    ∙ ap (λ t. t ++ take more (drop (count + 1) text)) front
    ∙ append_assoc (take count text) (45 ∷ []) (take more (drop (count + 1) text))

pub IsPlain-two :
    (text after : List ℕ) (limit first last count more : ℕ) → IsFront text limit first count → IsFront after limit last more
    → after ≡ drop (count + 1) text → count < length text → get_or text count 0 ≡ 45 → 0 < count → 0 < more → first < limit → last < limit
    → (more < length after → is_comma (get_or after more 0) ≡ true)
    → IsPlain text first last (count + 1 + more)
IsPlain-two text after limit first last count more front back is lt hyphen some_a some_b below_a below_b ends =
    let sizes : length after ≡ length text - (count + 1) = ap length is ∙ length-drop (count + 1) text in
    let within : more ≤ length after = back.within in
    let long_a : length (take count text) ≡ count = length-take-le count text front.within in
    let long_b : length (take more after) ≡ more = length-take-le more after back.within in
    let taken : take (count + 1 + more) text ≡ take count text ++ 45 ∷ take more after = pair_taken text count more lt hyphen ∙ ap (λ t. take count text ++ 45 ∷ take more t) (sym is) in
    let at : get_or after more 0 ≡ get_or text (count + 1 + more) 0 = ap (λ t. get_or t more 0) is ∙ get_or-drop (count + 1) text more 0 in
    plain_piece text (take count text ++ 45 ∷ take more after) (count + 1 + more) first last (omega arith) taken
    (pair_is_plain (take count text) (take more after) front.all_digits back.all_digits)
    (λ inside. ap is_comma (sym at) ∙ ends (omega arith))
    (range_of-pair (take count text) (take more after) (omega arith) (omega arith) front.all_digits back.all_digits
    ∙ (λ i. Some (below_cap limit first _ front.capped below_a i, below_cap limit last _ back.capped below_b i)))

no_range_fault : (limit first last : ℕ) → first ≤ last → last < limit → range_fault limit (Some (first, last)) ≡ None
no_range_fault limit first last rising below = grind (arith, nat_tests)

right_item : (limit first last : ℕ) (item : List ℕ) → range_of item ≡ Some (first, last) → first ≤ last → last < limit → item_fault limit item ≡ None
right_item limit first last [] is rising below = refl
right_item limit first last (b ∷ bytes) is rising below = ap (range_fault limit) is ∙ no_range_fault limit first last rising below

-- a plain item is right
pub plain_is_right : (text : List ℕ) (limit first last long : ℕ) → IsPlain text first last long → first ≤ last → last < limit → item_fault limit (item_of (before_first is_comma text)) ≡ None
plain_is_right text limit first last long plain rising below = right_item limit first last _ plain.range_is rising below

-- and names the numbers of its range
pub plain_names : (text : List ℕ) (first last long n : ℕ) → IsPlain text first last long → piece_names n (before_first is_comma text) ≡ range_names (Some (first, last)) n
plain_names text first last long n plain = ap (λ r. range_names r n) plain.range_is

-- one digit more
pub front_more :
    (text : List ℕ) (limit count number next : ℕ) → count < length text → IsFront text limit number count
    → is_ascii_digit (get_or text count 0) ≡ true → next ≡ min limit (number * 10 + (get_or text count 0 - 48)) → IsFront text limit next (count + 1)
front_more text limit count number next lt front digit is =
    let more : IsCapped text limit (count + 1) next = capped_more text limit count number next lt (record { all_digits = front.all_digits; capped = front.capped }) digit is in
    record { within = omega arith; all_digits = more.all_digits; capped = more.capped }
