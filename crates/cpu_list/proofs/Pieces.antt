-- A text that is read piece by piece, and what an empty item says.
use Rattle.std.proofs.Common.{◌≡◌, ℕ, ◌+◌, ◌-◌, ◌<◌, ◌≤◌, Bool, cond, not, ◌||◌, leb, List, [], ◌∷◌, length, drop, sym, ap, ◌∙◌, arith, length-drop, drop-drop, ⊎_elim}
use Rattle.std.specs.List.{position_or_len, before_first}
use Rattle.std.proofs.lemmas.Bool.{cases_lt, le-leb, lt-leb, cond-true, cond-false}
use Rattle.std.proofs.lemmas.List.{take_all}
use Rattle.std.proofs.lemmas.List.Folds.{length-prefix_len}
use Rattle.std.proofs.lemmas.List.Splits.{slice_split_first, slice_split_none}
use Rattle.std.proofs.lemmas.List.Sums.{fails_before_first, prefix_len-le-length}
use Rattle.cpu_list.specs.ListText.{is_comma, pieces, item_of, range_of, range_names, piece_names}
use Rattle.cpu_list.specs.ItemFaultLaws.{range_of-nil}
use Rattle.std.proofs.Math.Bool.{or-false}

-- the pieces of a text from a place on; none past its end
abbrev pub pieces_from : List ℕ → ℕ → List (List ℕ)
pieces_from text at = cond (leb at (length text)) (pieces (drop at text)) []

before : (text : List ℕ) → length (before_first is_comma text) ≡ position_or_len is_comma text
before text = length-prefix_len _ text

pub pieces_none : (text : List ℕ) → pieces_from text 0 ≡ pieces text
pieces_none text = cond-true _ _ _ (le-leb 0 (length text) (omega arith))

-- the first piece from a place on ends in the text
pub first_fits : (text : List ℕ) (at : ℕ) → at ≤ length text → length (before_first is_comma (drop at text)) + at ≤ length text
first_fits text at low =
    omega (arith, before (drop at text), prefix_len-le-length (λ b. not (is_comma b)) (drop at text), length-drop at text)

-- the last piece is all that is left
at_end : (text : List ℕ) → length text ≤ position_or_len is_comma text → pieces text ≡ before_first is_comma text ∷ []
at_end text far =
    slice_split_none is_comma text (λ k d lt. fails_before_first is_comma text k d (omega arith))
    ∙ ap (λ p. p ∷ []) (sym (take_all (position_or_len is_comma text) text far))

-- the first of the pieces from a place on, and the pieces after its comma
pub pieces_more : (text : List ℕ) (at : ℕ) → at ≤ length text
    → pieces_from text at ≡ before_first is_comma (drop at text) ∷ pieces_from text (at + (length (before_first is_comma (drop at text)) + 1))
pieces_more text at low =
    let rest = drop at text in
    let p = position_or_len is_comma rest in
    let len : length rest ≡ length text - at = length-drop at text in
    let first : length (before_first is_comma rest) ≡ p = before rest in
    let next = at + (length (before_first is_comma rest) + 1) in
    let now : pieces_from text at ≡ pieces rest = cond-true _ _ _ (le-leb at (length text) low) in
    now ∙ ⊎_elim (λ lt.
    slice_split_first is_comma rest 0 lt
    ∙ ap (λ more. before_first is_comma rest ∷ pieces more) (drop-drop (p + 1) at text)
    ∙ ap (λ n. before_first is_comma rest ∷ pieces (drop (at + (n + 1)) text)) (sym first)
    ∙ ap (λ more. before_first is_comma rest ∷ more) (sym (cond-true _ _ _ (le-leb next (length text) (omega arith)))))
    (λ far. at_end rest far ∙ ap (λ more. before_first is_comma rest ∷ more) (sym (cond-false _ _ _ (lt-leb next (length text) (omega arith)))))
    (cases_lt p (length rest))

pub pieces_all : (text : List ℕ) (at : ℕ) → length text < at → pieces_from text at ≡ []
pieces_all text at past = cond-false _ _ _ (lt-leb _ _ past)

-- an empty item names no number
pub nothing_named : (piece : List ℕ) (n : ℕ) (was : Bool) → item_of piece ≡ [] → was ≡ (was || piece_names n piece)
nothing_named piece n was e = sym (or-false was) ∙ ap (λ r. was || range_names r n) (sym (ap range_of e ∙ range_of-nil))
