-- A list that is read piece by piece: what is left holds the first fault, and the numbers that were not met yet.
use Rattle.std.proofs.Common.{◌≡◌, ℕ, ◌+◌, ◌<◌, ◌≤◌, Bool, true, false, ◌||◌, List, ◌∷◌, length, drop, Some, None, sym, ap, ◌∙◌, arith}
use Rattle.std.specs.List.{before_first, list_any}
use Rattle.std.specs.Option.{option_or, option_map}
use Rattle.cpu_list.specs.declared.fault.ListErrorKind.{ListErrorKind}
use Rattle.cpu_list.specs.ListText.{is_comma, leading_blanks, item_of, names, piece_names, IsList}
use Rattle.cpu_list.specs.FirstFault.{item_fault, faults_from, first_fault}
use Rattle.faults.specs.First.{first_of}
use Rattle.cpu_list.specs.FirstFaultLaws.{none_where_list}
use Rattle.cpu_list.proofs.Pieces.{pieces_from, pieces_none, pieces_more, pieces_all, first_fits}
use Rattle.std.proofs.Math.Bool.{or-false}

-- the pieces before this place are right, and name the numbers that pass the test
pub record IsRead (text : List ℕ) (limit at : ℕ) (has : ℕ → Bool) : Type 0 where
  pub in_text : at ≤ length text + 1
  pub no_fault : first_of (faults_from limit at (pieces_from text at)) ≡ first_fault limit text
  pub named : (n : ℕ) → (has n || list_any (piece_names n) (pieces_from text at)) ≡ names text n

pub IsRead-none : (text : List ℕ) (limit : ℕ) (has : ℕ → Bool) → ((n : ℕ) → has n ≡ false) → IsRead text limit 0 has
IsRead-none text limit has none = record {
  in_text = omega arith;
  no_fault = ap (λ ps. first_of (faults_from limit 0 ps)) (pieces_none text);
  named = λ n.
      ap (λ ps. has n || list_any (piece_names n) ps) (pieces_none text) ∙ ap (λ b. b || names text n) (none n);
}

-- the fault of the next piece is the first
pub IsRead-fault : (text piece : List ℕ) (limit at place : ℕ) (has : ℕ → Bool) (kind : ListErrorKind) → IsRead text limit at has → at ≤ length text
    → piece ≡ before_first is_comma (drop at text) → item_fault limit (item_of piece) ≡ Some kind → place ≡ leading_blanks piece
    → first_fault limit text ≡ Some (record { at = at + place; kind = kind })
IsRead-fault text piece limit at place has kind h low first fault e =
    sym h.no_fault ∙ ap (λ ps. first_of (faults_from limit at ps)) (pieces_more text at low) ∙ (
    rw (← first)
    (ap (λ o. option_or (option_map (λ k. record { at = at + leading_blanks piece; kind = k }) o) (first_of (faults_from limit (at + (length piece + 1)) (pieces_from text (at + (length piece + 1)))))) fault
    ∙ ap (λ p. Some (record { at = at + p; kind = kind })) (sym e)))

or_parts : (a b c d : Bool) → d ≡ (a || b) → (d || c) ≡ (a || (b || c))
or_parts true b c d e = ap (λ x. x || c) e
or_parts false b c d e = ap (λ x. x || c) e

-- the next piece is right, and what it names passes now
pub IsRead-more : (text piece : List ℕ) (limit at : ℕ) (had has : ℕ → Bool) → IsRead text limit at had → at ≤ length text
    → piece ≡ before_first is_comma (drop at text) → item_fault limit (item_of piece) ≡ None
    → ((n : ℕ) → has n ≡ (had n || piece_names n piece)) → IsRead text limit (at + (length piece + 1)) has
IsRead-more text piece limit at had has h low first right added = record {
  in_text = let fits : length piece + at ≤ length text = rw first (first_fits text at low) in omega arith;
  no_fault =
      sym (ap (λ o. option_or (option_map (λ k. record { at = at + leading_blanks piece; kind = k }) o) (first_of (faults_from limit (at + (length piece + 1)) (pieces_from text (at + (length piece + 1)))))) right)
      ∙ sym (ap (λ ps. first_of (faults_from limit at ps)) (pieces_more text at low ∙ next_is))
      ∙ h.no_fault;
  named = λ n.
      or_parts (had n) (piece_names n piece) _ _ (added n)
      ∙ sym (ap (λ ps. had n || list_any (piece_names n) ps) (pieces_more text at low ∙ next_is)) ∙ h.named n;
} where
  next_is : (before_first is_comma (drop at text) ∷ pieces_from text (at + (length (before_first is_comma (drop at text)) + 1))) ≡ (piece ∷ pieces_from text (at + (length piece + 1)))
  next_is = ap (λ p. p ∷ pieces_from text (at + (length p + 1))) (sym first)

-- no piece is left
pub IsRead-all : (text : List ℕ) (limit at : ℕ) (has : ℕ → Bool) → IsRead text limit at has → length text < at
    → (first_fault limit text ≡ None) × ((n : ℕ) → has n ≡ names text n) × IsList limit text
IsRead-all text limit at has h past =
    let none = sym h.no_fault ∙ ap (λ ps. first_of (faults_from limit at ps)) (pieces_all text at past) in (
      none,
      λ n. sym (or-false (has n)) ∙ sym (ap (λ ps. has n || list_any (piece_names n) ps) (pieces_all text at past)) ∙ h.named n,
      (none_where_list limit text).0 none,
    )
