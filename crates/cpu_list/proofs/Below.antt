-- The numbers that a list names are below its limit.
use Rattle.std.proofs.Common.{◌≡◌, ℕ, ◌<◌, ◌≤◌, true, false, nat_le, List, [], ◌∷◌, inl, inr, sym, ap, ◌∙◌, arith}
use Rattle.std.specs.List.{AllByRecursion, list_any}
use Rattle.std.proofs.lemmas.Bool.{false≢true, or_cases, and_parts, leb-true}
use Rattle.cpu_set.specs.Ids.{Ids}
use Rattle.cpu_set.specs.Members.{InRange}
use Rattle.cpu_set.specs.declared.TheConstants.{CPU_LIMIT}
use Rattle.cpu_list.specs.ListText.{pieces, item_of, IsItem, IsList, range_names, piece_names, IsSetOf, ListIsBelow}
use Rattle.cpu_list.proofs.Pieces.{nothing_named}

item_below : (limit n : ℕ) (piece : List ℕ) → IsItem limit (item_of piece) → piece_names n piece ≡ true → n < limit
item_below limit n piece (inl e) named = absurd (false≢true (nothing_named piece n false e ∙ named))
item_below limit n piece (inr (first, last, e, rising, below)) named =
    let inside = and_parts (nat_le first n) (nat_le n last) (sym (ap (λ r. range_names r n) e) ∙ named) in
    let high : n ≤ last = leb-true n last inside.1 in
    omega (arith, below)

pieces_below : (limit n : ℕ) (ps : List (List ℕ)) → AllByRecursion (λ p. IsItem limit (item_of p)) ps → list_any (piece_names n) ps ≡ true → n < limit
pieces_below limit n [] right named = absurd (false≢true named)
pieces_below limit n (p ∷ more) right named =
    let later = pieces_below limit n more right.1 in
    elim (or_cases _ _ named) [ inl here ↦ item_below limit n p right.0 here | inr there ↦ later there ]

pub list_is_below : ListIsBelow
list_is_below limit text n right named = pieces_below limit n (pieces text) right named

-- the set of a list under a limit of CPU numbers has CPU numbers alone
pub InRange-from_list : (limit : ℕ) (text : List ℕ) (s : Ids) → limit ≤ CPU_LIMIT → IsList limit text → IsSetOf text s → InRange s
InRange-from_list limit text s small right members n member =
    let low = list_is_below limit text n right (sym (members n) ∙ member) in
    omega arith
