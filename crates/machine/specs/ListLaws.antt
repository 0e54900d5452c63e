-- The set of a list is that of the numbers which it names.
use Rattle.std.proofs.Common.{◌≡◌, ℕ, ◌<◌, ◌≤◌, inl, inr, Bool, true, false, ◌&&◌, nat_lt, List, [], ◌∷◌, refl, sym, ap, ◌∙◌, arith}
use Rattle.std.specs.Prelude.{◌||◌, nat_le}
use Rattle.std.specs.List.{list_any, AllByRecursion}
use Rattle.std.proofs.lemmas.Bool.{false≢true}
use Rattle.std.proofs.lemmas.Bool.Decides.{nat_tests}
use Rattle.cpu_list.specs.ItemFaultLaws.{range_of-nil}
use Rattle.cpu_list.specs.ListText.{names, piece_names, range_names, range_of, item_of, pieces, IsItem, IsList, IsSetOf}
use Rattle.cpu_set.specs.ThoseLemmas.{contains-those}
use Rattle.cpu_set.specs.Ids.{Ids}
use Rattle.cpu_set.specs.PointwiseLaws.{same_members}
use Rattle.cpu_set.specs.declared.TheConstants.{CPU_LIMIT}
use Rattle.machine.specs.Listed.{set_of}

range_within : (limit n first last : ℕ) → last < limit → (nat_le first n && nat_le n last) ≡ true → n < limit
range_within limit n first last below named = grind (arith, nat_tests)

item_within : (limit n : ℕ) (item : List ℕ) → IsItem limit item → range_names (range_of item) n ≡ true → n < limit
item_within limit n item (inl empty) named =
    absurd (false≢true (sym (ap (λ i. range_names (range_of i) n) empty ∙ ap (λ r. range_names r n) range_of-nil) ∙ named))
item_within limit n item (inr (first, last, is, rising, below)) named =
    range_within limit n first last below (sym (ap (λ r. range_names r n) is) ∙ named)

one_of_two : (a b : Bool) (P : Type 0) → (a ≡ true → P) → (b ≡ true → P) → (a || b) ≡ true → P
one_of_two true b P f g e = f refl
one_of_two false b P f g e = g e

pieces_within :
    (limit n : ℕ) (ps : List (List ℕ)) → AllByRecursion (λ p. IsItem limit (item_of p)) ps
    → list_any (piece_names n) ps ≡ true → n < limit
pieces_within limit n [] right named = absurd (false≢true named)
pieces_within limit n (p ∷ ps) right named =
    one_of_two (piece_names n p) (list_any (piece_names n) ps) _
    (item_within limit n (item_of p) right.0) (pieces_within limit n ps right.1) named

passes : (n limit : ℕ) (b : Bool) → (b ≡ true → n < limit) → b ≡ (nat_lt n limit && b)
passes n limit b below = grind (arith, nat_tests)

-- the set of a list's numbers, under a limit up to that of sets, is the set of the text
pub IsSetOf-set_of : (limit : ℕ) (text : List ℕ) (s : Ids) → limit ≤ CPU_LIMIT → IsList limit text → IsSetOf text s → s ≡ set_of text
unfolding set_of
IsSetOf-set_of limit text s few right is =
    same_members s _ (λ q. is q
    ∙ passes q CPU_LIMIT (names text q) (λ named. let below = pieces_within limit q (pieces text) right named in omega arith)
    ∙ sym (contains-those (names text) CPU_LIMIT q))
