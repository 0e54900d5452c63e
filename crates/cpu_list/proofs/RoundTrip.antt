-- The text of rising ranges, cut at its commas and read again.
use Rattle.std.proofs.Common.{◌≡◌, ℕ, ◌+◌, ◌^◌, ◌<◌, ◌≤◌, true, false, ◌&&◌, ◌||◌, nat_le, List, [], ◌∷◌, ◌++◌, map, inl, inr, refl, sym, ap, subst, ◌∙◌, append-nil, arith}
use Rattle.std.specs.List.{All, AllByRecursion, list_any}
use Rattle.std.proofs.lemmas.Bool.{and_from, or_left, or_right, le-leb}
use Rattle.std.proofs.lemmas.List.Splits.{slice_split_none, slice_split_at}
use Rattle.cpu_set.specs.PointwiseLaws.{same_members}
use Rattle.cpu_list.specs.ListText.{is_comma, pieces, item_of, IsItem, IsList, range_names, piece_names, names, IsSetOf}
use Rattle.cpu_set.specs.Ranges.{AreRuns, in_ranges}
use Rattle.cpu_list.specs.CanonicalList.{range_text, ranges_text}
use Rattle.cpu_list.specs.CanonicalLaws.{CanonicalReadsAgain}
use Rattle.cpu_list.specs.TextAfter.{text_after}
use Rattle.cpu_list.proofs.Pieces.{nothing_named}
use Rattle.cpu_list.proofs.RangeReads.{item_of-whole, range_of-item}
use Rattle.cpu_list.proofs.RangeText.{after_comma}
use Rattle.cpu_list.proofs.TextBytes.{none_pass, is_range_byte, range_byte-is_comma, range_bytes}

-- each range rises, and ends below the limit
abbrev pub AreBelow : ℕ → List (ℕ × ℕ) → Type 0
AreBelow limit rs = AllByRecursion (λ r. (r.0 ≤ r.1) × (r.1 < limit)) rs

pub AreBelow-from_runs : (limit from : ℕ) (rs : List (ℕ × ℕ)) → AreRuns from rs → ((n : ℕ) → in_ranges rs n ≡ true → n < limit) → AreBelow limit rs
AreBelow-from_runs limit from [] runs below = tt
AreBelow-from_runs limit from (r ∷ more) runs below = (
  (runs.1, below r.1 (or_left _ _ (and_from _ _ (le-leb r.0 r.1 runs.1) (le-leb r.1 r.1 (omega arith))))),
  AreBelow-from_runs limit (r.1 + 2) more runs.2 (λ n h. below n (or_right _ _ h)),
)

no_comma : (limit : ℕ) → limit ≤ 2 ^ 64 → (r : ℕ × ℕ) → (r.0 ≤ r.1) × (r.1 < limit) → All (λ b. is_comma b ≡ false) (range_text r)
no_comma limit small r h = none_pass is_range_byte is_comma range_byte-is_comma (range_text r) (range_bytes r.0 r.1 (omega arith) (omega arith))

pieces_after : (limit : ℕ) → limit ≤ 2 ^ 64 → (r : ℕ × ℕ) (more : List (ℕ × ℕ)) → AreBelow limit (r ∷ more) → pieces (range_text r ++ text_after (44 ∷ []) more) ≡ range_text r ∷ map range_text more
pieces_after limit small r [] h =
    ap pieces (append-nil (range_text r)) ∙ slice_split_none is_comma (range_text r) (no_comma limit small r h.0)
pieces_after limit small r (q ∷ more) h =
    slice_split_at is_comma (range_text r) 44 (range_text q ++ text_after (44 ∷ []) more) (no_comma limit small r h.0) refl
    ∙ ap (λ ps. range_text r ∷ ps) (pieces_after limit small q more h.1)

-- the pieces of the text of ranges are their texts
pieces-ranges_text : (limit : ℕ) → limit ≤ 2 ^ 64 → (r : ℕ × ℕ) (more : List (ℕ × ℕ)) → AreBelow limit (r ∷ more) → pieces (ranges_text (r ∷ more)) ≡ map range_text (r ∷ more)
pieces-ranges_text limit small r more h = ap pieces (after_comma r more) ∙ pieces_after limit small r more h

items_right : (limit : ℕ) → limit ≤ 2 ^ 64 → (rs : List (ℕ × ℕ)) → AreBelow limit rs → AllByRecursion (λ p. IsItem limit (item_of p)) (map range_text rs)
items_right limit small [] h = tt
items_right limit small (r ∷ more) h =
    (inr (r.0, r.1, range_of-item r.0 r.1 (omega (arith, h.0)) (omega (arith, h.0)), h.0.0, h.0.1), items_right limit small more h.1)

pub IsList-ranges_text : (limit : ℕ) → limit ≤ 2 ^ 64 → (rs : List (ℕ × ℕ)) → AreBelow limit rs → IsList limit (ranges_text rs)
IsList-ranges_text limit small [] h = (inl (item_of-whole [] (λ k d lt. absurd (omega arith))), tt)
IsList-ranges_text limit small (r ∷ more) h =
    subst (AllByRecursion (λ p. IsItem limit (item_of p))) (sym (pieces-ranges_text limit small r more h)) (items_right limit small (r ∷ more) h)

items_name : (limit : ℕ) → limit ≤ 2 ^ 64 → (n : ℕ) (rs : List (ℕ × ℕ)) → AreBelow limit rs → list_any (piece_names n) (map range_text rs) ≡ in_ranges rs n
items_name limit small n [] h = refl
items_name limit small n (r ∷ more) h =
    ap (λ o. range_names o n || list_any (piece_names n) (map range_text more)) (range_of-item r.0 r.1 (omega (arith, h.0)) (omega (arith, h.0)))
    ∙ ap (λ b. (nat_le r.0 n && nat_le n r.1) || b) (items_name limit small n more h.1)

pub names-ranges_text : (limit : ℕ) → limit ≤ 2 ^ 64 → (n : ℕ) (rs : List (ℕ × ℕ)) → AreBelow limit rs → names (ranges_text rs) n ≡ in_ranges rs n
names-ranges_text limit small n [] h =
    ap (λ b. b || false) (sym (nothing_named [] n false (item_of-whole [] (λ k d lt. absurd (omega arith)))))
names-ranges_text limit small n (r ∷ more) h =
    ap (list_any (piece_names n)) (pieces-ranges_text limit small r more h) ∙ items_name limit small n (r ∷ more) h

pub reads_again : CanonicalReadsAgain
reads_again s text limit small below canonical =
    let rs = canonical.ranges in
    let fits : AreBelow limit rs = AreBelow-from_runs limit 0 rs canonical.rising (λ n h. below n (canonical.same n ∙ h)) in
    let named : IsSetOf text s = λ n. canonical.same n ∙ sym (ap (λ t. names t n) canonical.spelled ∙ names-ranges_text limit small n rs fits) in
    record {
      is_list = subst (IsList limit) (sym canonical.spelled) (IsList-ranges_text limit small rs fits);
      members = named;
      only = λ t h. same_members t s (λ q. h q ∙ sym (named q));
    }
