-- Rows with the same offers.
use Rattle.std.proofs.Common.{◌≡◌, ℕ, ◌+◌, ◌<◌, Bool, true, false, ◌||◌, is_some, List, [], ◌∷◌, ◌++◌, length, take, get_or, refl, sym, ap, subst, ◌∙◌, inl, inr, arith}
use Rattle.std.proofs.lemmas.Bool.{cases_lt}
use Rattle.std.proofs.lemmas.List.{get_or_default, get_or-map, get_or_push, get_or_append_left, length_push, length-take, get_or-take}
use Rattle.std.proofs.lemmas.List.Folds.{list_any_more, list_any_at}
use Rattle.std.specs.List.{list_all}
use Rattle.certificate.specs.Limits.{offers_fit, row_fits}
use Rattle.certificate.specs.OfferLaws.{passes_at, row_offers_fit}
use Rattle.certificate.specs.IsShortage.{is_offered}
use Rattle.certificate.specs.RowView.{RowView}
use Rattle.certificate.specs.Weight.{weight, weight_in}
use Rattle.certificate.specs.IsDealt.{AreTwins}
use Rattle.certificate.specs.declared.rows.Offer.{Offer}
use Rattle.twins.specs.Kinds.{offers_of, kind_at, IsKindOf, AreKinds, IsNextKind}
use Rattle.twins.proofs.Splitting.{twins_more}

abbrev pub no_row : RowView
no_row = record { id = []; demand = 0; offers = [] }

-- the row at a place
abbrev pub row_at : List RowView → ℕ → RowView
row_at rows k = get_or rows k no_row

pub is_row : (rows : List RowView) (k : ℕ) → k < length rows → row_at rows k ≡ get_or rows k (row_at rows k)
is_row rows k lt = get_or_default rows k no_row _ lt

-- the offers of a row that fits do
pub offers_fit_at : (rows : List RowView) (k : ℕ) (offers : List Offer) → list_all row_fits rows ≡ true → k < length rows → ((d : RowView) → offers ≡ (get_or rows k d).offers) → offers_fit offers ≡ true
offers_fit_at rows k offers fits lt is =
    subst (λ (o : List Offer). offers_fit o ≡ true) (sym (is no_row))
    (row_offers_fit (row_at rows k) (passes_at row_fits rows k (row_at rows k) fits lt (is_row rows k lt)))

-- a row of the kind of an earlier one tells no more CPUs apart
pub kind_tells_none :
    (rows : List RowView) (kinds : List ℕ) (k j : ℕ) → IsKindOf rows kinds k j → j < k → k < length rows
    → (a b : ℕ) → AreTwins (take k rows) a b → AreTwins (take (k + 1) rows) a b
kind_tells_none rows kinds k j h before lt a b twins =
    let at : weight (get_or (take k rows) j none) a ≡ weight (get_or (take k rows) j none) b = twins j none (rw (length-take k rows) (omega arith)) in
    let alike : weight (get_or rows j none) a ≡ weight (get_or rows j none) b = subst (λ (r : RowView). weight r a ≡ weight r b) (get_or-take k rows j none before) at in
    let offers : (get_or rows j none).offers ≡ (get_or rows k none).offers = sym (own j (omega (arith, before, lt))) ∙ h.same ∙ own k lt in
    twins_more rows k a b (get_or rows k none) lt (get_or_default rows k none (get_or rows k none) lt) twins (subst (λ (o : List Offer). weight_in o a ≡ weight_in o b) offers alike)
  where
    none : RowView
    none = record { id = []; demand = 0; offers = [] }

    own : (i : ℕ) → i < length rows → offers_of rows i ≡ (get_or rows i none).offers
    own i lt = get_or-map (λ (r : RowView). r.offers) rows i none [] lt

-- nor does it offer a CPU that no earlier row does
pub kind_offers_none :
    (rows : List RowView) (kinds : List ℕ) (k j : ℕ) → IsKindOf rows kinds k j → j < k → k < length rows
    → (c : ℕ) → is_offered (take (k + 1) rows) c ≡ is_offered (take k rows) c
kind_offers_none rows kinds k j h before lt c =
    list_any_more (λ (r : RowView). is_some (weight r c)) rows k none lt ∙ by_cases (is_some (weight (get_or rows k none) c)) refl
  where
    none : RowView
    none = record { id = []; demand = 0; offers = [] }

    own : (i : ℕ) → i < length rows → offers_of rows i ≡ (get_or rows i none).offers
    own i lt = get_or-map (λ (r : RowView). r.offers) rows i none [] lt

    offers : (get_or (take k rows) j none).offers ≡ (get_or rows k none).offers
    offers =
        ap (λ (r : RowView). r.offers) (get_or-take k rows j none before)
        ∙ sym (own j (omega (arith, before, lt))) ∙ h.same ∙ own k lt

    there : is_some (weight (get_or rows k none) c) ≡ true → is_offered (take k rows) c ≡ true
    there e =
        list_any_at (λ (r : RowView). is_some (weight r c)) (take k rows) j none (rw (length-take k rows) (omega arith))
        (ap (λ (o : List Offer). is_some (weight_in o c)) offers ∙ e)

    or_none : (b : Bool) → (b || false) ≡ b
    or_none true = refl
    or_none false = refl

    by_cases : (b : Bool) → is_some (weight (get_or rows k none) c) ≡ b
        → (is_offered (take k rows) c || is_some (weight (get_or rows k none) c)) ≡ is_offered (take k rows) c
    by_cases true e = ap (λ b. b || is_some (weight (get_or rows k none) c)) (there e) ∙ sym (there e)
    by_cases false e = ap (λ b. is_offered (take k rows) c || b) e ∙ or_none (is_offered (take k rows) c)

pub kinds_none : (rows : List RowView) → AreKinds rows 0 []
kinds_none rows = record { long = refl; each = λ k lt. absurd (omega arith) }

-- one row's kind more
pub kinds_more : (rows : List RowView) (kinds : List ℕ) (k j : ℕ) → AreKinds rows k kinds → IsNextKind rows kinds k j → AreKinds rows (k + 1) (kinds ++ j ∷ [])
kinds_more rows kinds k j h next = record {
  long = omega (arith, length_push kinds j, h.long);
  each = λ i lt. elim (cases_lt i k) [
    | inl before ↦ rw (kept i before) (still i (kind_at kinds i) before (h.each i before))
    | inr after ↦ last i (omega (arith, lt, after)) next
  ];
}
  where
    more : List ℕ
    more = kinds ++ j ∷ []

    kept : (i : ℕ) → i < k → kind_at more i ≡ kind_at kinds i
    kept i before = get_or_append_left kinds (j ∷ []) 0 i (omega (arith, before, h.long))

    still : (i m : ℕ) → i < k → IsKindOf rows kinds i m → IsKindOf rows more i m
    still i m before o = record { no_later = o.no_later; same = o.same; first = kept m (omega (arith, o.no_later, before)) ∙ o.first }

    own : (i : ℕ) → i ≡ k → kind_at more i ≡ j
    own i e = get_or_push kinds j 0 i (h.long ∙ sym e)

    last : (i : ℕ) → i ≡ k → IsNextKind rows kinds k j → IsKindOf rows more i (kind_at more i)
    last i e (inl same) = rw (own i e) (record { no_later = omega (arith, e, same); same = ap (offers_of rows) (same ∙ sym e); first = own j same })
    last i e (inr other) = rw (own i e) (record {
      no_later = omega (arith, e, other.0);
      same = other.1.same ∙ ap (offers_of rows) (sym e);
      first = kept j other.0 ∙ other.1.first;
    })
