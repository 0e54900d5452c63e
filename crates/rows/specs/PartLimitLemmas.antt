-- Scaled rows fit the limits, and their offers rise.
use Rattle.std.proofs.Common.{◌≡◌, ℕ, Bool, true, false, cond, not, nat_le, List, [], ◌∷◌, ◌++◌, filter, refl, sym, ap, ◌∙◌, arith, subst}
use Rattle.std.specs.List.{flat_map, list_all}
use Rattle.std.specs.FinSet as set
use Rattle.std.proofs.lemmas.Bool.{false≢true, and_parts, and_from}
use Rattle.std.proofs.lemmas.Bool.Decides.{nat_tests}
use Rattle.std.proofs.lemmas.List.Concat.{flat_map-cons}
use Rattle.cpu_set.specs.Ids.{Ids}
use Rattle.cpu_set.specs.PointwiseLaws.{contains-intersection, contains-difference}
use Rattle.certificate.specs.declared.Offer.{Offer}
use Rattle.certificate.specs.declared.limits.TheConstants.{MAX_WEIGHT}
use Rattle.certificate.specs.Packed.{packed}
use Rattle.certificate.specs.RowView.{RowView}
use Rattle.certificate.specs.Limits.{is_disjoint, are_apart, offers_fit, row_fits}
use Rattle.certificate.specs.ApartTestLemmas.{is_disjoint-true, is_disjoint-says}
use Rattle.rows.specs.Offers.{has_some}
use Rattle.rows.specs.Scaled.{held_part, moved, parted, scaled}

abbrev IsWithin : Ids → Ids → Type 0
IsWithin s t = (c : ℕ) → set.contains s c ≡ true → set.contains t c ≡ true

kept_within : (held : Ids) (o : Offer) → IsWithin (held_part held o).cpus o.cpus
kept_within held o c has = (and_parts _ _ (sym (contains-intersection o.cpus held c) ∙ has)).0

moved_within : (held : Ids) (o : Offer) → IsWithin (moved held o).cpus o.cpus
moved_within held o c has = (and_parts _ _ (sym (contains-difference o.cpus held c) ∙ has)).0

not_both : (b : Bool) → b ≡ true → not b ≡ true → ⊥
not_both true e f = false≢true f
not_both false e f = false≢true e

kept_from_moved : (held : Ids) (o : Offer) → is_disjoint (held_part held o).cpus (moved held o).cpus ≡ true
kept_from_moved held o = is_disjoint-true _ _ (λ c k m.
    not_both (set.contains held c)
    (and_parts _ _ (sym (contains-intersection o.cpus held c) ∙ k)).1
    (and_parts _ _ (sym (contains-difference o.cpus held c) ∙ m)).1)

less_disjoint : (s t u v : Ids) → IsWithin u s → IsWithin v t → is_disjoint s t ≡ true → is_disjoint u v ≡ true
less_disjoint s t u v in_s in_t apart = is_disjoint-true u v (λ c a b. is_disjoint-says s t apart c (in_s c a) (in_t c b))

-- a test that two offers and all that come after them pass
pub all_of_two : (p : Offer → Bool) (x y : Offer) (rest : List Offer) → p x ≡ true → p y ≡ true → list_all p rest ≡ true → list_all p (filter has_some (x ∷ y ∷ []) ++ rest) ≡ true
all_of_two p x y rest e f all = by_cases (has_some x) (has_some y)
  where
    by_cases : (a b : Bool) → list_all p (cond a (x ∷ cond b (y ∷ []) []) (cond b (y ∷ []) []) ++ rest) ≡ true
    by_cases true true = and_from _ _ e (and_from _ _ f all)
    by_cases true false = and_from _ _ e all
    by_cases false true = and_from _ _ f all
    by_cases false false = all

apart_of_two : (x y : Offer) (rest : List Offer) → is_disjoint x.cpus y.cpus ≡ true
    → list_all (λ (o : Offer). is_disjoint x.cpus o.cpus) rest ≡ true → list_all (λ (o : Offer). is_disjoint y.cpus o.cpus) rest ≡ true
    → are_apart (λ (o : Offer). o.cpus) rest ≡ true → are_apart (λ (o : Offer). o.cpus) (filter has_some (x ∷ y ∷ []) ++ rest) ≡ true
apart_of_two x y rest xy x_clear y_clear apart = by_cases (has_some x) (has_some y)
  where
    by_cases : (a b : Bool) → are_apart (λ (o : Offer). o.cpus) (cond a (x ∷ cond b (y ∷ []) []) (cond b (y ∷ []) []) ++ rest) ≡ true
    by_cases true true = and_from _ _ (and_from _ _ xy x_clear) (and_from _ _ y_clear apart)
    by_cases true false = and_from _ _ x_clear apart
    by_cases false true = and_from _ _ y_clear apart
    by_cases false false = apart

module _ (held : Ids) where
  abbrev parts : List Offer → List Offer
  parts offers = flat_map (parted held) offers

  clear_of : (s t : Ids) (offers : List Offer) → IsWithin t s → list_all (λ (o : Offer). is_disjoint s o.cpus) offers ≡ true → list_all (λ (o : Offer). is_disjoint t o.cpus) (parts offers) ≡ true
  clear_of s t [] within clear = refl
  clear_of s t (o ∷ offers) within clear =
      let two = and_parts _ _ clear in
      ap (list_all (λ (p : Offer). is_disjoint t p.cpus)) (flat_map-cons (parted held) o offers)
      ∙ all_of_two (λ (p : Offer). is_disjoint t p.cpus) (held_part held o) (moved held o) (parts offers)
      (less_disjoint s o.cpus t (held_part held o).cpus within (kept_within held o) two.0)
      (less_disjoint s o.cpus t (moved held o).cpus within (moved_within held o) two.0)
      (clear_of s t offers within two.1)

  parts_apart : (offers : List Offer) → are_apart (λ (o : Offer). o.cpus) offers ≡ true → are_apart (λ (o : Offer). o.cpus) (parts offers) ≡ true
  parts_apart [] apart = refl
  parts_apart (o ∷ offers) apart =
      let two = and_parts _ _ apart in
      ap (are_apart (λ (p : Offer). p.cpus)) (flat_map-cons (parted held) o offers)
      ∙ apart_of_two (held_part held o) (moved held o) (parts offers) (kept_from_moved held o)
      (clear_of o.cpus (held_part held o).cpus offers (kept_within held o) two.0)
      (clear_of o.cpus (moved held o).cpus offers (moved_within held o) two.0)
      (parts_apart offers two.1)

  kept_light : (w : ℕ) → nat_le w 254 ≡ true → nat_le (packed w 0) MAX_WEIGHT ≡ true
  kept_light w light = grind (arith, nat_tests, light)

  moved_light : (w : ℕ) → nat_le w 254 ≡ true → nat_le (packed w 1) MAX_WEIGHT ≡ true
  moved_light w light = grind (arith, nat_tests, light)

  parts_light : (offers : List Offer) → list_all (λ (o : Offer). nat_le o.weight 254) offers ≡ true → list_all (λ (o : Offer). nat_le o.weight MAX_WEIGHT) (parts offers) ≡ true
  parts_light [] light = refl
  parts_light (o ∷ offers) light =
      let two = and_parts _ _ light in
      ap (list_all (λ (p : Offer). nat_le p.weight MAX_WEIGHT)) (flat_map-cons (parted held) o offers)
      ∙ all_of_two (λ (p : Offer). nat_le p.weight MAX_WEIGHT) (held_part held o) (moved held o) (parts offers)
      (kept_light o.weight two.0) (moved_light o.weight two.0) (parts_light offers two.1)

  parts_fit : (offers : List Offer) → list_all (λ (o : Offer). nat_le o.weight 254) offers ≡ true → offers_fit offers ≡ true → offers_fit (parts offers) ≡ true
  unfolding offers_fit
  parts_fit offers light fit = and_from _ _ (parts_light offers light) (parts_apart offers (and_parts _ _ fit).1)

  pub scaled_fits : (row : RowView) → list_all (λ (o : Offer). nat_le o.weight 254) row.offers ≡ true → row_fits row ≡ true → row_fits (scaled held row) ≡ true
  unfolding row_fits
  scaled_fits row light fit =
      let two = and_parts _ _ fit in
      let more = and_parts _ _ two.1 in
      and_from _ _ two.0 (and_from _ _ more.0 (parts_fit row.offers light more.1))

-- a row made of the parts of another's offers
pub scaled_row_fits :
    (held : Ids) (row : RowView) (id : List ℕ) (demand : ℕ) (offers all : List Offer)
    → record { id = id; demand = demand; offers = offers } ≡ row
    → row_fits row ≡ true → list_all (λ (o : Offer). nat_le o.weight 254) row.offers ≡ true
    → all ≡ flat_map (parted held) offers
    → row_fits (record { id = id; demand = demand; offers = all }) ≡ true
scaled_row_fits held row id demand offers all same fit light are =
    rw are (subst (λ (r : RowView). row_fits (scaled held r) ≡ true) (sym same) (scaled_fits held row light fit))
