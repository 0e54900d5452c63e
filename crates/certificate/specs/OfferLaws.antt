-- What holds of rows whose offers fit the limits.
use Rattle.std.proofs.Common.{◌≡◌, ℕ, ◌<◌, Bool, true, List, length, get_or, ap, ◌∙◌}
use Rattle.std.specs.List.{list_all}
use Rattle.std.proofs.lemmas.List.Sums.{AllPass-from_list_all}
use Rattle.certificate.specs.RowView.{RowView}
use Rattle.certificate.specs.Limits.{are_apart, offers_fit, row_fits}
use Rattle.certificate.specs.declared.rows.Offer.{Offer}
use Rattle.certificate.specs.TestLaws.{true_right}

-- an element of a list of which all pass
pub passes_at : {A : Type 0} (p : A → Bool) (xs : List A) (k : ℕ) (x : A) → list_all p xs ≡ true → k < length xs → x ≡ get_or xs k x → p x ≡ true
passes_at p xs k x all lt is = ap p is ∙ AllPass-from_list_all p xs all k x lt

pub offers_apart : (offers : List Offer) → offers_fit offers ≡ true → are_apart (λ (o : Offer). o.cpus) offers ≡ true
unfolding offers_fit
offers_apart offers fit = true_right _ _ fit

pub row_offers_fit : (row : RowView) → row_fits row ≡ true → offers_fit row.offers ≡ true
unfolding row_fits
row_offers_fit row fit = true_right _ _ (true_right _ _ fit)
