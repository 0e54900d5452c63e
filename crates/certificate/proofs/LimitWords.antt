-- The limits' tests, and what they mean.
use Rattle.std.proofs.Common.{◌≡◌, ℕ, suc, ◌≤◌, true, List, [], ◌∷◌, get_or, refl, arith, All, nat_le}
use Rattle.std.specs.List.{AllPairs, list_all}
use Rattle.std.proofs.lemmas.Bool.{leb-true, le-leb, eqb-true, eq-eqb, and_from}
use Rattle.std.proofs.lemmas.List.Kept.{AllPairs-cons}
use Rattle.std.proofs.lemmas.List.Sums.{AllPass-from_list_all, list_all-from_AllPass}
use Rattle.cpu_set.specs.Ids.{Ids, IsDisjoint}
use Rattle.certificate.specs.RowView.{RowView}
use Rattle.certificate.specs.PricesView.{PricesView}
use Rattle.certificate.specs.Limits.{is_disjoint, are_apart, offers_fit, row_fits, rows_fit, prices_fit, is_within_limits}
use Rattle.certificate.specs.AreWithin.{IsRowWithin, AreRowsWithin, AreWithin, RowsFitMeans, LimitsMean}
use Rattle.certificate.specs.declared.rows.Offer.{Offer}
use Rattle.certificate.specs.declared.price_lists.Price.{Price}
use Rattle.certificate.specs.declared.limits.TheConstants.{MAX_WEIGHT, MAX_AMOUNT}
use Rattle.certificate.specs.TestLaws.{true_left, true_right}
use Rattle.certificate.specs.ApartTestLemmas.{is_disjoint-says, is_disjoint-true}

module _ {A : Type 0} (set_of : A → Ids) where
  abbrev pub AreApart : List A → Type 0
  AreApart xs = AllPairs (λ x y. IsDisjoint (set_of x) (set_of y)) xs

  are_apart-says : (xs : List A) → are_apart set_of xs ≡ true → AreApart xs
  are_apart-says [] e = λ i j d lt below. absurd (omega arith)
  are_apart-says (x ∷ xs) e =
      AllPairs-cons (λ y z. IsDisjoint (set_of y) (set_of z)) x xs
      (λ i d lt. is_disjoint-says (set_of x) (set_of (get_or xs i d)) (AllPass-from_list_all (λ y. is_disjoint (set_of x) (set_of y)) xs (true_left _ _ e) i d lt))
      (are_apart-says xs (true_right _ _ e))

  are_apart-true : (xs : List A) → AreApart xs → are_apart set_of xs ≡ true
  are_apart-true [] apart = refl
  are_apart-true (x ∷ xs) apart =
      and_from _ _
      (list_all-from_AllPass (λ y. is_disjoint (set_of x) (set_of y)) xs (λ i d lt. is_disjoint-true (set_of x) (set_of (get_or xs i d)) (apart 0 (suc i) d (omega arith) (omega arith))))
      (are_apart-true xs (λ i j d lt below. apart (suc i) (suc j) d (omega arith) (omega arith)))

-- none of the numbers is above the limit
at_most-says : {A : Type 0} (f : A → ℕ) (most : ℕ) (xs : List A) → list_all (λ x. nat_le (f x) most) xs ≡ true → All (λ x. f x ≤ most) xs
at_most-says f most xs e = λ i d lt. leb-true _ _ (AllPass-from_list_all (λ x. nat_le (f x) most) xs e i d lt)

at_most-true : {A : Type 0} (f : A → ℕ) (most : ℕ) (xs : List A) → All (λ x. f x ≤ most) xs → list_all (λ x. nat_le (f x) most) xs ≡ true
at_most-true f most xs all = list_all-from_AllPass (λ x. nat_le (f x) most) xs (λ i d lt. le-leb _ _ (all i d lt))

row_fits-says : (row : RowView) → row_fits row ≡ true → IsRowWithin row
unfolding row_fits offers_fit
row_fits-says row fit =
    let more = true_right _ _ fit in
    let offers = true_right _ _ more in
    record {
      some = leb-true _ _ (true_left _ _ fit);
      demand = leb-true _ _ (true_left _ _ more);
      weights = at_most-says (λ (o : Offer). o.weight) MAX_WEIGHT row.offers (true_left _ _ offers);
      apart = are_apart-says (λ (o : Offer). o.cpus) row.offers (true_right _ _ offers);
    }

row_fits-true : (row : RowView) → IsRowWithin row → row_fits row ≡ true
unfolding row_fits offers_fit
row_fits-true row is =
    and_from _ _ (le-leb _ _ is.some) (and_from _ _ (le-leb _ _ is.demand)
    (and_from _ _ (at_most-true (λ (o : Offer). o.weight) MAX_WEIGHT row.offers is.weights) (are_apart-true (λ (o : Offer). o.cpus) row.offers is.apart)))

rows_fit-says : (rows : List RowView) → rows_fit rows ≡ true → AreRowsWithin rows
unfolding rows_fit
rows_fit-says rows fit = record {
  few = leb-true _ _ (true_left _ _ fit);
  each = λ i d lt. row_fits-says _ (AllPass-from_list_all row_fits rows (true_right _ _ fit) i d lt);
}

rows_fit-true : (rows : List RowView) → AreRowsWithin rows → rows_fit rows ≡ true
unfolding rows_fit
rows_fit-true rows are =
    and_from _ _ (le-leb _ _ are.few) (list_all-from_AllPass row_fits rows (λ i d lt. row_fits-true _ (are.each i d lt)))

pub rows_fit_means : RowsFitMeans
rows_fit_means rows = (rows_fit-says rows, rows_fit-true rows)

limits-says : (rows : List RowView) (sets : List Ids) (prices : PricesView) → is_within_limits rows sets prices ≡ true → AreWithin rows sets prices
unfolding is_within_limits prices_fit
limits-says rows sets prices within =
    let two = true_right _ _ within in
    let three = true_right _ _ two in
    let four = true_right _ _ three in
    let last = true_right _ _ four in
    record {
      rows_are = rows_fit-says rows (true_left _ _ within);
      same_sets = eqb-true _ _ (true_left _ _ two);
      same_values = eqb-true _ _ (true_left _ _ three);
      values = at_most-says (λ v. v) MAX_AMOUNT prices.values (true_left _ _ four);
      amounts = at_most-says (λ (p : Price). p.amount) MAX_AMOUNT prices.of_cpu (true_left _ _ last);
      apart = are_apart-says (λ (p : Price). p.cpus) prices.of_cpu (true_right _ _ last);
    }

limits-true : (rows : List RowView) (sets : List Ids) (prices : PricesView) → AreWithin rows sets prices → is_within_limits rows sets prices ≡ true
unfolding is_within_limits prices_fit
limits-true rows sets prices are =
    and_from _ _ (rows_fit-true rows are.rows_are) (and_from _ _ (eq-eqb _ _ are.same_sets) (and_from _ _ (eq-eqb _ _ are.same_values)
    (and_from _ _ (at_most-true (λ v. v) MAX_AMOUNT prices.values are.values)
    (and_from _ _ (at_most-true (λ (p : Price). p.amount) MAX_AMOUNT prices.of_cpu are.amounts) (are_apart-true (λ (p : Price). p.cpus) prices.of_cpu are.apart)))))

pub limits_mean : LimitsMean
limits_mean rows sets prices = (limits-says rows sets prices, limits-true rows sets prices)
