-- What holds of all that is within the limits.
use Rattle.std.proofs.Common.{◌≡◌, ℕ, ◌<◌, ◌≤◌, true, List, length, All, nat_lt, arith}
use Rattle.std.specs.List.{list_all}
use Rattle.std.specs.List.Sorted.{IsStrictlyIncreasing}
use Rattle.std.proofs.lemmas.Bool.{leb-true, eqb-true, ltb-true, lt-ltb, and_from}
use Rattle.std.proofs.lemmas.List.Sums.{AllPass-from_list_all, list_all-from_AllPass}
use Rattle.cpu_set.specs.Ids.{Ids}
use Rattle.certificate.specs.RowView.{RowView}
use Rattle.certificate.specs.PricesView.{PricesView}
use Rattle.certificate.specs.Limits.{row_fits, rows_fit, values_fit, prices_fit, is_within_limits, is_shortage_within_limits}
use Rattle.certificate.specs.declared.limits.TheConstants.{MAX_ROWS}
use Rattle.certificate.specs.TestLaws.{true_left, true_right}
use Rattle.certificate.proofs.Rising.{is_rising-says, is_rising-true}
use Rattle.certificate.specs.RisingNumberLaws.{few_numbers}

pub record AreWithin (rows : List RowView) (sets : List Ids) (prices : PricesView) : Type 0 where
  pub few : length rows ≤ MAX_ROWS
  pub same_sets : length sets ≡ length rows
  pub same_values : length prices.values ≡ length rows
  pub rows_are : list_all row_fits rows ≡ true
  pub values_are : values_fit prices.values ≡ true
  pub prices_are : prices_fit prices.of_cpu ≡ true

pub limit_facts : (rows : List RowView) (sets : List Ids) (prices : PricesView) → is_within_limits rows sets prices ≡ true → AreWithin rows sets prices
unfolding is_within_limits rows_fit
limit_facts rows sets prices within =
    let rows_are = true_left _ _ within in
    let two = true_right _ _ within in
    let three = true_right _ _ two in
    let four = true_right _ _ three in
    record {
      few = leb-true _ _ (true_left _ _ rows_are);
      rows_are = true_right _ _ rows_are;
      same_sets = eqb-true _ _ (true_left _ _ two);
      same_values = eqb-true _ _ (true_left _ _ three);
      values_are = true_left _ _ four;
      prices_are = true_right _ _ four;
    }

-- rows within their limits, and the members number some of them
pub record AreNumbered (rows : List RowView) (members : List ℕ) : Type 0 where
  pub fit : rows_fit rows ≡ true
  pub rows_are : list_all row_fits rows ≡ true
  pub few : length members ≤ MAX_ROWS
  pub rising : IsStrictlyIncreasing members
  pub there : All (λ k. k < length rows) members

pub number_facts : (rows : List RowView) (members : List ℕ) → is_shortage_within_limits rows members ≡ true → AreNumbered rows members
unfolding is_shortage_within_limits rows_fit
number_facts rows members within =
    let rows_are : rows_fit rows ≡ true = true_left _ _ within in
    let numbers = true_right _ _ within in
    let rising : IsStrictlyIncreasing members = is_rising-says members (true_left _ _ numbers) in
    let there : All (λ k. k < length rows) members =
    λ i d lt. ltb-true _ _ (AllPass-from_list_all (λ k. nat_lt k (length rows)) members (true_right _ _ numbers) i d lt) in
    record {
      fit = rows_are;
      rows_are = true_right _ _ rows_are;
      few = within_limit (few_numbers members (length rows) rising there) (leb-true _ _ (true_left _ _ rows_are));
      rising = rising;
      there = there;
    }
  where
    within_limit : {a b : ℕ} → a ≤ b → b ≤ MAX_ROWS → a ≤ MAX_ROWS
    within_limit p q = omega arith

-- and the other way
pub numbered : (rows : List RowView) (members : List ℕ) → rows_fit rows ≡ true → IsStrictlyIncreasing members → All (λ k. k < length rows) members
    → is_shortage_within_limits rows members ≡ true
unfolding is_shortage_within_limits
numbered rows members fit rising there =
    and_from _ _ fit (and_from _ _ (is_rising-true members rising)
    (list_all-from_AllPass (λ k. nat_lt k (length rows)) members (λ i d lt. lt-ltb _ _ (there i d lt))))
