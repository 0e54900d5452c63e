-- Where a value is above weight and price.
use Rattle.certificate.specs.ApartTestLemmas.{is_disjoint-says, is_in_one}
use Rattle.certificate.specs.IsOfferTooHigh.{is_offer_too_high}
use Rattle.certificate.specs.Lesser.{lesser}
use Rattle.certificate.specs.Limits.{are_apart, is_disjoint, row_fits}
use Rattle.certificate.specs.OfferLaws.{offers_apart, row_offers_fit}
use Rattle.certificate.specs.PlanFault.{is_too_high}
use Rattle.certificate.specs.Price.{price}
use Rattle.certificate.specs.RowView.{RowView}
use Rattle.certificate.specs.TestLaws.{true_left, true_right}
use Rattle.certificate.specs.declared.price_lists.Price.{Price}
use Rattle.certificate.specs.declared.rows.Offer.{Offer}
use Rattle.cpu_set.specs.Ids.{Ids}
use Rattle.cpu_set.specs.Least.{least_that}
use Rattle.cpu_set.specs.LeastLaws.{least-none, least-none_says, least-some, least-some_says, is_cpu_below}
use Rattle.cpu_set.specs.Members.{IsCpu}
use Rattle.std.proofs.Common.{Bool, List, None, Some, [], ap, arith, cond, false, inl, inr, nat_le, nat_lt, refl, sym, true, ℕ, ◌&&◌, ◌+◌, ◌-◌, ◌<◌, ◌||◌, ◌∙◌, ◌∷◌, ◌≡◌, ◌≤◌}
use Rattle.std.proofs.lemmas.Bool.{cases_lt, cond-false, cond-true, le-leb, false_from_ne_true, both_ways, or_left, or_right, or_from}
use Rattle.std.proofs.lemmas.Bool.Decides.{nat_tests}
use Rattle.std.specs.List.{list_all, list_any}
use Rattle.std.specs.Option.{option_map_or}
use Rattle.std.specs.Prelude.{Option, find, option_map}
use Rattle.std.specs.FinSet as set

-- ---- things whose sets are apart

module _ {A : Type 0} (set_of : A → Ids) (passes : A → Bool) (c : ℕ) where
  not_in_others : (x : A) (xs : List A) → list_all (λ y. is_disjoint (set_of x) (set_of y)) xs ≡ true → set.contains (set_of x) c ≡ true → is_in_one set_of xs c ≡ false
  not_in_others x [] clear has = refl
  not_in_others x (y ∷ xs) clear has =
      let here : set.contains (set_of y) c ≡ false = false_from_ne_true _ (λ both. is_disjoint-says (set_of x) (set_of y) (true_left _ _ clear) c has both) in
      rw here (not_in_others x xs (true_right _ _ clear) has)

  -- one of them has the number and passes
  abbrev pub one_passes : List A → Bool
  one_passes xs = list_any (λ x. set.contains (set_of x) c && passes x) xs

  none_passes : (xs : List A) → is_in_one set_of xs c ≡ false → one_passes xs ≡ false
  none_passes [] none = refl
  none_passes (x ∷ xs) none = by_cases (set.contains (set_of x) c) _ none (none_passes xs)
    where
      by_cases : (a b : Bool) → (a || is_in_one set_of xs c) ≡ false → (is_in_one set_of xs c ≡ false → one_passes xs ≡ false) → ((a && b) || one_passes xs) ≡ false
      by_cases true b none rest = absurd (both_ways _ none refl)
      by_cases false b none rest = rest none

  last : (b : Bool) → (b || false) ≡ b
  last true = refl
  last false = refl

  -- where they are apart, it is the first that has the number
  pub one_passes_first : (xs : List A) → are_apart set_of xs ≡ true → one_passes xs ≡ option_map_or passes (find (λ x. set.contains (set_of x) c) xs) false
  one_passes_first [] apart = refl
  one_passes_first (x ∷ xs) apart = by_cases (set.contains (set_of x) c) refl (one_passes_first xs (true_right _ _ apart))
    where
      by_cases :
          (a : Bool) → set.contains (set_of x) c ≡ a → one_passes xs ≡ option_map_or passes (find (λ y. set.contains (set_of y) c) xs) false
          → ((a && passes x) || one_passes xs) ≡ option_map_or passes (cond a (Some x) (find (λ y. set.contains (set_of y) c) xs)) false
      by_cases true has rest = rw (none_passes xs (not_in_others x xs (true_left _ _ apart) has)) (last (passes x))
      by_cases false has rest = rest

-- ---- offers

by_weight :
    (p value : ℕ) (found : Option Offer)
    → option_map_or (λ (o : Offer). nat_lt (o.weight + p) value) found false ≡ option_map_or (λ w. nat_lt (w + p) value) (option_map (λ (o : Offer). o.weight) found) false
by_weight p value None = refl
by_weight p value (Some o) = refl

-- where no CPU is in two offers, one offer is below the value where the CPU's weight is
pub too_high_is :
    (prices : List Price) (row : RowView) (value c : ℕ) → row_fits row ≡ true
    → list_any (λ o. is_offer_too_high prices value o c) row.offers ≡ is_too_high prices row value c
too_high_is prices row value c fit =
    one_passes_first (λ (o : Offer). o.cpus) (λ o. nat_lt (o.weight + price prices c) value) c row.offers (offers_apart row.offers (row_offers_fit row fit))
    ∙ by_weight (price prices c) value (find (λ (o : Offer). set.contains o.cpus c) row.offers)

-- no offer is too high that is not below the value with its weight alone
pub none_below : (b : Bool) (w p value : ℕ) → value ≤ w → (b && nat_lt (w + p) value) ≡ false
none_below b w p value le = grind (arith, nat_tests)

pub less_than_the_rest : (w p value : ℕ) (b : Bool) → w < value → (b && nat_lt p (value - w)) ≡ (b && nat_lt (w + p) value)
less_than_the_rest w p value b lt = grind (arith, nat_tests)

-- tests that agree have one least CPU
pub least_same : (f g : ℕ → Bool) → ((q : ℕ) → f q ≡ g q) → least_that f ≡ least_that g
least_same f g e = λ i. least_that (λ q. e q i)

least_at : (f g : ℕ → Bool) (m n : Option ℕ) → least_that f ≡ m → least_that g ≡ n → least_that (λ q. f q || g q) ≡ lesser m n
least_at f g None None e h = least-none _ (λ q is_cpu. or_from _ _ (least-none_says f e q is_cpu) (least-none_says g h q is_cpu))
least_at f g None (Some n) e h =
    let is = least-some_says g n h in
    least-some _ n (record {
      is_cpu = is.is_cpu;
      passes = or_right _ _ is.passes;
      least = λ k lt. or_from _ _ (least-none_says f e k (is_cpu_below k n lt is.is_cpu)) (is.least k lt);
    })
least_at f g (Some m) None e h =
    let is = least-some_says f m e in
    least-some _ m (record {
      is_cpu = is.is_cpu;
      passes = or_left _ _ is.passes;
      least = λ k lt. or_from _ _ (is.least k lt) (least-none_says g h k (is_cpu_below k m lt is.is_cpu));
    })
least_at f g (Some m) (Some n) e h =
    let one = least-some_says f m e in
    let two = least-some_says g n h in
    elim (cases_lt n m) [
      | inl lt ↦
          least-some _ n (record {
            is_cpu = two.is_cpu;
            passes = or_right _ _ two.passes;
            least = λ k low. or_from _ _ (one.least k (omega arith)) (two.least k low);
          })
          ∙ ap Some (sym (cond-false _ _ _ (nat_le_false m n lt)))
      | inr le ↦
          least-some _ m (record {
            is_cpu = one.is_cpu;
            passes = or_left _ _ one.passes;
            least = λ k low. or_from _ _ (one.least k low) (two.least k (omega arith));
          })
          ∙ ap Some (sym (cond-true _ _ _ (le-leb m n le)))
    ]
  where
    nat_le_false : (m n : ℕ) → n < m → nat_le m n ≡ false
    nat_le_false m n lt = grind (arith, nat_tests)

-- the least CPU that passes one of two tests
pub least_of_either : (f g : ℕ → Bool) → least_that (λ q. f q || g q) ≡ lesser (least_that f) (least_that g)
least_of_either f g = least_at f g _ _ refl refl

-- the least CPU of a test, by tests that agree on all CPUs
pub least_among : (f g : ℕ → Bool) → ((q : ℕ) → IsCpu q → f q ≡ g q) → least_that f ≡ least_that g
least_among f g same = at (least_that f) refl
  where
    at : (found : Option ℕ) → least_that f ≡ found → least_that f ≡ least_that g
    at None e = e ∙ sym (least-none g (λ q is_cpu. sym (same q is_cpu) ∙ least-none_says f e q is_cpu))
    at (Some n) e =
        let is = least-some_says f n e in
        e ∙ sym (least-some g n (record {
          is_cpu = is.is_cpu;
          passes = sym (same n is.is_cpu) ∙ is.passes;
          least = λ k lt. sym (same k (is_cpu_below k n lt is.is_cpu)) ∙ is.least k lt;
        }))

-- a test of one of two, and another test
pub either_and : (a b c : Bool) → ((a || b) && c) ≡ ((a && c) || (b && c))
either_and true b true = refl
either_and true true false = refl
either_and true false false = refl
either_and false b c = refl

-- ---- the CPUs of one range

pub range_passes : (first q last p amount : ℕ) → first ≤ q → q ≤ last → p < amount → ((nat_le first q && nat_le q last) && nat_lt p amount) ≡ true
range_passes first q last p amount from to lt = grind (arith, nat_tests)

pub range_below : (first q last p amount : ℕ) → q < first → ((nat_le first q && nat_le q last) && nat_lt p amount) ≡ false
range_below first q last p amount low = grind (arith, nat_tests)

pub range_above : (first q last p amount : ℕ) → last < q → ((nat_le first q && nat_le q last) && nat_lt p amount) ≡ false
range_above first q last p amount high = grind (arith, nat_tests)

pub range_dear : (first q last p amount : ℕ) → amount ≤ p → ((nat_le first q && nat_le q last) && nat_lt p amount) ≡ false
range_dear first q last p amount le = grind (arith, nat_tests)
