-- Prices, one after another, and their sum.
use Rattle.std.proofs.Common.{◌≡◌, ℕ, ◌+◌, ◌*◌, ◌<◌, ◌≤◌, Bool, true, false, cond, Option, Some, None, option_map, unwrap_or, is_some, List, [], ◌∷◌, length, take, get_or, refl, ◌∙◌, arith, nat_le}
use Rattle.std.specs.Prelude.{find}
use Rattle.std.specs.List.{list_all}
use Rattle.std.specs.Option.{option_or}
use Rattle.std.specs.FinSet as set
use Rattle.std.proofs.lemmas.Bool.{leb-true, both_ways}
use Rattle.std.proofs.lemmas.List.{take_more}
use Rattle.std.proofs.lemmas.List.Folds.{find-append}
use Rattle.cpu_set.specs.Members.{InRange, cpus}
use Rattle.cpu_set.specs.declared.TheConstants.{CPU_LIMIT}
use Rattle.certificate.specs.Price.{price, all_prices}
use Rattle.certificate.specs.Limits.{are_apart, prices_fit}
use Rattle.certificate.specs.declared.price_lists.Price.{Price}
use Rattle.certificate.specs.declared.limits.TheConstants.{MAX_AMOUNT}
use Rattle.certificate.specs.TestLaws.{true_left, true_right}
use Rattle.certificate.specs.SumLaws.{sum_by_none, sum_by_same, sum_by_plus, sum_by-constant}
use Rattle.certificate.specs.CpuLaws.{sum_by-cpus-le, len-times, length-cpus}
use Rattle.certificate.specs.ApartTestLemmas.{apart_at}
use Rattle.certificate.specs.OfferLemmas.{is_some-find}
use Rattle.certificate.proofs.CostSums.{list_all-take}
use Rattle.certificate.specs.OfferLaws.{passes_at}

pub prices_apart : (prices : List Price) → prices_fit prices ≡ true → are_apart (λ (p : Price). p.cpus) prices ≡ true
unfolding prices_fit
prices_apart prices fit = true_right _ _ fit

one_added :
    (p : Price) (b : Bool) (before : Option Price) → (b ≡ true → is_some before ≡ false)
    → unwrap_or (option_map (λ (q : Price). q.amount) (option_or before (cond b (Some p) None))) 0
    ≡ unwrap_or (option_map (λ (q : Price). q.amount) before) 0 + cond {A = ℕ} b 1 0 * p.amount
one_added p true None apart = omega arith
one_added p true (Some q) apart = absurd (both_ways _ (apart refl) refl)
one_added p false None apart = omega arith
one_added p false (Some q) apart = omega arith

-- the price of a CPU, by one price more
pub price_more :
    (prices : List Price) (k : ℕ) (p : Price) → k < length prices → p ≡ get_or prices k p → are_apart (λ (q : Price). q.cpus) prices ≡ true
    → (c : ℕ) → price (take (k + 1) prices) c ≡ price (take k prices) c + cond {A = ℕ} (set.contains p.cpus c) 1 0 * p.amount
price_more prices k p lt is apart c =
    rw (take_more prices k p lt, ← is, find-append (λ (q : Price). set.contains q.cpus c) (take k prices) (p ∷ []))
    (one_added p (set.contains p.cpus c) _ (λ here. is_some-find (λ (q : Price). set.contains q.cpus c) (take k prices) ∙ apart_at (λ (q : Price). q.cpus) prices k p lt is apart c here))

-- the sum of all prices, by one price more
pub prices_more :
    (prices : List Price) (k : ℕ) (p : Price) → k < length prices → p ≡ get_or prices k p → prices_fit prices ≡ true → InRange p.cpus
    → all_prices (take (k + 1) prices) ≡ all_prices (take k prices) + p.amount * set.len p.cpus
prices_more prices k p lt is fit in_range =
    sum_by_same _ _ cpus (price_more prices k p lt is (prices_apart prices fit))
    ∙ sum_by_plus (price (take k prices)) (λ c. cond (set.contains p.cpus c) 1 0 * p.amount) cpus
    ∙ omega (arith, len-times p.cpus p.amount in_range)

small_of : (prices : List Price) (c m : ℕ) → list_all (λ (p : Price). nat_le p.amount m) prices ≡ true → price prices c ≤ m
small_of [] c m small = omega arith
small_of (p ∷ prices) c m small = either (set.contains p.cpus c) (leb-true _ _ (true_left _ _ small)) (small_of prices c m (true_right _ _ small))
  where
    either :
        (b : Bool) → p.amount ≤ m → price prices c ≤ m
        → unwrap_or (option_map (λ (q : Price). q.amount) (cond b (Some p) (find (λ (q : Price). set.contains q.cpus c) prices))) 0 ≤ m
    either true here rest = here
    either false here rest = rest

amounts_small : (prices : List Price) → prices_fit prices ≡ true → list_all (λ (p : Price). nat_le p.amount MAX_AMOUNT) prices ≡ true
unfolding prices_fit
amounts_small prices fit = true_left _ _ fit

pub amount_small : (prices : List Price) (k : ℕ) (p : Price) → prices_fit prices ≡ true → k < length prices → p ≡ get_or prices k p → p.amount ≤ MAX_AMOUNT
amount_small prices k p fit lt is =
    leb-true _ _ (passes_at (λ (q : Price). nat_le q.amount MAX_AMOUNT) prices k p (amounts_small prices fit) lt is)

-- the prices of all CPUs, by the first of some prices, are within the limits' product
pub all_prices_small : (prices : List Price) (k : ℕ) → prices_fit prices ≡ true → all_prices (take k prices) ≤ CPU_LIMIT * MAX_AMOUNT
all_prices_small prices k fit =
    omega (
      arith,
      sum_by-cpus-le (price (take k prices)) (λ _. MAX_AMOUNT) (λ c is_cpu. small_of (take k prices) c MAX_AMOUNT (list_all-take _ k prices (amounts_small prices fit))),
      sum_by-constant {X = ℕ} MAX_AMOUNT cpus,
      length-cpus,
    )

pub no_prices : (prices : List Price) → all_prices (take 0 prices) ≡ 0
no_prices prices = sum_by_none _ cpus (λ c. refl)
