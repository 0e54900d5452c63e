-- No plan costs less than a bound.
use Rattle.std.proofs.Common.{◌≡◌, ℕ, ◌+◌, ◌*◌, ◌≤◌, Bool, true, false, cond, Option, Some, None, unwrap_or, List, [], ◌∷◌, refl, sum_by, arith, IsSome}
use Rattle.std.specs.List.{AllZip, AllPairs, zip}
use Rattle.std.specs.FinSet as set
use Rattle.std.proofs.lemmas.Bool.{false≢true}
use Rattle.std.proofs.lemmas.List.Sums.{sum_by-cons}
use Rattle.cpu_set.specs.Ids.{Ids, IsDisjoint}
use Rattle.cpu_set.specs.Members.{cpus, members}
use Rattle.certificate.specs.RowView.{RowView}
use Rattle.certificate.specs.Weight.{weight}
use Rattle.certificate.specs.IsPlan.{Meets}
use Rattle.certificate.specs.Cost.{row_cost, cost}
use Rattle.certificate.specs.Price.{price, all_prices}
use Rattle.certificate.specs.IsBound.{IsValueOf, worth}
use Rattle.certificate.specs.PlanFault.{is_held}
use Rattle.certificate.specs.Laws.{NoPlanBelowBound}
use Rattle.certificate.specs.declared.price_lists.Price.{Price}
use Rattle.certificate.specs.SumLaws.{sum_by_plus, sum_by-filter}
use Rattle.certificate.specs.CpuLaws.{sum_by-cpus-le, len-times}
use Rattle.certificate.specs.ApartLemmas.{sums_of_sets}

-- the prices of a set's CPUs, summed
abbrev prices_of : List Price → Ids → ℕ
prices_of prices s = sum_by (price prices) (members s)

one_pays :
    (value p : ℕ) (held : Bool) (w : Option ℕ) → (held ≡ true → IsSome w) → ((x : ℕ) → w ≡ Some x → value ≤ x + p)
    → cond held 1 0 * value ≤ cond held (unwrap_or w 0) 0 + cond held p 0
one_pays value p true (Some x) there below = omega (arith, below x refl)
one_pays value p true None there below = absurd (false≢true (there refl))
one_pays value p false w there below = omega arith

-- a row's value, for each CPU that it holds, is within their weights and prices
row_pays :
    (prices : List Price) (row : RowView) (s : Ids) (value : ℕ) → Meets row s → IsValueOf prices row value
    → row.demand * value ≤ row_cost row s + prices_of prices s
row_pays prices row s value meets is_value =
    rw (
      ← meets.size,
      len-times s value meets.in_range,
      sum_by-filter (set.contains s) (λ c. unwrap_or (weight row c) 0) cpus,
      sum_by-filter (set.contains s) (price prices) cpus,
      ← sum_by_plus (λ c. cond (set.contains s c) (unwrap_or (weight row c) 0) 0) (λ c. cond (set.contains s c) (price prices c) 0) cpus,
    )
    (sum_by-cpus-le _ _ (λ c is_cpu. one_pays value (price prices c) (set.contains s c) (weight row c) (meets.allowed c) (λ x is. is_value c x is_cpu is)))

rows_pay :
    (prices : List Price) (rows : List RowView) (sets : List Ids) (values : List ℕ)
    → AllZip Meets rows sets → AllZip (IsValueOf prices) rows values
    → worth rows values ≤ cost rows sets + sum_by (prices_of prices) sets
rows_pay prices [] [] [] met below = omega arith
rows_pay prices [] [] (v ∷ values) met below = absurd below
rows_pay prices [] (s ∷ sets) values met below = absurd met
rows_pay prices (row ∷ rows) [] values met below = absurd met
rows_pay prices (row ∷ rows) (s ∷ sets) [] met below = absurd below
rows_pay prices (row ∷ rows) (s ∷ sets) (v ∷ values) met below =
    omega (
      arith,
      sum_by-cons (λ (e : RowView × ℕ). e.0.demand * e.1) (row, v) (zip rows values),
      sum_by-cons (λ (e : RowView × Ids). row_cost e.0 e.1) (row, s) (zip rows sets),
      sum_by-cons (prices_of prices) s sets,
      row_pays prices row s v met.0 below.0,
      rows_pay prices rows sets values met.1 below.1,
    )

part_of : (p : ℕ) (b : Bool) → cond b p 0 ≤ p
part_of p true = omega arith
part_of p false = omega arith

held_prices : (prices : List Price) (sets : List Ids) → AllPairs IsDisjoint sets → sum_by (prices_of prices) sets ≤ all_prices prices
held_prices prices sets apart =
    rw (sums_of_sets (price prices) sets apart)
    (sum_by-cpus-le _ _ (λ c is_cpu. part_of (price prices c) (is_held sets c)))

pub no_plan_below_bound : NoPlanBelowBound
no_plan_below_bound rows values prices bound sets is_bound plan =
    omega (arith, rows_pay prices rows sets values plan.met is_bound.below, held_prices prices sets plan.apart, is_bound.sum)
