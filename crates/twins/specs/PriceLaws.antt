-- What prices of classes are.
use Rattle.std.proofs.Common.{◌≡◌, ◌≢◌, ◌⊎◌, ℕ, ◌<◌, ◌==◌, Bool, true, false, cond, List, [], ◌∷◌, refl, sym, ◌∙◌, inl, inr, arith}
use Rattle.std.specs.Prelude.{All}
use Rattle.std.specs.FinSet as set
use Rattle.std.proofs.lemmas.Bool.{cases_eq, true≢false, eq-eqb}
use Rattle.std.proofs.lemmas.List.Elements.{All-nil, All-cons, All-head, All-tail}
use Rattle.cpu_set.specs.Ids.{Ids}
use Rattle.certificate.specs.declared.price_lists.Price.{Price}
use Rattle.twins.specs.IsPriced.{class_prices}

-- each price is above 0, and some CPUs have it
pub prices_some : (classes : List Ids) (prices : List ℕ) → All (λ s. 0 < set.len s) classes → All (λ (p : Price). (0 < p.amount) × (0 < set.len p.cpus)) (class_prices classes prices)
prices_some [] prices some = All-nil (λ (p : Price). (0 < p.amount) × (0 < set.len p.cpus))
prices_some (s ∷ classes) [] some = All-nil (λ (p : Price). (0 < p.amount) × (0 < set.len p.cpus))
prices_some (s ∷ classes) (p ∷ prices) some =
    by_cases (p == 0) refl (prices_some classes prices (All-tail (λ t. 0 < set.len t) s classes some))
  where
    by_cases : (b : Bool) → (p == 0) ≡ b → All (λ (q : Price). (0 < q.amount) × (0 < set.len q.cpus)) (class_prices classes prices)
        → All (λ (q : Price). (0 < q.amount) × (0 < set.len q.cpus)) (cond b (class_prices classes prices) (record { amount = p; cpus = s } ∷ class_prices classes prices))
    by_cases true e rest = rest
    by_cases false e rest =
        All-cons (λ (q : Price). (0 < q.amount) × (0 < set.len q.cpus)) (record { amount = p; cpus = s }) (class_prices classes prices)
        (above (cases_eq p 0), All-head (λ t. 0 < set.len t) s classes some) rest
      where
        above : (p ≡ 0) ⊎ (p ≢ 0) → 0 < p
        above (inl none) = absurd (true≢false (sym (eq-eqb p 0 none) ∙ e))
        above (inr some_price) = omega arith
