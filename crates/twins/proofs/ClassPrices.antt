-- The prices of classes, as prices of their CPUs.
use Rattle.std.proofs.Common.{◌≡◌, ◌≢◌, ℕ, zero, suc, ◌+◌, ◌<◌, ◌==◌, Bool, true, false, cond, ◌||◌, Some, option_map, unwrap_or, List, [], ◌∷◌, ◌++◌, length, take, get_or, nat_le, refl, sym, ap, ◌∙◌, arith}
use Rattle.std.specs.Prelude.{AllPairs, find}
use Rattle.std.specs.List.{list_all}
use Rattle.std.proofs.Math.Numerals.{add-one}
use Rattle.std.specs.FinSet as set
use Rattle.std.proofs.lemmas.Bool.{true≢false, eqb-true, and_from, or_parts}
use Rattle.cpu_set.specs.Ids.{Ids, IsDisjoint}
use Rattle.cpu_set.specs.PointwiseLaws.{contains-empty}
use Rattle.certificate.specs.IsDealt.{Holds}
use Rattle.certificate.specs.PlanFault.{is_held}
use Rattle.certificate.specs.Price.{price}
use Rattle.certificate.specs.declared.price_lists.Price.{Price}
use Rattle.certificate.specs.ApartLemmas.{IsApartFrom, AllPairs-tail, AllPairs-head, not_held}
use Rattle.certificate.specs.Limits.{is_disjoint, are_apart, values_fit, prices_fit}
use Rattle.certificate.specs.declared.limits.TheConstants.{MAX_AMOUNT}
use Rattle.certificate.specs.ApartTestLemmas.{is_disjoint-true}
use Rattle.certificate.specs.TestLaws.{true_left, true_right}
use Rattle.twins.specs.IsPriced.{class_prices, with_price}

-- the price of a CPU, where a set is priced before others
abbrev first_price : ℕ → Bool → List Price → Ids → ℕ → ℕ
first_price p zero_price more s c = price (cond zero_price more (record { amount = p; cpus = s } ∷ more)) c

passed_by : (p : ℕ) (b : Bool) (more : List Price) (s : Ids) (c : ℕ) → set.contains s c ≡ false → first_price p b more s c ≡ price more c
passed_by p true more s c gone = refl
passed_by p false more s c gone =
    ap (λ t. unwrap_or (option_map (λ (q : Price). q.amount) (cond t (Some (record { amount = p; cpus = s })) (find (λ (q : Price). set.contains q.cpus c) more))) 0) gone

found : (p : ℕ) (b : Bool) (more : List Price) (s : Ids) (c : ℕ) → (p == 0) ≡ b → set.contains s c ≡ true → price more c ≡ 0 → first_price p b more s c ≡ p
found p true more s c e here none = none ∙ sym (eqb-true p 0 e)
found p false more s c e here none =
    ap (λ t. unwrap_or (option_map (λ (q : Price). q.amount) (cond t (Some (record { amount = p; cpus = s })) (find (λ (q : Price). set.contains q.cpus c) more))) 0) here

-- a CPU of no class has the price 0
pub price_none : (classes : List Ids) (prices : List ℕ) (c : ℕ) → is_held classes c ≡ false → price (class_prices classes prices) c ≡ 0
price_none [] prices c none = refl
price_none (s ∷ classes) [] c none = refl
price_none (s ∷ classes) (p ∷ prices) c none =
    let parts = or_parts (set.contains s c) (is_held classes c) none in
    passed_by p (p == 0) (class_prices classes prices) s c parts.0 ∙ price_none classes prices c parts.1

held_there : (classes : List Ids) (g c : ℕ) → Holds classes g c → is_held classes c ≡ true
held_there [] g c holds = sym (contains-empty c) ∙ holds
held_there (s ∷ classes) zero c holds = ap (λ b. b || is_held classes c) holds
held_there (s ∷ classes) (suc g) c holds = or_true (set.contains s c) (held_there classes g c holds)
  where
    or_true : (a : Bool) {b : Bool} → b ≡ true → (a || b) ≡ true
    or_true true e = refl
    or_true false e = e

-- a CPU of a class has the class's price
pub price_of_class : (classes : List Ids) (prices : List ℕ) (g c : ℕ) → AllPairs IsDisjoint classes → Holds classes g c → price (class_prices classes prices) c ≡ get_or prices g 0
price_of_class [] prices g c apart holds = absurd (true≢false (sym holds ∙ contains-empty c))
price_of_class (s ∷ classes) [] g c apart holds = refl
price_of_class (s ∷ classes) (p ∷ prices) zero c apart holds =
    found p (p == 0) (class_prices classes prices) s c refl holds
    (price_none classes prices c (not_held s classes (AllPairs-head s classes apart) c holds))
price_of_class (s ∷ classes) (p ∷ prices) (suc g) c apart holds =
    passed_by p (p == 0) (class_prices classes prices) s c (other (set.contains s c) refl)
    ∙ price_of_class classes prices g c (AllPairs-tail s classes apart) holds
  where
    other : (b : Bool) → set.contains s c ≡ b → set.contains s c ≡ false
    other true here = absurd (true≢false (sym (held_there classes g c holds) ∙ not_held s classes (AllPairs-head s classes apart) c here))
    other false gone = gone

with_first : (first : Bool) (p : ℕ) (s x : Ids) (y : ℕ) (prices : List Price)
    → cond first (with_price prices p s) (record { amount = y; cpus = x } ∷ with_price prices p s) ≡ with_price (cond first prices (record { amount = y; cpus = x } ∷ prices)) p s
with_first first p s x y prices = by_cases first (p == 0)
  where
    by_cases : (a b : Bool)
        → cond a (cond b prices (prices ++ record { amount = p; cpus = s } ∷ [])) (record { amount = y; cpus = x } ∷ cond b prices (prices ++ record { amount = p; cpus = s } ∷ []))
        ≡ cond b (cond a prices (record { amount = y; cpus = x } ∷ prices)) (cond a prices (record { amount = y; cpus = x } ∷ prices) ++ record { amount = p; cpus = s } ∷ [])
    by_cases true true = refl
    by_cases true false = refl
    by_cases false true = refl
    by_cases false false = refl

prices_suc :
    (classes : List Ids) (prices : List ℕ) (g : ℕ) (s : Ids) → g < length classes → g < length prices → s ≡ get_or classes g s
    → class_prices (take (suc g) classes) (take (suc g) prices) ≡ with_price (class_prices (take g classes) (take g prices)) (get_or prices g 0) s
prices_suc [] prices g s in_classes in_prices is = absurd (omega arith)
prices_suc (x ∷ classes) [] g s in_classes in_prices is = absurd (omega arith)
prices_suc (x ∷ classes) (y ∷ prices) zero s in_classes in_prices is = rw is refl
prices_suc (x ∷ classes) (y ∷ prices) (suc g) s in_classes in_prices is =
    ap (λ l. cond (y == 0) l (record { amount = y; cpus = x } ∷ l)) (prices_suc classes prices g s (omega arith) (omega arith) is)
    ∙ with_first (y == 0) (get_or prices g 0) s x y (class_prices (take g classes) (take g prices))

-- the price of one class more
pub class_prices_more :
    (classes : List Ids) (prices : List ℕ) (g : ℕ) (s : Ids) → g < length classes → g < length prices → s ≡ get_or classes g s
    → class_prices (take (g + 1) classes) (take (g + 1) prices) ≡ with_price (class_prices (take g classes) (take g prices)) (get_or prices g 0) s
class_prices_more classes prices g s in_classes in_prices is = rw add-one (prices_suc classes prices g s in_classes in_prices is)

small_prices : (classes : List Ids) (prices : List ℕ) → values_fit prices ≡ true → list_all (λ (p : Price). nat_le p.amount MAX_AMOUNT) (class_prices classes prices) ≡ true
small_prices [] prices fit = refl
small_prices (s ∷ classes) [] fit = refl
small_prices (s ∷ classes) (p ∷ prices) fit = by_cases (p == 0) (true_left _ _ fit) (small_prices classes prices (true_right _ _ fit))
  where
    by_cases : (b : Bool) → nat_le p MAX_AMOUNT ≡ true → list_all (λ (q : Price). nat_le q.amount MAX_AMOUNT) (class_prices classes prices) ≡ true
        → list_all (λ (q : Price). nat_le q.amount MAX_AMOUNT) (cond b (class_prices classes prices) (record { amount = p; cpus = s } ∷ class_prices classes prices)) ≡ true
    by_cases true small rest = rest
    by_cases false small rest = and_from _ _ small rest

clear_of : (s : Ids) (classes : List Ids) (prices : List ℕ) → IsApartFrom s classes → list_all (λ (p : Price). is_disjoint s p.cpus) (class_prices classes prices) ≡ true
clear_of s [] prices apart = refl
clear_of s (t ∷ classes) [] apart = refl
clear_of s (t ∷ classes) (p ∷ prices) apart =
    by_cases (p == 0) (is_disjoint-true s t (apart 0 t (omega arith))) (clear_of s classes prices (λ k d lt. apart (suc k) d (omega arith)))
  where
    by_cases : (b : Bool) → is_disjoint s t ≡ true → list_all (λ (q : Price). is_disjoint s q.cpus) (class_prices classes prices) ≡ true
        → list_all (λ (q : Price). is_disjoint s q.cpus) (cond b (class_prices classes prices) (record { amount = p; cpus = t } ∷ class_prices classes prices)) ≡ true
    by_cases true clear rest = rest
    by_cases false clear rest = and_from _ _ clear rest

prices_apart : (classes : List Ids) (prices : List ℕ) → AllPairs IsDisjoint classes → are_apart (λ (p : Price). p.cpus) (class_prices classes prices) ≡ true
prices_apart [] prices apart = refl
prices_apart (s ∷ classes) [] apart = refl
prices_apart (s ∷ classes) (p ∷ prices) apart =
    by_cases (p == 0) (clear_of s classes prices (AllPairs-head s classes apart)) (prices_apart classes prices (AllPairs-tail s classes apart))
  where
    by_cases : (b : Bool) → list_all (λ (q : Price). is_disjoint s q.cpus) (class_prices classes prices) ≡ true → are_apart (λ (q : Price). q.cpus) (class_prices classes prices) ≡ true
        → are_apart (λ (q : Price). q.cpus) (cond b (class_prices classes prices) (record { amount = p; cpus = s } ∷ class_prices classes prices)) ≡ true
    by_cases true clear rest = rest
    by_cases false clear rest = and_from _ _ clear rest

-- the prices are within the limits of the check
pub class_prices_fit : (classes : List Ids) (prices : List ℕ) → AllPairs IsDisjoint classes → values_fit prices ≡ true → prices_fit (class_prices classes prices) ≡ true
unfolding prices_fit
class_prices_fit classes prices apart fit = and_from _ _ (small_prices classes prices fit) (prices_apart classes prices apart)
