-- Prices, and the sets with amounts that they are kept as.
use Rattle.certificate.specs.Limits.{are_apart, is_disjoint}
use Rattle.certificate.specs.PricesOf.{price_of, prices_of}
use Rattle.certificate.specs.declared.price_lists.Price.{Price}
use Rattle.cpu_set.specs.Ids.{Ids}
use Rattle.std.proofs.Common.{Bool, List, [], ap, arith, get_or, length, refl, suc, sym, ℕ, ◌&&◌, ◌++◌, ◌<◌, ◌∙◌, ◌∷◌, ◌≡◌}
use Rattle.std.proofs.Math.ListN.{get_or-map}
use Rattle.std.proofs.lemmas.List.{get_or_default, map-append}
use Rattle.std.proofs.lemmas.List.Folds.{list_all-map}
use Rattle.std.specs.List.{list_all}
use Rattle.std.specs.FinSet as set

pub length-prices_of : (sets : List (ℕ × Ids)) → length (prices_of sets) ≡ length sets
length-prices_of [] = refl
length-prices_of (p ∷ sets) = ap suc (length-prices_of sets)

-- a price is made of its amount and its CPUs
pub price_at : (sets : List (ℕ × Ids)) (k : ℕ) (o : Price) → k < length sets
    → ((d : ℕ × Ids) → o.amount ≡ (get_or sets k d).0) → ((d : ℕ × Ids) → o.cpus ≡ (get_or sets k d).1) → o ≡ get_or (prices_of sets) k o
price_at sets k o lt weighs has =
    let d : ℕ × Ids = (0, set.empty) in
    made o (get_or sets k d) (weighs d) (has d)
    ∙ sym (get_or-map price_of sets k d)
    ∙ get_or_default (prices_of sets) k (price_of d) o (omega (arith, length-prices_of sets))
  where
    made : (o : Price) (p : ℕ × Ids) → o.amount ≡ p.0 → o.cpus ≡ p.1 → o ≡ price_of p
    made o p w s = λ i. record { amount = w i; cpus = s i }

pub amount_at : (sets : List (ℕ × Ids)) (k w : ℕ) (o : Price) → k < length sets → ((d : ℕ × Ids) → w ≡ (get_or sets k d).0) → w ≡ (get_or (prices_of sets) k o).amount
amount_at sets k w o lt weighs =
    let d : ℕ × Ids = (0, set.empty) in
    weighs d
    ∙ ap (λ (p : Price). p.amount)
    (sym (get_or-map price_of sets k d) ∙ get_or_default (prices_of sets) k (price_of d) o (omega (arith, length-prices_of sets)))

pub cpus_at : (sets : List (ℕ × Ids)) (k : ℕ) (e : ℕ × Ids) (o : Price) → k < length sets → (get_or sets k e).1 ≡ (get_or (prices_of sets) k o).cpus
cpus_at sets k e o lt =
    ap (λ (p : Price). p.cpus)
    (sym (get_or-map price_of sets k e) ∙ get_or_default (prices_of sets) k (price_of e) o (omega (arith, length-prices_of sets)))

pub push_is : (sets : List (ℕ × Ids)) (o : Price) → prices_of (sets ++ (o.amount, o.cpus) ∷ []) ≡ prices_of sets ++ o ∷ []
push_is sets o = map-append price_of sets ((o.amount, o.cpus) ∷ [])

-- they are apart where their sets are
pub apart_is : (sets : List (ℕ × Ids)) → are_apart (λ (p : ℕ × Ids). p.1) sets ≡ are_apart (λ (o : Price). o.cpus) (prices_of sets)
apart_is [] = refl
apart_is (p ∷ sets) =
    ap (λ b. b && are_apart (λ (r : ℕ × Ids). r.1) sets) (sym (list_all-map (λ (o : Price). is_disjoint p.1 o.cpus) price_of sets))
    ∙ ap (λ b. list_all (λ (o : Price). is_disjoint p.1 o.cpus) (prices_of sets) && b) (apart_is sets)

-- whether a number is in the set of one of them
pub has_at : (sets : List (ℕ × Ids)) (k q : ℕ) (b : Bool) (o : Price) → k < length sets → ((d : ℕ × Ids) → b ≡ set.contains (get_or sets k d).1 q) → b ≡ set.contains (get_or (prices_of sets) k o).cpus q
has_at sets k q b o lt has =
    let d : ℕ × Ids = (0, set.empty) in
    has d
    ∙ ap (λ (p : Price). set.contains p.cpus q)
    (sym (get_or-map price_of sets k d) ∙ get_or_default (prices_of sets) k (price_of d) o (omega (arith, length-prices_of sets)))
