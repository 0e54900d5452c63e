-- Offers and prices whose sets are written out: what a CPU weighs is computed from their lists.
use Rattle.std.proofs.Common.{◌≡◌, ℕ, ◌+◌, Bool, true, false, cond, not, ◌&&◌, ◌||◌, nat_lt, List, [], ◌∷◌, map, filter, length, Option, None, Some, is_some, option_map, refl, ◌∙◌}
use Rattle.std.specs.Prelude.{find, unwrap_or}
use Rattle.std.specs.Option.{option_map_or}
use Rattle.std.specs.Ordering.{nat_cmp}
use Rattle.std.specs.FinSet as set
use Rattle.cpu_set.specs.Members.{cpus}
use Rattle.cpu_set.specs.Least.{least_that}
use Rattle.cpu_set.specs.ListedSetLemmas.{is_in, contains-listed}
use Rattle.certificate.specs.Weight.{weight_in}
use Rattle.certificate.specs.Price.{price}
use Rattle.certificate.specs.Worked.{offer, price_of}
use Rattle.certificate.specs.declared.rows.Offer.{Offer}
use Rattle.certificate.specs.declared.price_lists.Price.{Price}

abbrev pub Listed : Type 0
Listed = List (ℕ × List ℕ)

abbrev pub offers : Listed → List Offer
offers os = map (λ o. offer o.0 o.1) os

abbrev pub prices : Listed → List Price
prices ps = map (λ p. price_of p.0 p.1) ps

-- the number of the first list that has the CPU
abbrev pub number_at : Listed → ℕ → Option ℕ
number_at [] cpu = None
number_at (o ∷ os) cpu = cond (is_in o.1 cpu) (Some o.0) (number_at os cpu)

first_weight : (b : Bool) (o : Offer) (rest : Option Offer) → option_map (λ (x : Offer). x.weight) (cond b (Some o) rest) ≡ cond b (Some o.weight) (option_map (λ (x : Offer). x.weight) rest)
first_weight true o rest = refl
first_weight false o rest = refl

first_amount : (b : Bool) (p : Price) (rest : Option Price) → option_map (λ (x : Price). x.amount) (cond b (Some p) rest) ≡ cond b (Some p.amount) (option_map (λ (x : Price). x.amount) rest)
first_amount true p rest = refl
first_amount false p rest = refl

weight_at : (os : Listed) (cpu : ℕ) → weight_in (offers os) cpu ≡ number_at os cpu
weight_at [] cpu = refl
weight_at (o ∷ os) cpu =
    first_weight (set.contains (set.from_list o.1) cpu) (offer o.0 o.1) (find (λ (x : Offer). set.contains x.cpus cpu) (offers os))
    ∙ (λ i. cond (contains-listed o.1 i cpu) (Some o.0) (weight_at os cpu i))

amount_at : (ps : Listed) (cpu : ℕ) → option_map (λ (x : Price). x.amount) (find (λ (x : Price). set.contains x.cpus cpu) (prices ps)) ≡ number_at ps cpu
amount_at [] cpu = refl
amount_at (p ∷ ps) cpu =
    first_amount (set.contains (set.from_list p.1) cpu) (price_of p.0 p.1) (find (λ (x : Price). set.contains x.cpus cpu) (prices ps))
    ∙ (λ i. cond (contains-listed p.1 i cpu) (Some p.0) (amount_at ps cpu i))

pub least_not_allowed :
    (os : Listed) (ks : List ℕ)
    → least_that (λ cpu. set.contains {R = nat_cmp} (set.from_list ks) cpu && not (is_some (weight_in (offers os) cpu)))
    ≡ least_that (λ cpu. is_in ks cpu && not (is_some (number_at os cpu)))
least_not_allowed os ks = λ i. least_that (λ cpu. contains-listed ks i cpu && not (is_some (weight_at os cpu i)))

pub least_too_high :
    (ps os : Listed) (value : ℕ)
    → least_that (λ cpu. option_map_or (λ w. nat_lt (w + price (prices ps) cpu) value) (weight_in (offers os) cpu) false)
    ≡ least_that (λ cpu. option_map_or (λ w. nat_lt (w + unwrap_or (number_at ps cpu) 0) value) (number_at os cpu) false)
least_too_high ps os value =
    λ i. least_that (λ cpu. option_map_or (λ w. nat_lt (w + unwrap_or (amount_at ps cpu i) 0) value) (weight_at os cpu i) false)

pub offered_by_two :
    (os ps : Listed)
    → length (filter (λ cpu. is_some (weight_in (offers os) cpu) || (is_some (weight_in (offers ps) cpu) || false)) cpus)
    ≡ length (filter (λ cpu. is_some (number_at os cpu) || (is_some (number_at ps cpu) || false)) cpus)
offered_by_two os ps = λ i. length (filter (λ cpu. is_some (weight_at os cpu i) || (is_some (weight_at ps cpu i) || false)) cpus)
