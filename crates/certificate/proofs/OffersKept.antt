-- Offers, and the sets with weights that they are kept as.
use Rattle.certificate.specs.ApartTestLemmas.{is_in_one}
use Rattle.certificate.specs.Limits.{are_apart, is_disjoint}
use Rattle.certificate.specs.OfferLemmas.{is_some-weight_in}
use Rattle.certificate.specs.OffersOf.{offer_of, as_offers}
use Rattle.certificate.specs.Weight.{weight_in}
use Rattle.certificate.specs.declared.rows.Offer.{Offer}
use Rattle.cpu_set.specs.Ids.{Ids}
use Rattle.std.proofs.Common.{Bool, List, None, Option, Some, [], ap, arith, get_or, length, refl, suc, sym, ℕ, ◌&&◌, ◌++◌, ◌<◌, ◌||◌, ◌∙◌, ◌∷◌, ◌≡◌}
use Rattle.std.proofs.Math.ListN.{get_or-map}
use Rattle.std.proofs.lemmas.List.{get_or_default, map-append}
use Rattle.std.proofs.lemmas.List.Folds.{list_all-map}
use Rattle.std.specs.List.{list_all}
use Rattle.std.specs.Prelude.{IfSome, is_some}
use Rattle.tagged_sets.specs.Tagged.{in_any}
use Rattle.std.specs.FinSet as set

pub length-as_offers : (sets : List (ℕ × Ids)) → length (as_offers sets) ≡ length sets
length-as_offers [] = refl
length-as_offers (p ∷ sets) = ap suc (length-as_offers sets)

-- an offer is made of its weight and its CPUs
pub offer_at : (sets : List (ℕ × Ids)) (k : ℕ) (o : Offer) → k < length sets
    → ((d : ℕ × Ids) → o.weight ≡ (get_or sets k d).0) → ((d : ℕ × Ids) → o.cpus ≡ (get_or sets k d).1) → o ≡ get_or (as_offers sets) k o
offer_at sets k o lt weighs has =
    let d : ℕ × Ids = (0, set.empty) in
    made o (get_or sets k d) (weighs d) (has d)
    ∙ sym (get_or-map offer_of sets k d)
    ∙ get_or_default (as_offers sets) k (offer_of d) o (omega (arith, length-as_offers sets))
  where
    made : (o : Offer) (p : ℕ × Ids) → o.weight ≡ p.0 → o.cpus ≡ p.1 → o ≡ offer_of p
    made o p w s = λ i. record { weight = w i; cpus = s i }

pub weight_at : (sets : List (ℕ × Ids)) (k w : ℕ) (o : Offer) → k < length sets → ((d : ℕ × Ids) → w ≡ (get_or sets k d).0) → w ≡ (get_or (as_offers sets) k o).weight
weight_at sets k w o lt weighs =
    let d : ℕ × Ids = (0, set.empty) in
    weighs d
    ∙ ap (λ (p : Offer). p.weight)
    (sym (get_or-map offer_of sets k d) ∙ get_or_default (as_offers sets) k (offer_of d) o (omega (arith, length-as_offers sets)))

pub cpus_at : (sets : List (ℕ × Ids)) (k : ℕ) (e : ℕ × Ids) (o : Offer) → k < length sets → (get_or sets k e).1 ≡ (get_or (as_offers sets) k o).cpus
cpus_at sets k e o lt =
    ap (λ (p : Offer). p.cpus)
    (sym (get_or-map offer_of sets k e) ∙ get_or_default (as_offers sets) k (offer_of e) o (omega (arith, length-as_offers sets)))

in_any-is : (sets : List (ℕ × Ids)) (q : ℕ) → in_any sets q ≡ is_in_one (λ (o : Offer). o.cpus) (as_offers sets) q
in_any-is [] q = refl
in_any-is (p ∷ sets) q = ap (λ b. set.contains p.1 q || b) (in_any-is sets q)

-- the numbers in one of the sets are those with a weight
pub weighed : (sets : List (ℕ × Ids)) (q : ℕ) → in_any sets q ≡ is_some (weight_in (as_offers sets) q)
weighed sets q = in_any-is sets q ∙ sym (is_some-weight_in (as_offers sets) q)

pub offers_once : (sets others : List (ℕ × Ids)) → as_offers sets ≡ as_offers others → sets ≡ others
offers_once [] [] e = refl
offers_once [] (p ∷ others) e = absurd (cc)
offers_once (p ∷ sets) [] e = absurd (cc)
offers_once (p ∷ sets) (r ∷ others) e =
    let first : offer_of p ≡ offer_of r = cc in
    let more : as_offers sets ≡ as_offers others = cc in
    let head : p ≡ r = ap (λ (o : Offer). (o.weight, o.cpus)) first in
    ap (λ q. q ∷ sets) head ∙ ap (λ qs. r ∷ qs) (offers_once sets others more)

pub push_is : (sets : List (ℕ × Ids)) (o : Offer) → as_offers (sets ++ (o.weight, o.cpus) ∷ []) ≡ as_offers sets ++ o ∷ []
push_is sets o = map-append offer_of sets ((o.weight, o.cpus) ∷ [])

-- they are apart where their sets are
pub apart_is : (sets : List (ℕ × Ids)) → are_apart (λ (p : ℕ × Ids). p.1) sets ≡ are_apart (λ (o : Offer). o.cpus) (as_offers sets)
apart_is [] = refl
apart_is (p ∷ sets) =
    ap (λ b. b && are_apart (λ (r : ℕ × Ids). r.1) sets) (sym (list_all-map (λ (o : Offer). is_disjoint p.1 o.cpus) offer_of sets))
    ∙ ap (λ b. list_all (λ (o : Offer). is_disjoint p.1 o.cpus) (as_offers sets) && b) (apart_is sets)

-- whether a number is in the set of one of them
pub has_at : (sets : List (ℕ × Ids)) (k q : ℕ) (b : Bool) (o : Offer) → k < length sets → ((d : ℕ × Ids) → b ≡ set.contains (get_or sets k d).1 q) → b ≡ set.contains (get_or (as_offers sets) k o).cpus q
has_at sets k q b o lt has =
    let d : ℕ × Ids = (0, set.empty) in
    has d
    ∙ ap (λ (p : Offer). set.contains p.cpus q)
    (sym (get_or-map offer_of sets k d) ∙ get_or_default (as_offers sets) k (offer_of d) o (omega (arith, length-as_offers sets)))

-- what is kept of a set is the CPUs of its offer
pub kept_at : {A : Type 0} (now : A → Ids) (sets : List (ℕ × Ids)) (k : ℕ) (kept : Option A) (o : Offer) → k < length sets
    → ((d : ℕ × Ids) → IfSome kept (λ a. now a ≡ (get_or sets k d).1)) → IfSome kept (λ a. now a ≡ (get_or (as_offers sets) k o).cpus)
kept_at now sets k None o lt is = tt
kept_at now sets k (Some a) o lt is =
    let d : ℕ × Ids = (0, set.empty) in
    is d ∙ cpus_at sets k d o lt
