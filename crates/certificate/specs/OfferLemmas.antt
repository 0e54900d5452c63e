-- Weights by offers.
use Rattle.std.proofs.Common.{◌≡◌, ℕ, Bool, true, false, cond, ◌||◌, Option, Some, None, option_map, is_some, List, [], ◌∷◌, refl, ◌∙◌}
use Rattle.std.specs.Prelude.{find}
use Rattle.std.specs.List.{list_any}
use Rattle.std.specs.FinSet as set
use Rattle.certificate.specs.Weight.{weight_in}
use Rattle.certificate.specs.declared.rows.Offer.{Offer}
use Rattle.certificate.specs.ApartTestLemmas.{is_in_one}

module _ {A : Type 0} where
  found_first : (b : Bool) (x : A) (rest : Option A) → is_some (cond b (Some x) rest) ≡ (b || is_some rest)
  found_first true x rest = refl
  found_first false x rest = refl

  -- there is a first that passes where one passes
  pub is_some-find : (test : A → Bool) (xs : List A) → is_some (find test xs) ≡ list_any test xs
  is_some-find test [] = refl
  is_some-find test (x ∷ xs) = rw (← is_some-find test xs) (found_first (test x) x (find test xs))

  pub is_some-option_map : {B : Type 0} (f : A → B) (a : Option A) → is_some (option_map f a) ≡ is_some a
  is_some-option_map f None = refl
  is_some-option_map f (Some x) = refl

-- a CPU has a weight where an offer has it
pub is_some-weight_in : (offers : List Offer) (c : ℕ) → is_some (weight_in offers c) ≡ is_in_one (λ o. o.cpus) offers c
is_some-weight_in offers c =
    is_some-option_map (λ (o : Offer). o.weight) (find (λ (o : Offer). set.contains o.cpus c) offers)
    ∙ is_some-find (λ (o : Offer). set.contains o.cpus c) offers
