-- Rows whose weights are put through a function.
use Rattle.std.proofs.Common.{◌≡◌, ℕ, Bool, true, false, cond, Some, option_map, List, [], ◌∷◌, map, refl}
use Rattle.std.specs.Prelude.{find}
use Rattle.std.specs.FinSet as set
use Rattle.certificate.specs.Weight.{weight_in}
use Rattle.certificate.specs.declared.rows.Offer.{Offer}
use Rattle.certificate.specs.Scaled.{with_weight}

-- a CPU weighs what the function makes of its weight
pub weight_with : (f : ℕ → ℕ) (offers : List Offer) (c : ℕ) → weight_in (map (with_weight f) offers) c ≡ option_map f (weight_in offers c)
weight_with f [] c = refl
weight_with f (o ∷ offers) c = by_cases (set.contains o.cpus c) (weight_with f offers c)
  where
    by_cases :
        (b : Bool) → weight_in (map (with_weight f) offers) c ≡ option_map f (weight_in offers c)
        → option_map (λ (p : Offer). p.weight) (cond b (Some (with_weight f o)) (find (λ (p : Offer). set.contains p.cpus c) (map (with_weight f) offers)))
        ≡ option_map f (option_map (λ (p : Offer). p.weight) (cond b (Some o) (find (λ (p : Offer). set.contains p.cpus c) offers)))
    by_cases true rest = refl
    by_cases false rest = rest
