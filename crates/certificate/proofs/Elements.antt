-- An element of a list by its place.
use Rattle.std.proofs.Common.{List, [], arith, get_or, length, refl, suc, zero, ℕ, ◌<◌, ◌∷◌, ◌≡◌}

pub element_at : {A : Type 0} (xs : List A) (k : ℕ) → k < length xs → (x : A) × (x ≡ get_or xs k x)
element_at [] k lt = absurd (omega arith)
element_at (x ∷ xs) zero lt = (x, refl)
element_at (x ∷ xs) (suc k) lt = element_at xs k (omega arith)
