-- The sets of a plan's rows with their values, as they are kept.
use Rattle.std.specs.Prelude.{ℕ, List, map}
use Rattle.cpu_set.specs.Ids.{Ids}

-- the sets without the values
abbrev pub sets_of : List (ℕ × Ids) → List Ids
sets_of held = map (λ p. p.1) held

-- the values without the sets
abbrev pub values_of : List (ℕ × Ids) → List ℕ
values_of held = map (λ p. p.0) held
