-- The parts of a text that come one for each number.
use Rattle.std.proofs.Common.{◌≡◌, ℕ, ◌+◌, ◌-◌, ◌<◌, List, ◌++◌, suc, refl, arith}
use Rattle.std.specs.List.{flat_map, range_with_len}

-- the part of a number, and those after it
pub flat_map-rest : (part : ℕ → List ℕ) (n j : ℕ) → j < n
    → flat_map part (range_with_len j (n - j)) ≡ part j ++ flat_map part (range_with_len (j + 1) (n - (j + 1)))
flat_map-rest part n j below = let more : n - j ≡ suc (n - (j + 1)) = omega arith in rw more refl
