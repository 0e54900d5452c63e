-- A walk over the CPUs of a set.
use Rattle.std.specs.Prelude.{ℕ, ◌≤◌, Option, Some, None}

-- the next CPU of a walk is no higher
abbrev pub IsAhead : Option ℕ → ℕ → Type 0
IsAhead None cpu = ⊥
IsAhead (Some next) cpu = next ≤ cpu
