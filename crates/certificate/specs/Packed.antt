-- A cost of two parts as one number, in which the distance comes first.
use Rattle.std.specs.Prelude.{ℕ, ◌+◌, ◌*◌, ◌/◌, ◌%◌}
use Rattle.certificate.specs.declared.limits.TheConstants.{MOVE_SCALE}

-- a distance and moves as one number
abbrev pub packed : ℕ → ℕ → ℕ
packed distance moves = distance * MOVE_SCALE + moves

-- the distance in such a number
abbrev pub distance_of : ℕ → ℕ
distance_of n = n / MOVE_SCALE

-- the moves in such a number
abbrev pub moves_of : ℕ → ℕ
moves_of n = n % MOVE_SCALE
