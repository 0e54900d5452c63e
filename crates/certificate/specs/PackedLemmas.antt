-- A cost of two parts as one number gives them back.
use Rattle.std.specs.Prelude.{◌≡◌, ℕ, ◌<◌, ◌≤◌}
use Rattle.std.proofs.Common.{arith}
use Rattle.std.proofs.lemmas.Nat.{div-add-mod', div-mul-add}
use Rattle.certificate.specs.declared.limits.TheConstants.{MOVE_SCALE}
use Rattle.certificate.specs.Packed.{packed, distance_of, moves_of}

-- each number is made of its two parts
pub packed-parts : (n : ℕ) → packed (distance_of n) (moves_of n) ≡ n
packed-parts n = div-add-mod' n MOVE_SCALE

-- and gives them back, where the moves are few
pub distance_of-packed : (distance moves : ℕ) → moves < MOVE_SCALE → distance_of (packed distance moves) ≡ distance
distance_of-packed distance moves few = div-mul-add distance MOVE_SCALE moves few

pub moves_of-packed : (distance moves : ℕ) → moves < MOVE_SCALE → moves_of (packed distance moves) ≡ moves
moves_of-packed distance moves few = omega (arith, few)

-- of two costs of few moves the lesser is no farther
pub no_farther : (d a e b : ℕ) → b < MOVE_SCALE → packed d a ≤ packed e b → d ≤ e
no_farther d a e b few le = omega (arith, few, le)
