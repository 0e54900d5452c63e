-- How what weights count is stored.
use Rattle.std.specs.Prelude.{◌≡◌, Bool, true, false, refl}
use Rattle.std.specs.Coded.{Coded, code_by, coded_bool}
use Rattle.certificate.specs.declared.weights.Weights.{Weights}
use Rattle.certificate.specs.declared.weights.Weights.TheVariants.{Plain, WithMoves}

-- they count moves
abbrev pub count_moves : Weights → Bool
count_moves Plain = false
count_moves WithMoves = true

abbrev pub weights_of : Bool → Weights
weights_of false = Plain
weights_of true = WithMoves

pub weights_of-count_moves : (w : Weights) → weights_of (count_moves w) ≡ w
weights_of-count_moves Plain = refl
weights_of-count_moves WithMoves = refl

abbrev pub weights_code : Coded Weights
weights_code = code_by Bool coded_bool count_moves weights_of weights_of-count_moves
