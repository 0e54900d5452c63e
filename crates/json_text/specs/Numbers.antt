-- Numbers of a JSON value.
use Rattle.std.specs.Prelude.{ℕ, Option, option_and_then}
use Rattle.serde_json.specs.Data.{Data}
use Rattle.serde_json.specs.Find.{as_number, as_u64}

-- the number as an unsigned one of 64 bits, where it is written as a whole number that fits
abbrev pub unsigned_of : Data → Option ℕ
unsigned_of d = option_and_then as_u64 (as_number d)
