-- What a writer took of bytes that are gathered, and what of them waits.
use Rattle.std.specs.Prelude.{◌≡◌, ℕ, List, ◌++◌, Option, Result, Ok, Err}
use Rattle.std.specs.Io.KnownBytes.{Appends}
use Rattle.byte_output.specs.Output.{SendsFront}

-- the bytes came behind those that waited: a prefix of all went out, and the rest waits
pub record HasGathered (old new : Option (List ℕ)) (waited waits bytes : List ℕ) : Type 0 where
  pub sent : List ℕ
  pub cut : waited ++ bytes ≡ sent ++ waits
  pub went_out : Appends old new sent

-- of those that waited with the bytes behind them a prefix went out, and not all
pub record GathersFront (old new : Option (List ℕ)) (waited bytes : List ℕ) : Type 0 where
  pub front : SendsFront old new (waited ++ bytes)

-- the bytes were gathered, or at an error a prefix of all went out
abbrev pub Gathers : {E : Type 0} → Option (List ℕ) → Option (List ℕ) → List ℕ → List ℕ → Result (Unit {0}) E → List ℕ → Type 0
Gathers old new waited waits (Ok done) bytes = HasGathered old new waited waits bytes
Gathers old new waited waits (Err e) bytes = GathersFront old new waited bytes
