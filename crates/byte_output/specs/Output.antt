-- What a writer took of some bytes, if the bytes that it holds are known.
use Rattle.std.specs.Prelude.{◌≡◌, ℕ, ◌<◌, List, ◌++◌, length, Option, Result, Ok, Err}
use Rattle.std.specs.Io.KnownBytes.{Appends}

-- a prefix of the bytes went out, and some are left
pub record SendsFront (old new : Option (List ℕ)) (bytes : List ℕ) : Type 0 where
  pub sent : List ℕ
  pub unsent : List ℕ
  pub cut : bytes ≡ sent ++ unsent
  pub is_short : 0 < length unsent
  pub went_out : Appends old new sent

-- all of the bytes went out, or at an error a prefix of them
abbrev pub Writes : {E : Type 0} → Option (List ℕ) → Option (List ℕ) → Result (Unit {0}) E → List ℕ → Type 0
Writes old new (Ok done) bytes = Appends old new bytes
Writes old new (Err e) bytes = SendsFront old new bytes
