-- A writer in the midst of some bytes.
use Rattle.std.proofs.Common.{◌≡◌, ℕ, List, ◌++◌, Option}
use Rattle.std.specs.Io.KnownBytes.{Appends}

-- all but the rest of the bytes went out
pub record HasSent (old new : Option (List ℕ)) (bytes rest : List ℕ) : Type 0 where
  pub sent : List ℕ
  pub cut : bytes ≡ sent ++ rest
  pub went_out : Appends old new sent
