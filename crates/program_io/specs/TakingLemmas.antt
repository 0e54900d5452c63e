-- Texts of which a writer took all, or a front.
use Rattle.std.proofs.Common.{ℕ, List, length, arith, length-append, take_all, Option, Result, Ok, Err}
use Rattle.std.proofs.Math.Seq.{take-append_seam}
use Rattle.std.specs.Io.KnownBytes.{Appends}
use Rattle.byte_output.specs.Output.{SendsFront, Writes}
use Rattle.program_io.specs.Pages.{TakesFront}

-- all of it
pub TakesFront-all : (old new : Option (List ℕ)) (bytes : List ℕ) → Appends old new bytes → TakesFront old new bytes
TakesFront-all old new bytes all = (length bytes, omega arith, rw (take_all (length bytes) bytes (omega arith)) all)

-- some of it
pub TakesFront-some : (old new : Option (List ℕ)) (bytes : List ℕ) → SendsFront old new bytes → TakesFront old new bytes
TakesFront-some old new bytes front = (
  length front.sent,
  rw front.cut (omega (arith, length-append front.sent front.unsent)),
  rw (front.cut, take-append_seam front.sent front.unsent) front.went_out,
)

pub TakesFront-written : {E : Type 0} (old new : Option (List ℕ)) (r : Result (Unit {0}) E) (bytes : List ℕ) → Writes old new r bytes → TakesFront old new bytes
TakesFront-written old new (Ok done) bytes all = TakesFront-all old new bytes all
TakesFront-written old new (Err e) bytes front = TakesFront-some old new bytes front
