-- An answer that `put` writes.
use Rattle.std.proofs.Common.{ℕ, List, Option, Result, Ok, Err}
use Rattle.byte_output.specs.Output.{SendsFront, Writes}
use Rattle.script.specs.Ends.{Replies, SendsPart, WritesPart}

pub SendsPart-front : (old new : Option (List ℕ)) (bytes : List ℕ) → SendsFront old new bytes → SendsPart old new bytes
SendsPart-front old new bytes front = record { sent = front.sent; unsent = front.unsent; cut = front.cut; went_out = front.went_out }

pub WritesPart-written : {E : Type 0} (old new : Option (List ℕ)) (result : Result (Unit {0}) E) (bytes : List ℕ) → Writes old new result bytes → WritesPart old new result bytes
WritesPart-written old new (Ok done) bytes written = written
WritesPart-written old new (Err e) bytes written = SendsPart-front old new bytes written

-- a text that answers, and was written
pub Replies-written : {S E : Type 0} (Answers : List ℕ → S → Type 0) (old new : Option (List ℕ)) (result : Result (Unit {0}) E) (target : S) (text : List ℕ) → Answers text target
    → Writes old new result text → Replies Answers old new result target
Replies-written Answers old new result target text answers written = record { text = text; answers = answers; written = WritesPart-written old new result text written }
