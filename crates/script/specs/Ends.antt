-- How a script ends.
use Rattle.std.specs.Prelude.{◌≡◌, ℕ, ◌*◌, ◌<◌, ◌≤◌, List, [], ◌∷◌, ◌++◌, length, Option, Result, Ok, Err}
use Rattle.std.specs.Io.KnownBytes.{Appends, Consumes, IsAtEnd}
use Rattle.script.specs.Commands.{Asked}
use Rattle.script.specs.Lines.{line_kept, lines_of}
use Rattle.script.specs.Runs.{AnswersLine, Runs}
use Rattle.script.specs.declared.running.TheConstants.{PIECE}
use Rattle.script.specs.declared.fault.ScriptFault.{ScriptFault}
use Rattle.script.specs.declared.fault.ScriptFault.TheVariants.{Read, TooManyReads, Write}

-- a prefix of the bytes went out, perhaps all of them
pub record SendsPart (old new : Option (List ℕ)) (bytes : List ℕ) : Type 0 where
  pub sent : List ℕ
  pub unsent : List ℕ
  pub cut : bytes ≡ sent ++ unsent
  pub went_out : Appends old new sent

-- all of the text went out, and then a prefix of the last answer, perhaps all of it
pub record SendsLast (old new : Option (List ℕ)) (text last : List ℕ) : Type 0 where
  pub mid : Option (List ℕ)
  pub went_out : Appends old mid text
  pub part : SendsPart mid new last

-- all of the bytes went out, or at an error a prefix of them
abbrev pub WritesPart : {E : Type 0} → Option (List ℕ) → Option (List ℕ) → Result (Unit {0}) E → List ℕ → Type 0
WritesPart out out' (Ok done) bytes = Appends out out' bytes
WritesPart out out' (Err e) bytes = SendsPart out out' bytes

-- a text that answers was written, or at an error a prefix of it
pub record Replies {S E : Type 0} (Answers : List ℕ → S → Type 0) (out out' : Option (List ℕ)) (result : Result (Unit {0}) E) (new : S) : Type 0 where
  pub text : List ℕ
  pub answers : Answers text new
  pub written : WritesPart out out' result text

-- n reads gave these bytes: each one byte at least, and 8,192 at most
abbrev pub IsGivenBy : ℕ → List ℕ → Type 0
IsGivenBy reads input = (reads ≤ length input) × (length input ≤ reads * PIECE)

-- the script came to its end: the whole input was read, by fewer reads than are made at most, as one more met the end; each
-- of its lines was answered
pub record Ends {S : Type 0} (most : ℕ) (Answers : S → Asked → List ℕ → S → Type 0) (read read' out out' : Option (List ℕ)) (old new : S) : Type 0 where
  pub input : List ℕ
  pub text : List ℕ
  pub reads : ℕ
  pub few : reads < most
  pub given : IsGivenBy reads input
  pub taken : Consumes read read' input
  pub ended : IsAtEnd read'
  pub run : Runs Answers old (lines_of input) text new
  pub went_out : Appends out out' text

-- a read failed, or as many as are made have not come to the end. n reads gave bytes, and each line of these was answered,
-- except for the last, whose end was not read.
pub record EndsUnread {S : Type 0} (Answers : S → Asked → List ℕ → S → Type 0) (read read' out out' : Option (List ℕ)) (reads : ℕ) (old new : S) : Type 0 where
  pub input : List ℕ
  pub lines : List (List ℕ)
  pub last : List ℕ
  pub text : List ℕ
  pub given : IsGivenBy reads input
  pub taken : Consumes read read' input
  pub cut : lines_of input ≡ lines ++ last ∷ []
  pub run : Runs Answers old lines text new
  pub went_out : Appends out out' text

-- a write failed. All lines before one were answered; that one was run, and of its answer a prefix went out. It is the
-- unfinished last line only if the script ended there. No more reads gave the input than are made at most.
pub record EndsUnwritten {S : Type 0} (most : ℕ) (Answers : S → Asked → List ℕ → S → Type 0) (read read' out out' : Option (List ℕ)) (old new : S) : Type 0 where
  pub input : List ℕ
  pub before : List (List ℕ)
  pub line : List ℕ
  pub others : List (List ℕ)
  pub text : List ℕ
  pub answer : List ℕ
  pub mid : S
  pub reads : ℕ
  pub few : reads ≤ most
  pub given : IsGivenBy reads input
  pub taken : Consumes read read' input
  pub cut : lines_of input ≡ before ++ line ∷ others
  pub whole : others ≡ [] → IsAtEnd read'
  pub run : Runs Answers old before text mid
  pub answered : AnswersLine Answers mid (line_kept line) answer new
  pub written : SendsLast out out' text answer

-- how a script ends, by n reads at most. It was run whole, a read failed before the nth, n reads all gave bytes, or a write
-- failed.
abbrev pub EndsBy : {S : Type 0} → ℕ → (S → Asked → List ℕ → S → Type 0) → Option (List ℕ) → Option (List ℕ) → Option (List ℕ) → Option (List ℕ) → S → Result (Unit {0}) ScriptFault → S → Type 0
EndsBy most Answers read read' out out' old (Ok done) new = Ends most Answers read read' out out' old new
EndsBy most Answers read read' out out' old (Err (Read kind)) new = (reads : ℕ) × (reads < most) × EndsUnread Answers read read' out out' reads old new
EndsBy most Answers read read' out out' old (Err TooManyReads) new = EndsUnread Answers read read' out out' most old new
EndsBy most Answers read read' out out' old (Err Write) new = EndsUnwritten most Answers read read' out out' old new
