-- A script that is underway: some of its bytes were read, and the lines that ended were answered.
use Rattle.std.specs.Prelude.{◌≡◌, ℕ, false, List, ◌∷◌, ◌++◌, Option, Result, Ok, Err}
use Rattle.std.specs.Io.KnownBytes.{Appends}
use Rattle.std.specs.List.{All}
use Rattle.script.specs.Commands.{Asked}
use Rattle.script.specs.Ends.{SendsLast}
use Rattle.script.specs.Lines.{is_feed, line_kept, lines_of}
use Rattle.script.specs.Runs.{AnswersLine, Runs}

-- the lines that ended in this input were answered by this text, and this is held of the line that has not ended
pub record Underway {S : Type 0} (Answers : S → Asked → List ℕ → S → Type 0) (old : S) (input text : List ℕ) (new : S) (held : Option (List ℕ)) : Type 0 where
  pub lines : List (List ℕ)
  pub rest : List ℕ
  pub cut : (more : List ℕ) → lines_of (input ++ more) ≡ lines ++ lines_of (rest ++ more)
  pub partial : All (λ byte. is_feed byte ≡ false) rest
  pub held_is : held ≡ line_kept rest
  pub run : Runs Answers old lines text new

-- whatever was read before, with these bytes more it has written this text more
abbrev pub Extends : {S : Type 0} → (S → Asked → List ℕ → S → Type 0) → List ℕ → List ℕ → S → Option (List ℕ) → S → Option (List ℕ) → Type 0
Extends Answers bytes text mid held new held' = (old : _) (input before : List ℕ)
    → Underway Answers old input before mid held → Underway Answers old (input ++ bytes) (before ++ text) new held'

-- of these bytes a front that ends a line was taken; what it ended before was answered, and of the answer to this line a front went out
pub record StopsIn {S : Type 0} (Answers : S → Asked → List ℕ → S → Type 0) (out out' : Option (List ℕ)) (bytes : List ℕ) (mid : S) (held : Option (List ℕ)) (new : S) : Type 0 where
  pub fed : List ℕ
  pub rest : List ℕ
  pub text : List ℕ
  pub answer : List ℕ
  pub last : S
  pub line : Option (List ℕ)
  pub cut : bytes ≡ fed ++ 10 ∷ rest
  pub extends : Extends Answers fed text mid held last line
  pub answered : AnswersLine Answers last line answer new
  pub written : SendsLast out out' text answer

-- the bytes were taken and what they end was answered
pub record Feeds {S : Type 0} (Answers : S → Asked → List ℕ → S → Type 0) (out out' : Option (List ℕ)) (bytes : List ℕ) (mid : S) (held : Option (List ℕ)) (new : S) (held' : Option (List ℕ)) : Type 0 where
  pub text : List ℕ
  pub extends : Extends Answers bytes text mid held new held'
  pub went_out : Appends out out' text

abbrev pub FeedsBy : {S E : Type 0} → (S → Asked → List ℕ → S → Type 0) → Option (List ℕ) → Option (List ℕ) → List ℕ → S → Option (List ℕ) → Result (Unit {0}) E → S → Option (List ℕ) → Type 0
FeedsBy Answers out out' bytes mid held (Ok done) new held' = Feeds Answers out out' bytes mid held new held'
FeedsBy Answers out out' bytes mid held (Err e) new held' = StopsIn Answers out out' bytes mid held new
