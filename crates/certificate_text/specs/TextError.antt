-- What reading a text answers.
use Rattle.std.specs.Prelude.{◌≡◌, ◌≢◌, ℕ, List, [], ◌∷◌, ◌++◌, Result, MatchResult}
use Rattle.faults.specs.declared.or_memory.OrMemory.{OrMemory}
use Rattle.faults.specs.declared.or_memory.OrMemory.TheVariants.{Memory, Fault}
use Rattle.certificate.specs.declared.certificates.Certificate.{Certificate}
use Rattle.certificate_text.specs.declared.reading.BadText.{BadText}
use Rattle.certificate_text.specs.FirstBadLine.{CanBegin, IsFirstBadLine}
use Rattle.certificate_text.specs.Line.{LineView, Spells}
use Rattle.certificate_text.specs.Parts.{parts}
use Rattle.certificate_text.specs.Takes.{TakesRoom}

-- the reading allocates for this line: something is kept of it, and some certificate begins with the lines before it and this
-- one
pub record AsksForMemory (text : List ℕ) : Type 0 where
  pub before : List (List ℕ)
  pub line : List ℕ
  pub after : List (List ℕ)
  pub said : LineView
  pub lines_are : parts 10 text ≡ before ++ line ∷ after
  pub ended : after ≢ []
  pub spelled : Spells line said
  pub kept : TakesRoom said
  pub begun : CanBegin (before ++ line ∷ [])

-- the error names the first line that can't follow, or an allocation failed at a line before
abbrev pub IsTextError : List ℕ → OrMemory BadText → Type 0
IsTextError text Memory = AsksForMemory text
IsTextError text (Fault bad) = IsFirstBadLine text bad.line

-- this certificate was read, unless an allocation failed
abbrev pub IsRead : Result Certificate (OrMemory BadText) → Certificate → Type 0
IsRead result c = MatchResult result (λ d. d ≡ c) (λ e. e ≡ Memory)
