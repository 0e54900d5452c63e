-- Which line of a text is named if the text stands for no problem, and what reading one answers.
use Rattle.std.specs.Prelude.{◌≡◌, ◌≢◌, ℕ, ◌+◌, ◌⊎◌, List, [], ◌∷◌, ◌++◌, Result, MatchResult, length}
use Rattle.faults.specs.declared.or_memory.OrMemory.{OrMemory}
use Rattle.faults.specs.declared.or_memory.OrMemory.TheVariants.{Memory, Fault}
use Rattle.certificate.specs.RowView.{RowView}
use Rattle.certificate_text.specs.declared.reading.BadText.{BadText}
use Rattle.certificate_text.specs.Line.{RowLine, Spells}
use Rattle.certificate_text.specs.Parts.{parts}
use Rattle.certificate_text.specs.ProblemText.{AreProblemLines, IsProblemText}

-- some problem begins with these lines
abbrev pub CanBeginProblem : List (List ℕ) → Type 0
CanBeginProblem ls = (more : List (List ℕ)) × (rows : List RowView) × AreProblemLines (ls ++ more) rows

-- the line of this number, counted from 1, is the first that can't follow the lines before it. No problem begins so, or no
-- line feed ends it. None ends the empty line after the last line feed.
pub record IsFirstBadProblemLine (text : List ℕ) (n : ℕ) : Type 0 where
  pub before : List (List ℕ)
  pub line : List ℕ
  pub after : List (List ℕ)
  pub lines_are : parts 10 text ≡ before ++ line ∷ after
  pub number : n ≡ length before + 1
  pub begun : CanBeginProblem before
  pub cannot : (after ≡ []) ⊎ (CanBeginProblem (before ++ line ∷ []) → ⊥)
  pub no_text : (rows : List RowView) → IsProblemText text rows → ⊥

-- the reading allocates for this line: it is a row's line, and some problem begins with the lines before it and this one
pub record ProblemAsksForMemory (text : List ℕ) : Type 0 where
  pub before : List (List ℕ)
  pub line : List ℕ
  pub after : List (List ℕ)
  pub row : RowView
  pub lines_are : parts 10 text ≡ before ++ line ∷ after
  pub ended : after ≢ []
  pub spelled : Spells line (RowLine row)
  pub begun : CanBeginProblem (before ++ line ∷ [])

-- the error names the first line that can't follow, or an allocation failed at a line before
abbrev pub IsProblemError : List ℕ → OrMemory BadText → Type 0
IsProblemError text Memory = ProblemAsksForMemory text
IsProblemError text (Fault bad) = IsFirstBadProblemLine text bad.line

-- these rows were read, unless an allocation failed
abbrev pub IsProblemRead : Result (List RowView) (OrMemory BadText) → List RowView → Type 0
IsProblemRead result rows = MatchResult result (λ own. own ≡ rows) (λ e. e ≡ Memory)
