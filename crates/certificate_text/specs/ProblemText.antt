-- The grammar of problem texts: which text stands for which rows.
use Rattle.std.specs.Prelude.{◌≡◌, ℕ, List, [], ◌∷◌, ◌++◌, All, codes, map}
use Rattle.std.specs.List.{AllZip}
use Rattle.certificate.specs.RowView.{RowView}
use Rattle.certificate_text.specs.CertificateText.{HaveOwnIds}
use Rattle.certificate_text.specs.Line.{LineView, RowLine, EndLine, Spells}
use Rattle.certificate_text.specs.Parts.{parts}
use Rattle.certificate_text.specs.Written.{CanWriteRow, IsRowHeld}

-- the first line of a problem
abbrev pub problem_header : List ℕ
problem_header = codes "numarun-problem 1"

-- the lines behind it: one for each row, as a certificate has it, and the last one
abbrev pub problem_lines : List RowView → List LineView
problem_lines rows = map RowLine rows ++ EndLine ∷ []

-- these lines, as text, are those of the rows; no two rows have one id
pub record AreProblemLines (ls : List (List ℕ)) (rows : List RowView) : Type 0 where
  pub behind : List (List ℕ)
  pub lines_are : ls ≡ problem_header ∷ behind
  pub spelled : AllZip Spells behind (problem_lines rows)
  pub apart : HaveOwnIds rows

-- the text stands for these rows: it is the problem's lines, each with a line feed at its end, the last one too
abbrev pub IsProblemText : List ℕ → List RowView → Type 0
IsProblemText text rows = (ls : List (List ℕ)) × (parts 10 text ≡ ls ++ [] ∷ []) × AreProblemLines ls rows

-- no text stands for the rows of two problems
abbrev pub OneProblem : Type 0
OneProblem = (text : List ℕ) (rows others : List RowView) → IsProblemText text rows → IsProblemText text others → rows ≡ others

-- rows that can be written in a certificate. No two have one id, and their ids, numbers and sets are such as words can say
-- and types can hold.
pub record AreWritable (rows : List RowView) : Type 0 where
  pub can : All CanWriteRow rows
  pub held : All IsRowHeld rows
  pub apart : HaveOwnIds rows

-- rows that a text stands for can be written in a certificate
abbrev pub ReadProblemsCanBeWritten : Type 0
ReadProblemsCanBeWritten = (text : List ℕ) (rows : List RowView) → IsProblemText text rows → AreWritable rows
