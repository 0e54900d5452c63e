-- Which line of a text is named if the text stands for no certificate.
use Rattle.std.specs.Prelude.{◌≡◌, ℕ, ◌+◌, ◌⊎◌, List, [], ◌∷◌, ◌++◌, length}
use Rattle.certificate.specs.declared.certificates.Certificate.{Certificate}
use Rattle.certificate_text.specs.CertificateText.{AreLines, IsText}
use Rattle.certificate_text.specs.Parts.{parts}

-- some certificate begins with these lines
abbrev pub CanBegin : List (List ℕ) → Type 0
CanBegin ls = (more : List (List ℕ)) × (c : Certificate) × AreLines (ls ++ more) c

-- the line of this number, counted from 1, is the first that can't follow the lines before it. No certificate begins so, or
-- no line feed ends it. None ends the empty line after the last line feed.
pub record IsFirstBadLine (text : List ℕ) (n : ℕ) : Type 0 where
  pub before : List (List ℕ)
  pub line : List ℕ
  pub after : List (List ℕ)
  pub lines_are : parts 10 text ≡ before ++ line ∷ after
  pub number : n ≡ length before + 1
  pub begun : CanBegin before
  pub cannot : (after ≡ []) ⊎ (CanBegin (before ++ line ∷ []) → ⊥)
  pub no_text : (c : Certificate) → IsText text c → ⊥

-- a text has one first bad line at most
abbrev pub OneBadLine : Type 0
OneBadLine = (text : List ℕ) (m n : ℕ) → IsFirstBadLine text m → IsFirstBadLine text n → m ≡ n
