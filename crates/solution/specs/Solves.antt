-- What a problem's text comes to.
use Rattle.std.specs.Prelude.{◌≡◌, ◌⊎◌, ℕ, Bool, true, false, List}
use Rattle.certificate.specs.declared.weights.Weights.{Weights}
use Rattle.certificate.specs.declared.weights.Weights.TheVariants.{Plain}
use Rattle.certificate.specs.IsDealt.{IsDealt}
use Rattle.certificate.specs.Limits.{rows_fit}
use Rattle.certificate.specs.RowView.{RowView}
use Rattle.certificate.specs.Verdict.{IsBest, IsProvedCertificate}
use Rattle.certificate.specs.declared.certificates.Certificate.{Certificate}
use Rattle.certificate.specs.declared.certificates.Certificate.TheVariants.{Plan, Short}
use Rattle.certificate.specs.declared.fault.CheckFault.TheVariants.{BadProblem}
use Rattle.certificate.specs.declared.checking.Verdict.{Verdict}
use Rattle.certificate_text.specs.CertificateText.{IsText}
use Rattle.certificate_text.specs.ProblemError.{IsFirstBadProblemLine, ProblemAsksForMemory}
use Rattle.certificate_text.specs.ProblemText.{IsProblemText}
use Rattle.certificate_text.specs.declared.checking.VerdictFault.{VerdictFault}
use Rattle.certificate_text.specs.declared.checking.VerdictFault.TheVariants.{BadText, Check}
use Rattle.faults.specs.declared.or_memory.OrMemory.{OrMemory}
use Rattle.hall.specs.Needed.{AreNeeded}
use Rattle.faults.specs.declared.or_memory.OrMemory.TheVariants.{Memory, Fault}

-- the rows that a certificate is of
abbrev pub rows_of : Certificate → List RowView
rows_of (Plan rows sets prices total weights) = rows
rows_of (Short rows members weights) = rows

-- what its weights count
abbrev pub weights_of : Certificate → Weights
weights_of (Plan rows sets prices total weights) = weights
weights_of (Short rows members weights) = weights

-- of CPUs that are alike to all rows the lower ones go to the earlier rows
abbrev pub IsDealtPlan : Certificate → Type 0
IsDealtPlan (Plan rows sets prices total weights) = IsDealt rows sets
IsDealtPlan (Short rows members weights) = Unit {0}

-- no member of a shortage can be left out
abbrev pub NamesOnlyNeeded : List RowView → Certificate → Type 0
NamesOnlyNeeded rows (Plan own sets prices total weights) = Unit {0}
NamesOnlyNeeded rows (Short own members weights) = AreNeeded rows members

-- a certificate of version 1 of these very rows, which its own check accepts. No plan of the rows costs less than its plan,
-- or they have no plan; then it names only rows that can't be left out.
pub record IsSolution (rows : List RowView) (c : Certificate) : Type 0 where
  pub rows_are : rows_of c ≡ rows
  pub version : weights_of c ≡ Plain
  pub verdict : Verdict
  pub proved : IsProvedCertificate c verdict
  pub best : IsBest c verdict
  pub dealt : IsDealtPlan c
  pub needed : NamesOnlyNeeded rows c

-- the text stands for rows, which are within their limits
abbrev pub HasRows : List ℕ → Bool → Type 0
HasRows text fit = (rows : List RowView) × IsProblemText text rows × (rows_fit rows ≡ fit)

-- what is written stands, in the grammar, for a certificate that is a solution of the rows for which the text stands
abbrev pub Solves : List ℕ → List ℕ → Type 0
Solves text written = (rows : List RowView) × (c : Certificate) × IsProblemText text rows × IsText written c × IsSolution rows c

-- why a text has no solution: it stands for no rows, or for rows past the limits. Or an allocation failed, at a line that can
-- follow those before it or with rows that are within the limits.
abbrev pub IsUnsolved : List ℕ → OrMemory VerdictFault → Type 0
IsUnsolved text Memory = ProblemAsksForMemory text ⊎ HasRows text true
IsUnsolved text (Fault (BadText bad)) = IsFirstBadProblemLine text bad.line
IsUnsolved text (Fault (Check fault)) = (fault ≡ BadProblem) × HasRows text false
