-- What the check of a text answers.
use Rattle.std.specs.Prelude.{◌≡◌, ℕ, List, Result, MatchResult}
use Rattle.faults.specs.declared.or_memory.OrMemory.{OrMemory}
use Rattle.faults.specs.declared.or_memory.OrMemory.TheVariants.{Memory, Fault}
use Rattle.certificate.specs.Verdict.{IsProvedCertificate, IsBest, IsFaultOf}
use Rattle.certificate.specs.declared.certificates.Certificate.{Certificate}
use Rattle.certificate.specs.declared.checking.Verdict.{Verdict}
use Rattle.certificate_text.specs.CertificateText.{IsText}
use Rattle.certificate_text.specs.FirstBadLine.{IsFirstBadLine}
use Rattle.certificate_text.specs.TextError.{AsksForMemory}
use Rattle.certificate_text.specs.declared.checking.VerdictFault.{VerdictFault}
use Rattle.certificate_text.specs.declared.checking.VerdictFault.TheVariants.{BadText, Check}

-- the text stands for a certificate of which this holds
abbrev pub SaysThat : List ℕ → (Certificate → Type 0) → Type 0
SaysThat text holds = (c : Certificate) × IsText text c × holds c

-- what a yes to a text means: the text stands for a certificate that proves the verdict
abbrev pub IsVerdict : List ℕ → Verdict → Type 0
IsVerdict text verdict = SaysThat text (λ c. IsProvedCertificate c verdict)

-- what follows: no plan costs less than the text's, or its rows have no plan. In version 2 no plan is of less distance, and
-- of that distance none moves fewer CPUs.
abbrev pub SaysLeast : List ℕ → Verdict → Type 0
SaysLeast text verdict = SaysThat text (λ c. IsBest c verdict)

-- the text stands for no certificate, or for one that has this fault, or an allocation failed at one of its lines
abbrev pub IsVerdictError : List ℕ → OrMemory VerdictFault → Type 0
IsVerdictError text Memory = AsksForMemory text
IsVerdictError text (Fault (BadText bad)) = IsFirstBadLine text bad.line
IsVerdictError text (Fault (Check fault)) = SaysThat text (IsFaultOf fault)

-- this verdict was answered, unless an allocation failed
abbrev pub IsAnswered : Result Verdict (OrMemory VerdictFault) → Verdict → Type 0
IsAnswered result verdict = MatchResult result (λ v. v ≡ verdict) (λ e. e ≡ Memory)
