-- What numarun answers to the bytes of a certificate.
use Rattle.std.specs.Prelude.{◌≡◌, ℕ, List, ◌++◌, Result, MatchResult, codes, decimal}
use Rattle.certificate.specs.declared.checking.Verdict.{Verdict}
use Rattle.certificate.specs.declared.checking.Verdict.TheVariants.{Plan, Moves, Short}
use Rattle.certificate_text.specs.TextError.{AsksForMemory}
use Rattle.certificate_text.specs.Verdict.{IsVerdict, IsVerdictError, SaysLeast}
use Rattle.certificate_text.specs.declared.checking.VerdictFault.TheVariants as wrong
use Rattle.faults.specs.declared.or_memory.OrMemory.TheVariants.{Fault}
use Rattle.program_io.specs.declared.refusal.Refusal.{Refusal}
use Rattle.program_io.specs.declared.refusal.Refusal.TheVariants as refusal

-- the verdict that the certificate proves: the plan costs this, and no plan costs less; or it has this distance and moves so
-- many CPUs, no plan is nearer, and none as near moves fewer; or there is none
abbrev pub IsProvedVerdict : List ℕ → Verdict → Type 0
IsProvedVerdict bytes verdict = IsVerdict bytes verdict × SaysLeast bytes verdict

-- why the bytes prove nothing; an allocation failure only at a line that can follow those before it
abbrev pub IsRefusalOf : List ℕ → Refusal → Type 0
IsRefusalOf bytes (refusal.BadText line) = IsVerdictError bytes (Fault (wrong.BadText (record { line = line })))
IsRefusalOf bytes (refusal.Check fault) = IsVerdictError bytes (Fault (wrong.Check fault))
IsRefusalOf bytes refusal.Memory = AsksForMemory bytes
IsRefusalOf bytes _ = ⊥

-- the verdict or the refusal of the bytes of a certificate; if they prove a verdict it is this one, unless an allocation
-- failed
pub record IsAnswerTo (bytes : List ℕ) (answer : Result Verdict Refusal) : Type 0 where
  pub sound : MatchResult answer (IsProvedVerdict bytes) (IsRefusalOf bytes)
  pub complete : (verdict : Verdict) → IsVerdict bytes verdict → MatchResult answer (λ found. found ≡ verdict) (λ why. why ≡ refusal.Memory)

abbrev pub verdict_line : Verdict → List ℕ
verdict_line (Plan total) = codes "plan total " ++ (decimal total ++ codes "\n")
verdict_line (Moves distance moves) = codes "plan total " ++ (decimal distance ++ (codes " moves " ++ (decimal moves ++ codes "\n")))
verdict_line (Short asked allowed) = codes "short demand " ++ (decimal asked ++ (codes " cpus " ++ (decimal allowed ++ codes "\n")))
