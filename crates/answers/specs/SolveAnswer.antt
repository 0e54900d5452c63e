-- What numarun answers to the bytes of a problem.
use Rattle.std.specs.Prelude.{◌≡◌, ℕ, List, Result, MatchResult, IfErr, true}
use Rattle.certificate_text.specs.declared.checking.VerdictFault.TheVariants as wrong
use Rattle.faults.specs.declared.or_memory.OrMemory.TheVariants.{Memory, Fault}
use Rattle.program_io.specs.declared.refusal.Refusal.{Refusal}
use Rattle.program_io.specs.declared.refusal.Refusal.TheVariants as refusal
use Rattle.solution.specs.Solves.{HasRows, IsUnsolved, Solves}
use Rattle.solution.specs.declared.solution.Solution.{Solution}

-- why nothing comes of the bytes; an allocation failure only at a line that can follow those before it, or with rows that are within
-- the limits
abbrev pub IsRefusalOf : List ℕ → Refusal → Type 0
IsRefusalOf bytes (refusal.BadText line) = IsUnsolved bytes (Fault (wrong.BadText (record { line = line })))
IsRefusalOf bytes (refusal.Check fault) = IsUnsolved bytes (Fault (wrong.Check fault))
IsRefusalOf bytes refusal.Memory = IsUnsolved bytes Memory
IsRefusalOf bytes _ = ⊥

-- a solution of the rows that the bytes of a problem stand for, or the refusal; a solution if they stand for rows within the
-- limits, unless an allocation failed
pub record IsSolutionOf (bytes : List ℕ) (answer : Result Solution Refusal) : Type 0 where
  pub sound : MatchResult answer (λ found. Solves bytes found) (IsRefusalOf bytes)
  pub complete : HasRows bytes true → IfErr answer (λ why. why ≡ refusal.Memory)

-- what is printed of a solution: the text of its certificate
abbrev pub solution_text : Solution → List ℕ
solution_text found = found
