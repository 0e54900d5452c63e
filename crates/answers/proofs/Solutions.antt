-- The refusal of a problem is the one that stands for why it was not solved.
use Rattle.std.proofs.Common.{◌≡◌, ℕ, List, Err, refl, true}
use Rattle.faults.specs.declared.or_memory.OrMemory.{OrMemory}
use Rattle.faults.specs.declared.or_memory.OrMemory.TheVariants.{Memory, Fault}
use Rattle.certificate_text.specs.declared.checking.VerdictFault.{VerdictFault}
use Rattle.certificate_text.specs.declared.checking.VerdictFault.TheVariants.{BadText, Check}
use Rattle.answers.specs.SolveAnswer.{IsSolutionOf}
use Rattle.program_io.specs.FaultRefusal.{verdict_refusal}
use Rattle.solution.specs.Solves.{HasRows, IsUnsolved}

pub unsolved : (text : List ℕ) (e : OrMemory VerdictFault) → IsUnsolved text e → (HasRows text true → e ≡ Memory) → IsSolutionOf text (Err (verdict_refusal e))
unsolved text Memory wrong complete = record { sound = wrong; complete = λ rows. refl }
unsolved text (Fault (BadText bad)) wrong complete = record { sound = wrong; complete = λ rows. absurd (let e = complete rows in cc) }
unsolved text (Fault (Check cause)) wrong complete = record { sound = wrong; complete = λ rows. absurd (let e = complete rows in cc) }
