-- The refusal of a text is the one that stands for the fault of its check.
use Rattle.std.proofs.Common.{◌≡◌, ℕ, List, Err, refl}
use Rattle.faults.specs.declared.or_memory.OrMemory.{OrMemory}
use Rattle.faults.specs.declared.or_memory.OrMemory.TheVariants.{Memory, Fault}
use Rattle.certificate.specs.declared.checking.Verdict.{Verdict}
use Rattle.certificate_text.specs.Verdict.{IsVerdict, IsVerdictError}
use Rattle.certificate_text.specs.declared.checking.VerdictFault.{VerdictFault}
use Rattle.certificate_text.specs.declared.checking.VerdictFault.TheVariants.{BadText, Check}
use Rattle.answers.specs.CheckAnswer.{IsAnswerTo}
use Rattle.program_io.specs.FaultRefusal.{verdict_refusal}

pub refused : (text : List ℕ) (e : OrMemory VerdictFault) → IsVerdictError text e → ((w : Verdict) → IsVerdict text w → e ≡ Memory) → IsAnswerTo text (Err (verdict_refusal e))
refused text Memory wrong complete = record { sound = wrong; complete = λ w p. refl }
refused text (Fault (BadText bad)) wrong complete = record { sound = wrong; complete = λ w p. absurd (let e = complete w p in cc) }
refused text (Fault (Check cause)) wrong complete = record { sound = wrong; complete = λ w p. absurd (let e = complete w p in cc) }
