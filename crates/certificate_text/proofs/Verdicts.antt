-- What a verdict on a text means.
use Rattle.std.proofs.Common.{◌≡◌, ℕ, List, Result, Ok, subst}
use Rattle.certificate.specs.Verdict.{IsProvedCertificate}
use Rattle.certificate.specs.declared.certificates.Certificate.{Certificate}
use Rattle.certificate.specs.declared.fault.CheckFault.{CheckFault}
use Rattle.certificate.specs.declared.checking.Verdict.{Verdict}
use Rattle.certificate_text.specs.CertificateText.{IsText}
use Rattle.certificate_text.specs.Verdict.{IsVerdict}
use Rattle.certificate_text.proofs.Grammar.{one_certificate}

-- what the text proves is what the check of its certificate answers
pub answers_verdict : (text : List ℕ) (c : Certificate) (r : Result Verdict CheckFault) → IsText text c → ((v : Verdict) → IsProvedCertificate c v → r ≡ Ok v)
    → (v : Verdict) → IsVerdict text v → r ≡ Ok v
answers_verdict text c r t complete v p =
    complete v (subst (λ (d : Certificate). IsProvedCertificate d v) (one_certificate text p.0 c p.1 t) p.2)
