-- What holds where a line was turned away.
use Rattle.std.specs.Prelude.{◌≡◌, Result, IfErr}
use Rattle.faults.specs.declared.or_memory.OrMemory.{OrMemory}
use Rattle.faults.specs.declared.or_memory.OrMemory.TheVariants.{Fault}
use Rattle.certificate_text.specs.declared.bad_line.BadLine.{BadLine}

-- this holds where the answer is a bad line, and not an allocation failure
abbrev pub OnBad : {A : Type 0} → Result A (OrMemory BadLine) → Type 0 → Type 0
OnBad r P = IfErr r (λ fault. (bad : BadLine) → fault ≡ Fault bad → P)
