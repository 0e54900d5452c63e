-- What is printed as the cause of a refusal of a certificate: its number and its name.
use Rattle.std.specs.Prelude.{ℕ, List, codes}
use Rattle.certificate.specs.declared.fault.CheckFault.{CheckFault}
use Rattle.certificate.specs.declared.fault.CheckFault.TheVariants.{BadProblem, WrongCount, NotAllowed, HeldTwice, ValueTooHigh, Gap, NoShortage}

abbrev pub check_title : CheckFault → List ℕ
check_title BadProblem = codes "E70 BadProblem"
check_title (WrongCount row) = codes "E71 WrongCount"
check_title (NotAllowed row cpu) = codes "E72 NotAllowed"
check_title (HeldTwice cpu) = codes "E73 HeldTwice"
check_title (ValueTooHigh row cpu) = codes "E74 ValueTooHigh"
check_title Gap = codes "E75 Gap"
check_title NoShortage = codes "E76 NoShortage"
