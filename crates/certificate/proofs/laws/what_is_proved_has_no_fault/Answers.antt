use Rattle.certificate.proofs.Exact.{plan_fault-none, plan_fault-says}
use Rattle.certificate.proofs.laws.what_is_proved_has_no_fault.Goals as goal

pub returns : goal.returns
returns c = record { none = plan_fault-none; proved = plan_fault-says }
