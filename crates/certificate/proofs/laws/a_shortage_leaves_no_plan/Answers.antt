use Rattle.certificate.proofs.Hall.{shortage_leaves_no_plan}
use Rattle.certificate.proofs.laws.a_shortage_leaves_no_plan.Goals as goal

pub returns : goal.returns
returns c = shortage_leaves_no_plan
