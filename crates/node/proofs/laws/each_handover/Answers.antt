use Rattle.node.proofs.OrderLemmas.{both_leave, calls_leave, few_by}
use Rattle.node.proofs.EndingLemmas.{handovers_end}
use Rattle.node.proofs.laws.each_handover.Goals as goal

pub returns : goal.returns
returns c = handovers_end both_leave calls_leave few_by
