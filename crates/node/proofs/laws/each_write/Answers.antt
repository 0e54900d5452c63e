use Rattle.node.proofs.OrderLemmas.{both_leave}
use Rattle.node.proofs.DisturbLemmas.{rebalances_write_little}
use Rattle.node.proofs.laws.each_write.Goals as goal

pub returns : goal.returns
returns c = rebalances_write_little both_leave
