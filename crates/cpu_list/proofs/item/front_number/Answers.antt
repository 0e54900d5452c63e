use Rattle.std.proofs.Common.{arith, rules}
use Rattle.cpu_list.proofs.PlainItems.{front_more}
use Rattle.cpu_list.proofs.item.front_number.Goals as goal

pub loop-count-preserved : goal.loop-count-preserved
loop-count-preserved c = front_more _ _ _ _ _ c.loop-count-test.true c.loop-count.invariant (search rules) (omega arith)
