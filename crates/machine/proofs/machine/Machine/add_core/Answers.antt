use Rattle.machine.proofs.CoreSets.{IsAdded-more}
use Rattle.machine.proofs.machine.Machine.add_core.Goals as goal

pub loop-next-preserved : goal.loop-next-preserved
loop-next-preserved c = IsAdded-more _ _ _ _ _ _ _ c.loop-next.invariant c.loop-next-test.true c.insert.ensures c.sibling_of-next.ensures
