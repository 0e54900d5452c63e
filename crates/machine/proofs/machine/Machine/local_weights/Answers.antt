use Rattle.std.proofs.Common.{refl, arith}
use Rattle.machine.proofs.Reaching.{AreLocal-none, AreLocal-more}
use Rattle.machine.proofs.machine.Machine.local_weights.Goals as goal

pub loop-node-init : goal.loop-node-init
loop-node-init c = AreLocal-none _ refl

pub loop-node-preserved : goal.loop-node-preserved
loop-node-preserved c =
    let few = c.count-node-end.ensures.sound.few in
    AreLocal-more _ _ _ c.loop-node.invariant (omega (arith, few, c.loop-node-test.true)) refl
