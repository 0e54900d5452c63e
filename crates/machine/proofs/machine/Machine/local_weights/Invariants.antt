use Rattle.machine.specs.Lowered.{AreLocal}
use Rattle.machine.proofs.machine.Machine.local_weights.Given as goal

-- the nodes before this one have their weight
abbrev pub invariant-loop-node : goal.invariant-loop-node
invariant-loop-node l = AreLocal l.node l.local
