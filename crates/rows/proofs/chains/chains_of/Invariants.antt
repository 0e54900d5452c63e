use Rattle.rows.specs.Chains.{AreChains}
use Rattle.rows.proofs.chains.chains_of.Given as goal

-- the nodes before this one are chained
abbrev pub invariant-loop-node : goal.invariant-loop-node
invariant-loop-node l = AreChains l.weights l.last l.next l.node
