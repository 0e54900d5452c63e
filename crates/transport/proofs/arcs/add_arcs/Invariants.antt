use Rattle.transport.specs.Blocks.{AreBlocks}
use Rattle.transport.proofs.arcs.add_arcs.Given as goal

abbrev pub invariant-loop-at : goal.invariant-loop-at
invariant-loop-at l = AreBlocks l.firsts l.arcs l.at l.blocks.items
