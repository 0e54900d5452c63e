use Rattle.std.proofs.Common.{take}
use Rattle.twins.specs.Edges.{AreEdges}
use Rattle.twins.proofs.edges.edges_of.Given as goal

abbrev pub invariant-loop-k : goal.invariant-loop-k
invariant-loop-k l = AreEdges (take l.k l.rows) l.edges
