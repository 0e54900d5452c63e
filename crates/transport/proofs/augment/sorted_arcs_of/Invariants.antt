use Rattle.transport.specs.Weights.{AreNewSortedArcs}
use Rattle.transport.proofs.augment.sorted_arcs_of.Given as goal

abbrev pub invariant-loop-k : goal.invariant-loop-k
invariant-loop-k l = AreNewSortedArcs l.instance.rows.now l.instance.kinds.now l.arcs_by_kind.items l.k
