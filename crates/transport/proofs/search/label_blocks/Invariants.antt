use Rattle.transport.specs.Weights.{weights}
use Rattle.transport.specs.Scans.{IsLimit}
use Rattle.transport.specs.Blocks.{ArePassed, HasLabelledBlocks}
use Rattle.transport.proofs.search.label_blocks.Given as goal

abbrev pub invariant-loop-at : goal.invariant-loop-at
invariant-loop-at l = record {
  labelled : HasLabelledBlocks (weights l.instance) l.assignment l.scan.row l.initial.tree l.tree l.instance.firsts l.sorted_arcs.blocks.items l.at;
  passed : ArePassed (weights l.instance) l.assignment l.tree l.instance.firsts l.passed;
  limit : IsLimit l.assignment.values.items l.scan.row l.tree.labels.free_end l.fn.limit;
}
