use Rattle.std.proofs.Common.{length}
use Rattle.transport.specs.States.{HasScanned}
use Rattle.transport.specs.Weights.{weights, AreSortedArcs}
use Rattle.transport.specs.Scans.{IsBetter}
use Rattle.transport.specs.Sought.{AreSought}
use Rattle.transport.proofs.search.scan_rows.Given as goal

abbrev pub invariant-loop-at : goal.invariant-loop-at
invariant-loop-at l = record {
  arcs_by_kind : AreSortedArcs l.instance l.assignment.residual.items l.arcs_by_kind;
  better : IsBetter (weights l.instance) l.assignment l.initial.tree l.tree;
  sought : AreSought l.instance l.assignment l.tree l.arcs_by_kind l.from (length l.initial.tree.reached_rows.order.items);
  scanned : HasScanned (weights l.instance) l.assignment l.tree l.at;
}
