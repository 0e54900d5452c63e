use Rattle.std.proofs.Common.{◌≡◌, ◌-◌, ◌≤◌, length}
use Rattle.transport.specs.States.{IsRunning, HasScanned, IsSameRoot}
use Rattle.transport.specs.Weights.{weights, AreSortedArcs}
use Rattle.transport.specs.Answers.{IsSameRest}
use Rattle.transport.specs.Blocks.{AreFirstsOfTaken, AreNoted}
use Rattle.transport.proofs.search.find_augmenting_path.Given as goal

abbrev pub invariant-steps : goal.invariant-steps
invariant-steps l = record {
  running : IsRunning (weights l.instance) l.assignment l.tree;
  rows : length l.instance.rows.now ≡ length l.assignment.values.items;
  arcs_by_kind : AreSortedArcs l.instance l.assignment.residual.items l.arcs_by_kind;
  from : l.scanned ≤ length l.tree.reached_rows.order.items;
  scanned : HasScanned (weights l.instance) l.assignment l.tree l.scanned;
  rest : IsSameRest l.initial.assignment l.assignment;
  root : IsSameRoot l.initial.tree.reached_rows l.tree.reached_rows;
  taken : AreFirstsOfTaken l.instance.firsts l.taken l.tree.tree_classes;
  noted_in : l.noted ≤ length l.tree.tree_classes.order.items;
  noted : AreNoted l.instance.firsts l.taken l.tree.tree_classes.order.items l.noted;
}

abbrev pub decreases-steps : goal.decreases-steps
decreases-steps l = length l.assignment.prices.items - length l.tree.tree_classes.order.items
