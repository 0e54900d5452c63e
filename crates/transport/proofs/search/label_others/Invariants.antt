use Rattle.std.proofs.Common.{ℕ, Option}
use Rattle.transport.specs.Scans.{CanLabelArcs, HasLabelledFrom}
use Rattle.transport.proofs.search.label_others.Given as goal

abbrev pub invariant-loop-at : goal.invariant-loop-at
invariant-loop-at l = record {
  labelled : (ws : ℕ → ℕ → Option ℕ) → CanLabelArcs ws l.assignment l.initial.tree l.scan.row l.arcs l.upto → HasLabelledFrom ws l.assignment l.scan.row l.initial.tree l.tree l.arcs l.from l.at;
}
