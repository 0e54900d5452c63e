use Rattle.std.proofs.Common.{take}
use Rattle.transport.specs.States.{IsLeastUpTo}
use Rattle.transport.proofs.duals.least_slack.Given as goal

abbrev pub invariant-loop-class : goal.invariant-loop-class
invariant-loop-class l = IsLeastUpTo l.assignment.values.items l.assignment.prices.items l.labels l.tree_classes (take l.class-index l.labels.labelled.items) l.nearest.items l.least
