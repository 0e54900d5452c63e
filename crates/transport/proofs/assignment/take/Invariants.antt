use Rattle.transport.specs.Shares.{IsTaking}
use Rattle.transport.proofs.assignment.take.Given as goal

abbrev pub invariant-loop-at : goal.invariant-loop-at
invariant-loop-at l = IsTaking l.initial.shares.items l.shares.items l.row l.amount l.left l.at
