use Rattle.apply_plan.specs.Walks.{HaveMoved}
use Rattle.apply_plan.proofs.handover.Handover.take_all_targets.Given as goal

-- the writes so far are due, none must let go, and each live one of the entries before this one holds its target
abbrev pub invariant-loop-entry : goal.invariant-loop-entry
invariant-loop-entry g l = HaveMoved l.self l.entry-index (g.K.Kernel.state l.fn.kernel) (g.K.Kernel.state l.kernel)
