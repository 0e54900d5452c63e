use Rattle.apply_plan.specs.Walks.{HaveReleased}
use Rattle.apply_plan.proofs.handover.Handover.let_all_go.Given as goal

-- the writes so far are due, and none of the entries before this one must let go
abbrev pub invariant-loop-entry : goal.invariant-loop-entry
invariant-loop-entry g l = HaveReleased l.self l.entry-index (g.K.Kernel.state l.fn.kernel) (g.K.Kernel.state l.kernel)
