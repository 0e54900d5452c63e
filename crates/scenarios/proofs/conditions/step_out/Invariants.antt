use Rattle.apply_plan.specs.Targets.{ArePlaced}
use Rattle.scenarios.proofs.conditions.step_out.Given as goal

abbrev pub invariant-loop-turn : goal.invariant-loop-turn
invariant-loop-turn g l = ArePlaced (g.K.Kernel.state l.kernel) l.handover.entries
