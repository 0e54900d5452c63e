use Rattle.std.proofs.Common.{◌↔◌, length}
use Rattle.apply_plan.specs.Targets.{ArePlaced}
use Rattle.scenarios.proofs.requirements.are_placed.Given as goal

abbrev pub invariant-loop-rest : goal.invariant-loop-rest
invariant-loop-rest g l = ArePlaced (g.K.Kernel.state l.kernel) l.rest ↔ ArePlaced (g.K.Kernel.state l.kernel) l.entries

abbrev pub decreases-loop-rest : goal.decreases-loop-rest
decreases-loop-rest g l = length l.rest
