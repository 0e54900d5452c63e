use Rattle.machine.proofs.Reaching.{AreLeast}
use Rattle.machine.proofs.machine.Machine.least_weights.Given as goal

-- the least distances to the homes before this node
abbrev pub invariant-loop-home : goal.invariant-loop-home
invariant-loop-home l = AreLeast l.self l.homes l.least l.home
