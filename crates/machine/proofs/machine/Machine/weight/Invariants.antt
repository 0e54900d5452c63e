use Rattle.std.proofs.Common.{◌≡◌}
use Rattle.machine.proofs.WeightLaws.{least_below}
use Rattle.machine.proofs.machine.Machine.weight.Given as goal

-- the least distance to a home so far
abbrev pub invariant-loop-home : goal.invariant-loop-home
invariant-loop-home l = l.least ≡ least_below l.self l.homes l.node l.home
