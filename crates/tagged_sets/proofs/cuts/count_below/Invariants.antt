use Rattle.std.proofs.Common.{take, ◌<◌}
use Rattle.std.specs.Prelude.{All}
use Rattle.tagged_sets.proofs.cuts.count_below.Given as goal

abbrev pub invariant-loop-at : goal.invariant-loop-at
invariant-loop-at l = All (λ r. r.1 < l.number) (take l.at l.ranges)
