use Rattle.std.proofs.Common.{take, ◌≡◌}
use Rattle.tagged_sets.proofs.tagged_sets.are_same.Given as goal

abbrev pub invariant-loop-at : goal.invariant-loop-at
invariant-loop-at g l = take l.at l.some ≡ take l.at l.others
