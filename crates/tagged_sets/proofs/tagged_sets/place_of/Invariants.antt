use Rattle.std.proofs.Common.{length, ◌-◌, ◌≤◌}
use Rattle.tagged_sets.proofs.tagged_sets.place_of.Given as goal

abbrev pub invariant-loop-from : goal.invariant-loop-from
invariant-loop-from l = l.to ≤ length l.wide

abbrev pub decreases-loop-from : goal.decreases-loop-from
decreases-loop-from l = l.to - l.from
