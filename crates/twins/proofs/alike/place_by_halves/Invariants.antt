use Rattle.std.proofs.Common.{◌-◌, ◌≤◌, length}
use Rattle.twins.proofs.alike.place_by_halves.Given as goal

abbrev pub invariant-loop-low : goal.invariant-loop-low
invariant-loop-low l = l.high ≤ length l.offers

abbrev pub decreases-loop-low : goal.decreases-loop-low
decreases-loop-low l = l.high - l.low
