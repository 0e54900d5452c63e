use Rattle.std.proofs.Common.{◌≡◌, length}
use Rattle.blame.proofs.counting.offered_behind.Given as goal

abbrev pub invariant-loop-back : goal.invariant-loop-back
invariant-loop-back l = length l.behind.items ≡ length l.members
