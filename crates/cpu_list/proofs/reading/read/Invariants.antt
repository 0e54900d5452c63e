use Rattle.std.proofs.Common.{◌+◌, ◌-◌, length}
use Rattle.std.specs.FinSet as set
use Rattle.cpu_list.proofs.ReadSteps.{IsRead}
use Rattle.cpu_list.proofs.reading.read.Given as goal

abbrev pub invariant-loop-at : goal.invariant-loop-at
invariant-loop-at l = IsRead l.text l.limit l.at (set.contains l.set)

abbrev pub decreases-loop-at : goal.decreases-loop-at
decreases-loop-at l = length l.text + 1 - l.at
