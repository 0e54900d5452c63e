use Rattle.std.proofs.Common.{length, ◌+◌, ◌-◌}
use Rattle.cpu_list.proofs.RisingSteps.{AreRisen}
use Rattle.cpu_list.proofs.rising.read_rising.Given as goal

abbrev pub invariant-loop-at : goal.invariant-loop-at
invariant-loop-at l = AreRisen l.text l.limit l.at l.least l.ranges.items

abbrev pub decreases-loop-at : goal.decreases-loop-at
decreases-loop-at l = length l.text + 1 - l.at
