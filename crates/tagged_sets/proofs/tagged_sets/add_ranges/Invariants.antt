use Rattle.cpu_set.specs.RangesFrom.{AreLeft, ranges_left}
use Rattle.std.proofs.Common.{length, take, ◌++◌, ◌≡◌}
use Rattle.tagged_sets.specs.Tagged.{ranges_of_set}
use Rattle.tagged_sets.proofs.tagged_sets.add_ranges.Given as goal

-- what is added, and the ranges from the next number on, are the ranges of the set
abbrev pub invariant-loop-next : goal.invariant-loop-next
invariant-loop-next l =
    AreLeft l.cpus l.absent l.next ×
    (l.ranges.items ++ ranges_left l.cpus l.next ≡ l.fn.ranges.items ++ ranges_of_set l.cpus) ×
    (take l.before l.ranges.items ≡ l.fn.ranges.items)

abbrev pub decreases-loop-next : goal.decreases-loop-next
decreases-loop-next l = length (ranges_left l.cpus l.next)
