use Rattle.std.proofs.Common.{◌≤◌, ◌-◌, length, drop}
use Rattle.cpuset_tree.specs.Kept.{IsInOrder}
use Rattle.cpuset_tree.proofs.refresh.place_of_older.Given as goal

-- from the upper end on the groups are older
abbrev pub invariant-loop-low : goal.invariant-loop-low
invariant-loop-low l = (l.high ≤ length l.order.items) × IsInOrder l.groups l.written (drop l.high l.order.items)

abbrev pub decreases-loop-low : goal.decreases-loop-low
decreases-loop-low l = l.high - l.low
