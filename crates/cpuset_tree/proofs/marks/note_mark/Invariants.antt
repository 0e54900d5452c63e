use Rattle.std.proofs.Common.{length, ◌+◌, ◌-◌}
use Rattle.cpuset_tree.specs.Kept.{AreSameBut}
use Rattle.cpuset_tree.proofs.marks.note_mark.Given as goal

abbrev pub invariant-loop-marks : goal.invariant-loop-marks
invariant-loop-marks l = AreSameBut l.key l.fn.marks.items l.marks.items

abbrev pub decreases-loop-marks : goal.decreases-loop-marks
decreases-loop-marks l = l.key + 1 - length l.marks.items
