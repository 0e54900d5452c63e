use Rattle.std.proofs.Common.{◌≡◌, drop}
use Rattle.cpuset_tree.specs.Groups.{child_among}
use Rattle.cpuset_tree.specs.Kept.{entries_kept}
use Rattle.cpuset_tree.proofs.groups.child_among.Given as goal

abbrev pub invariant-loop-key : goal.invariant-loop-key
invariant-loop-key l =
    child_among (entries_kept l.groups (drop l.key-index l.keys)) l.parent l.name ≡ child_among (entries_kept l.groups l.keys) l.parent l.name
