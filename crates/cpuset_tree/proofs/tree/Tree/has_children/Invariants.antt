use Rattle.std.proofs.Common.{◌≡◌, drop}
use Rattle.cpuset_tree.specs.Groups.{has_child_among}
use Rattle.cpuset_tree.specs.Kept.{entries_kept}
use Rattle.cpuset_tree.proofs.tree.Tree.has_children.Given as goal

abbrev pub invariant-loop-place : goal.invariant-loop-place
invariant-loop-place l =
    has_child_among (entries_kept l.self-inside.groups (drop l.place l.self-inside.order.items)) l.group
    ≡ has_child_among (entries_kept l.self-inside.groups l.self-inside.order.items) l.group
