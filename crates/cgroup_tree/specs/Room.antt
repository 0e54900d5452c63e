-- How long the path of a group's file may get.
use Rattle.std.specs.Prelude.{ℕ, ◌+◌, ◌≤◌, List, length}
use Rattle.cpuset_tree.specs.declared.Group.{Group}
use Rattle.cpuset_tree.specs.TreeState.{TreeState}
use Rattle.cgroup_tree.specs.Paths.{folder}
use Rattle.cgroup_tree.specs.declared.room.TheConstants.{FILE_ROOM}

-- there are n bytes for the path of each file of each group
abbrev pub HasRoom : ℕ → List ℕ → TreeState → Type 0
HasRoom n root s = (g : Group) → length root + (length (folder s g) + FILE_ROOM) ≤ n
