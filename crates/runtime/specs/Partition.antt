-- What the kernel keeps off a partition root.
-- From: cgroup v2, `cpuset.cpus.partition`.
use Rattle.std.specs.Prelude.{◌≡◌, ℕ, true, false, List, Some}
use Rattle.std.specs.FinSet as set
use Rattle.cgroup_tree.specs.Partitions.{IsOutside}
use Rattle.cpuset_tree.specs.Effective.{effective_cpus}
use Rattle.cpuset_tree.specs.TreeState.{TreeState}
use Rattle.cpuset_tree.specs.declared.Group.{Group}
use Rattle.node.specs.NodeState.{ContainerState, NodeState, container_of}

-- let the node's groups be in a partition: no group outside it has in effect a CPU that a container has, whatever any group requests
abbrev pub KeepsOthersOff : NodeState → Type 0
KeepsOthersOff n =
    (rest : TreeState) → IsOutside n.kernel.tree rest → (id : List ℕ) (c : ContainerState) → container_of n id ≡ Some c → (other : Group) (cpu : ℕ)
    → set.contains (effective_cpus n.kernel.tree c.group) cpu ≡ true → set.contains (effective_cpus rest other) cpu ≡ false

-- so it is of each node, and so after each of its calls and events
abbrev pub PartitionsKeepOthersOff : Type 0
PartitionsKeepOthersOff = (n : NodeState) → KeepsOthersOff n
