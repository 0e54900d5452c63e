-- What the kernel keeps off a partition root: two trees of groups.
-- From: cgroup v2, `cpuset.cpus.partition`.
use Rattle.std.specs.Prelude.{◌≡◌, ℕ, true, false}
use Rattle.std.specs.FinSet as set
use Rattle.cpuset_tree.specs.declared.Group.{Group}
use Rattle.cpuset_tree.specs.TreeState.{TreeState}
use Rattle.cpuset_tree.specs.Effective.{effective_cpus}

-- no group has in effect what its tree's root has not
abbrev pub StayBelowRoot : Type 0
StayBelowRoot = (s : TreeState) (g : Group) (cpu : ℕ) → set.contains (effective_cpus s g) cpu ≡ true → set.contains s.online cpu ≡ true

-- the groups outside a valid partition root, by the kernel's rule: a tree of their own, whose root has none of the CPUs that the
-- partition has. The root's set is a bound from above: if other partitions are beside it, it has their CPUs too.
abbrev pub IsOutside : (partition rest : TreeState) → Type 0
IsOutside partition rest = (cpu : ℕ) → set.contains partition.online cpu ≡ true → set.contains rest.online cpu ≡ false

-- no group outside has in effect what one of the partition has, whatever they request
abbrev pub PartitionIsOwn : Type 0
PartitionIsOwn =
    (partition rest : TreeState)
    → IsOutside partition rest
    → (g other : Group) (cpu : ℕ) → set.contains (effective_cpus partition g) cpu ≡ true → set.contains (effective_cpus rest other) cpu ≡ false
