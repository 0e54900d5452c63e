-- A small tree to try the definitions on.
use Rattle.std.specs.Prelude.{ℕ, [], ◌∷◌, codes}
use Rattle.std.specs.FinSet as set
use Rattle.cpuset_tree.specs.declared.groups.Group.{Group}
use Rattle.cpuset_tree.specs.TreeState.{TreeState}
use Rattle.cpuset_tree.specs.TreeChanges.{first_tree, with_group, with_cpus}

-- a group kept under this number
abbrev pub numbered : ℕ → Group
numbered n = record { key = n; serial = n }

abbrev pub root : Group
root = numbered 0

abbrev pub all_containers : Group
all_containers = numbered 1

abbrev pub web : Group
web = numbered 2

abbrev pub batch : Group
batch = numbered 3

-- a group of all containers below the root, where CPUs 0 to 3 are online, and below that two containers
abbrev pub two_containers : TreeState
two_containers =
    let at_boot = first_tree root (set.from_list (0 ∷ 1 ∷ 2 ∷ 3 ∷ [])) (set.from_list (0 ∷ 1 ∷ [])) in
    let with_all = with_group at_boot all_containers root (codes "numarun") in
    let with_web = with_group with_all web all_containers (codes "web") in
    with_group with_web batch all_containers (codes "batch")

-- the first requests a CPU that is not online besides two that are, the second only such a one
abbrev pub requested : TreeState
requested = with_cpus (with_cpus two_containers web (set.from_list (2 ∷ 3 ∷ 6 ∷ []))) batch (set.from_list (6 ∷ []))
