-- What each call changes of a tree.
-- From: cgroup v2.
use Rattle.std.specs.Prelude.{◌≡◌, ℕ, ◌+◌, not, if◌then◌else◌, List, [], ◌∷◌, map, filter, Option, Some, None}
use Rattle.std.specs.FinSet as set
use Rattle.cpu_set.specs.Ids.{Ids}
use Rattle.cpuset_tree.specs.declared.groups.Group.{Group}
use Rattle.cpuset_tree.specs.TreeState.{GroupEntry, TreeState}
use Rattle.cpuset_tree.specs.Groups.{same_group}

-- the entry of a group that requests nothing
abbrev pub new_entry : Group → Option Group → List ℕ → GroupEntry
new_entry g parent name = record { group = g; parent = parent; name = name; cpus = set.empty; mems = set.empty }

-- a tree of its root alone
abbrev pub first_tree : Group → Ids → Ids → TreeState
first_tree root online nodes =
    record { groups = new_entry root None [] ∷ []; online = online; nodes = nodes; next_serial = root.serial + 1 }

-- a tree of its root alone, which has this serial
pub record IsFirstTree (online nodes : Ids) (first_serial : ℕ) (s : TreeState) : Type 0 where
  pub root : Group
  pub serial : root.serial ≡ first_serial
  pub is : s ≡ first_tree root online nodes

-- the tree with one group more, which requests nothing
abbrev pub with_group : TreeState → Group → Group → List ℕ → TreeState
with_group s g parent name =
    record s { groups = new_entry g (Some parent) name ∷ s.groups; next_serial = s.next_serial + 1 }

-- the tree without a group
abbrev pub without_group : TreeState → Group → TreeState
without_group s g = record s { groups = filter (λ e. not (same_group e.group g)) s.groups }

-- the entry, requesting these CPUs if it is this group's
abbrev pub requesting_cpus : Group → Ids → GroupEntry → GroupEntry
requesting_cpus g cpus e = if same_group e.group g then record e { cpus = cpus } else e

-- the entry, requesting these memory nodes if it is this group's
abbrev pub requesting_mems : Group → Ids → GroupEntry → GroupEntry
requesting_mems g mems e = if same_group e.group g then record e { mems = mems } else e

-- the tree in which a group requests these CPUs
abbrev pub with_cpus : TreeState → Group → Ids → TreeState
with_cpus s g cpus = record s { groups = map (requesting_cpus g cpus) s.groups }

-- the tree in which a group requests these memory nodes
abbrev pub with_mems : TreeState → Group → Ids → TreeState
with_mems s g mems = record s { groups = map (requesting_mems g mems) s.groups }

-- the tree in which these CPUs are online; what the groups request stays
abbrev pub with_online : TreeState → Ids → TreeState
with_online s online = record s { online = online }
