-- What is looked up in a tree.
-- From: cgroup v2, `cpuset.cpus`, `cpuset.mems`.
use Rattle.std.specs.Prelude.{ℕ, Bool, false, ◌&&◌, ◌==◌, List, find, Option, Some, None, is_some, is_none, option_map, nat_eq}
use Rattle.std.specs.List.{list_any}
use Rattle.std.specs.Cmp.Lexicographic.{pointwise}
use Rattle.std.specs.FinSet as set
use Rattle.cpu_set.specs.Ids.{Ids}
use Rattle.cpuset_tree.specs.declared.groups.Group.{Group}
use Rattle.cpuset_tree.specs.TreeState.{GroupEntry, TreeState}

-- whether two groups are one: a removed group's key may be given again, its serial never
abbrev pub same_group : Group → Group → Bool
same_group a b = (a.key == b.key) && (a.serial == b.serial)

-- the entry of a group among these, if it is there
abbrev pub entry_among : List GroupEntry → Group → Option GroupEntry
entry_among groups g = find (λ e. same_group e.group g) groups

-- the entry of a group, if it is in the tree
abbrev pub entry_of : TreeState → Group → Option GroupEntry
entry_of s g = entry_among s.groups g

-- whether a group is in the tree
abbrev pub has_group : TreeState → Group → Bool
has_group s g = is_some (entry_of s g)

-- whether this is a parent, and this one
abbrev pub is_parent : Option Group → Group → Bool
is_parent None g = false
is_parent (Some parent) g = same_group parent g

-- whether a group has children among these
abbrev pub has_child_among : List GroupEntry → Group → Bool
has_child_among groups g = list_any (λ e. is_parent e.parent g) groups

-- whether a group has children
abbrev pub has_children : TreeState → Group → Bool
has_children s g = has_child_among s.groups g

-- the child of this name among these, if there is one
abbrev pub child_among : List GroupEntry → Group → List ℕ → Option Group
child_among groups parent name =
    option_map (λ e. e.group) (find (λ e. is_parent e.parent parent && pointwise nat_eq e.name name) groups)

-- the group's child of this name, if it has one
abbrev pub child_of : TreeState → Group → List ℕ → Option Group
child_of s parent name = child_among s.groups parent name

-- the group among these that has no parent
abbrev pub root_among : List GroupEntry → Option Group
root_among groups = option_map (λ e. e.group) (find (λ e. is_none e.parent) groups)

-- the group that has no parent
abbrev pub root_of : TreeState → Option Group
root_of s = root_among s.groups

-- whether this entry is there and is the root's
abbrev pub is_root_entry : Option GroupEntry → Bool
is_root_entry None = false
is_root_entry (Some e) = is_none e.parent

-- whether this group is the root
abbrev pub is_root : TreeState → Group → Bool
is_root s g = is_root_entry (entry_of s g)

-- the CPUs that an entry requests, and none where there is no entry
abbrev pub cpus_in : Option GroupEntry → Ids
cpus_in None = set.empty
cpus_in (Some e) = e.cpus

-- the memory nodes that an entry requests, and none where there is no entry
abbrev pub mems_in : Option GroupEntry → Ids
mems_in None = set.empty
mems_in (Some e) = e.mems

-- the CPUs that a group requests (`cpuset.cpus`)
abbrev pub requested_cpus : TreeState → Group → Ids
requested_cpus s g = cpus_in (entry_of s g)

-- the memory nodes that a group requests (`cpuset.mems`)
abbrev pub requested_mems : TreeState → Group → Ids
requested_mems s g = mems_in (entry_of s g)
