-- What a group has in effect: a recursion up the path.
-- From: cgroup v2, `cpuset.cpus.effective`, `cpuset.mems.effective`.
use Rattle.std.specs.Prelude.{if◌then◌else◌, List, [], ◌∷◌, Option, Some, None}
use Rattle.std.specs.FinSet as set
use Rattle.cpu_set.specs.Ids.{Ids, is_empty}
use Rattle.cpuset_tree.specs.declared.groups.Group.{Group}
use Rattle.cpuset_tree.specs.TreeState.{GroupEntry, TreeState}
use Rattle.cpuset_tree.specs.Groups.{same_group}

-- what a group is granted of its parent's: what it requests of it, or all of it if that is nothing
abbrev pub granted : Ids → Ids → Ids
granted requested above =
    if is_empty (set.intersection requested above) then above else set.intersection requested above

-- the whole set `top` at the root, and else what is granted of the parent's
abbrev pub standing : Option Group → Ids → Ids → (Group → Ids) → Ids
standing None requested top effective_of = top
standing (Some parent) requested top effective_of = granted requested (effective_of parent)

-- what a group has in effect, where the root has `top`; a group's parent is one of the older groups
abbrev pub effective : (GroupEntry → Ids) → Ids → List GroupEntry → Group → Ids
effective requested top [] g = top
effective requested top (e ∷ older) g =
    if same_group e.group g
    then standing e.parent (requested e) top (effective requested top older)
    else effective requested top older g

-- the CPUs that a group has in effect: at the root those that are online
abbrev pub effective_cpus : TreeState → Group → Ids
effective_cpus s g = effective (λ e. e.cpus) s.online s.groups g

-- the memory nodes that a group has in effect: at the root all nodes
abbrev pub effective_mems : TreeState → Group → Ids
effective_mems s g = effective (λ e. e.mems) s.nodes s.groups g
