-- A kernel that no node has used yet.
use Rattle.std.specs.Prelude.{◌≡◌, ◌⊎◌, [], Some, None}
use Rattle.std.specs.FinSet as set
use Rattle.cpuset_tree.specs.declared.Group.{Group}
use Rattle.cpuset_tree.specs.TreeState.{GroupEntry, TreeState}
use Rattle.cpuset_tree.specs.Groups.{entry_of, root_of}
use Rattle.kernel_model.specs.KernelState.{KernelState}

-- a child of the root that requests nothing
pub record IsFreeChild (s : TreeState) (e : GroupEntry) : Type 0 where
  pub below : e.parent ≡ root_of s
  pub cpus : e.cpus ≡ set.empty
  pub mems : e.mems ≡ set.empty

-- the kernel has no process, and no group but the root and children of it that request nothing and have none
pub record IsUnused (k : KernelState) : Type 0 where
  pub processes : k.table.live ≡ []
  pub groups : (g : Group) (e : GroupEntry) → entry_of k.tree g ≡ Some e → (e.parent ≡ None) ⊎ IsFreeChild k.tree e
