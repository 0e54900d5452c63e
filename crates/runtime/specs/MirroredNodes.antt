-- A node whose kernel's writes are made in the files of a cgroup tree.
use Rattle.std.specs.Prelude.{◌≡◌, ◌⊎◌, ℕ, List, [], map}
use Rattle.cpu_set.specs.Ids.{Ids}
use Rattle.faults.specs.declared.OrMemory.{OrMemory}
use Rattle.faults.specs.declared.OrMemory.TheVariants.{Memory}
use Rattle.apply_plan.specs.Holders.{IsSafe}
use Rattle.cgroup_tree.specs.Asked.{Asked, Opening}
use Rattle.cgroup_tree.specs.Events.{IsMirrored}
use Rattle.cgroup_tree.specs.Site.{Site}
use Rattle.cgroup_tree.specs.Stands.{FilesStand}
use Rattle.cgroup_tree.specs.declared.RootOptions.{RootOptions}
use Rattle.kernel_model.specs.declared.KernelFault.{KernelFault}
use Rattle.kernel_model.specs.KernelState.{KernelState}
use Rattle.machine.specs.Layout.{Layout}
use Rattle.node.specs.Calls.{OpensNot}
use Rattle.node.specs.NodeState.{NodeState}
use Rattle.node.specs.Owners.{owners_of}
use Rattle.runtime.specs.Boots.{IsKernelOf, beginning_of}

-- where the writes of this machine's kernel are made: below this root, where these nodes have memory, in a tree that is
-- opened so
abbrev pub site_of : Layout → List ℕ → Ids → RootOptions → Site
site_of m root memory options = record { root = root; memory = memory; adopt = options.adopt; partition = options.partition; first = beginning_of m }

-- all that was asked of the files, which were opened so, is what the calls of the node's kernel stand for. They stand in
-- their order, from its beginning on. If the files do what they answer, each group's have what it requests, and that is safe.
pub record IsMirroredNode {F : Type 0} (asked : F → Opening → List Asked → Type 0) (site : Site) (n : NodeState) : Type 0 where
  pub files : F
  pub mirrored : IsMirrored asked site n.kernel files
  pub stands : FilesStand asked site n.kernel files
  pub safe : IsSafe n.kernel n.kernel.reserved (map (λ o. o.holder) (owners_of n.containers))

-- no node was made of a machine, since a kernel like this refused its group; all that was asked of its files is what that
-- call stands for
pub record IsNotBooted {F : Type 0} (asked : F → Opening → List Asked → Type 0) (site : Site) (m : Layout) (error : OrMemory KernelFault) : Type 0 where
  pub first : KernelState
  pub its : IsKernelOf m first
  pub kernel : KernelState
  pub refused : OpensNot first error kernel
  pub files : F
  pub mirrored : IsMirrored asked site kernel files

-- no node was made, and this holds of what was asked of the files: nothing, where an allocation failed before; or what the call
-- that was refused stands for
abbrev pub BootsNot : {F : Type 0} → (F → Opening → List Asked → Type 0) → Site → Layout → OrMemory KernelFault → (List Asked → Type 0) → Type 0
BootsNot asked site m error Leaves = ((error ≡ Memory) × Leaves []) ⊎ ((its : IsNotBooted asked site m error) × Leaves its.mirrored.calls)
