-- What the kernel can refuse of a node over it.
use Rattle.std.specs.Prelude.{◌≡◌, ℕ, ◌+◌, Some, None, Err, codes}
use Rattle.faults.specs.declared.OrMemory.{OrMemory}
use Rattle.cpuset_tree.specs.declared.Group.{Group}
use Rattle.cpuset_tree.specs.declared.TheConstants.{SERIAL_LIMIT}
use Rattle.cpuset_tree.specs.Groups.{child_of, root_of}
use Rattle.kernel_model.specs.declared.KernelFault.{KernelFault}
use Rattle.kernel_model.specs.declared.KernelFault.TheVariants.{NoSerials, Failed}
use Rattle.kernel_model.specs.KernelState.{KernelState}
use Rattle.kernel_model.specs.Cases.{rise_or_memory}

-- what a refusal of the kernel can be when a node is made over it: a write failed, which is counted; or the node's group was
-- not there, and no serial was left for it
abbrev pub OpenCause : KernelState → KernelFault → KernelState → Type 0
OpenCause old Failed new = new.failures ≡ old.failures + 1
OpenCause old NoSerials new =
    (root : Group) × (root_of old.tree ≡ Some root) × (child_of old.tree root (codes "numarun") ≡ None) × (old.tree.next_serial ≡ SERIAL_LIMIT)
OpenCause old fault new = ⊥

-- by how much an error in the place of a node raises the count of failures
abbrev pub error_rise : OrMemory KernelFault → ℕ
error_rise error = rise_or_memory {A = Group} (Err error)
