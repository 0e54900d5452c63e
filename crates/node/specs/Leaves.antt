-- What each call leaves, whatever it answers.
use Rattle.std.specs.Prelude.{◌≡◌, ◌⊎◌, ℕ, cond, List, Some, Result, Ok, Err}
use Rattle.cpuset_tree.specs.declared.Group.{Group}
use Rattle.cpuset_tree.specs.Groups.{entry_of, child_of}
use Rattle.proctable.specs.Processes.{count_in}
use Rattle.kernel_model.specs.declared.KernelFault.TheVariants.{NoPids}
use Rattle.kernel_model.specs.Trace.{is_failed}
use Rattle.kernel_model.specs.KernelState.{KernelState}
use Rattle.faults.specs.declared.OrMemory.{OrMemory}
use Rattle.faults.specs.declared.OrMemory.TheVariants.{Memory, Fault}
use Rattle.node.specs.declared.fault.NodeFault.{NodeFault}
use Rattle.node.specs.declared.fault.NodeFault.TheVariants.{Kernel}
use Rattle.node.specs.NodeState.{NodeState}

-- by how much the kernel's count of failures rises in a call that answers this: by one where a write failed
abbrev pub fault_rise : NodeFault → ℕ
fault_rise (Kernel fault) = cond (is_failed fault) 1 0
fault_rise fault = 0

-- by how much a call raises the count of failures, by its answer
abbrev pub rise_of : {A : Type 0} → Result A NodeFault → ℕ
rise_of (Ok value) = 0
rise_of (Err fault) = fault_rise fault

-- the same of a call that allocates
abbrev pub rise_or_memory : {A : Type 0} → Result A (OrMemory NodeFault) → ℕ
rise_or_memory (Ok value) = 0
rise_or_memory (Err Memory) = 0
rise_or_memory (Err (Fault fault)) = fault_rise fault

-- the processes stay, and so does each group but the child of this name, in which there is no process
pub record LeavesAtMostAGroup (old : KernelState) (parent : Group) (name : List ℕ) (new : KernelState) : Type 0 where
  pub processes : new.table ≡ old.table
  pub groups : (g : Group) → (entry_of new.tree g ≡ entry_of old.tree g) ⊎ (child_of new.tree parent name ≡ Some g)
  pub empty : (g : Group) → child_of new.tree parent name ≡ Some g → count_in new.table g ≡ 0

-- what a refused `create` or `adopt` leaves: all as it was, also if no pid was left; or at most a group, once an allocation
-- failed or the kernel refused else
abbrev pub CreateLeaves : NodeState → List ℕ → Result ℕ (OrMemory NodeFault) → NodeState → Type 0
CreateLeaves old id (Ok pid) new = Unit {0}
CreateLeaves old id (Err Memory) new = LeavesAtMostAGroup old.kernel old.parent id new.kernel × (new ≡ record old { kernel = new.kernel })
CreateLeaves old id (Err (Fault (Kernel NoPids))) new = new ≡ old
CreateLeaves old id (Err (Fault (Kernel fault))) new = LeavesAtMostAGroup old.kernel old.parent id new.kernel × (new ≡ record old { kernel = new.kernel })
CreateLeaves old id (Err (Fault fault)) new = new ≡ old
