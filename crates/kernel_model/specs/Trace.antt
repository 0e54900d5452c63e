-- What a kernel was asked: its writing calls, each with what it answered.
use Rattle.std.specs.Prelude.{ℕ, ◌+◌, Bool, true, false, cond, List, [], ◌∷◌, Result, Ok, Err}
use Rattle.faults.specs.declared.or_memory.OrMemory.{OrMemory}
use Rattle.faults.specs.declared.or_memory.OrMemory.TheVariants.{Memory, Fault}
use Rattle.cpu_set.specs.Ids.{Ids}
use Rattle.cpuset_tree.specs.declared.Group.{Group}
use Rattle.kernel_model.specs.declared.fault.KernelFault.{KernelFault}
use Rattle.kernel_model.specs.declared.fault.KernelFault.TheVariants.{Failed}

-- a writing call, with what it answered: a group below this one of this name, a group's end, the CPUs and the memory nodes
-- that a group requests, a first process in it, and the end of all its processes
pub data WritingCall : Type 0 where
  MadeGroup : Group → List ℕ → Result Group (OrMemory KernelFault) → WritingCall
  RemovedGroup : Group → Result (Unit {0}) KernelFault → WritingCall
  WroteCpus : Group → Ids → Result (Unit {0}) KernelFault → WritingCall
  WroteMems : Group → Ids → Result (Unit {0}) KernelFault → WritingCall
  Spawned : Group → Result ℕ (OrMemory KernelFault) → WritingCall
  EndedGroup : Group → Result (Unit {0}) KernelFault → WritingCall

-- whether it is this that a write answers that failed
abbrev pub is_failed : KernelFault → Bool
is_failed Failed = true
is_failed fault = false

-- whether a write failed
abbrev pub has_failed : {A : Type 0} → Result A KernelFault → Bool
has_failed (Ok value) = false
has_failed (Err fault) = is_failed fault

-- the same of a call that allocates
abbrev pub has_failed_or_memory : {A : Type 0} → Result A (OrMemory KernelFault) → Bool
has_failed_or_memory (Ok value) = false
has_failed_or_memory (Err Memory) = false
has_failed_or_memory (Err (Fault fault)) = is_failed fault

-- whether a call is a write that failed
abbrev pub is_failure : WritingCall → Bool
is_failure (MadeGroup parent name r) = has_failed_or_memory r
is_failure (RemovedGroup g r) = has_failed r
is_failure (WroteCpus g cpus r) = has_failed r
is_failure (WroteMems g mems r) = has_failed r
is_failure (Spawned g r) = has_failed_or_memory r
is_failure (EndedGroup g r) = has_failed r

-- how many of the calls failed
abbrev pub failures_in : List WritingCall → ℕ
failures_in [] = 0
failures_in (call ∷ earlier) = cond (is_failure call) (failures_in earlier + 1) (failures_in earlier)
