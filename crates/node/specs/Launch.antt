-- How a container's group and first process are made: the kernel's calls in their order, of which the first that is
-- refused is answered, and no later one is made.
use Rattle.std.specs.Prelude.{◌≡◌, ◌⊎◌, ℕ, Bool, true, false, not, ◌&&◌, List, Option, Some, None, Result, Ok, Err}
use Rattle.faults.specs.declared.OrMemory.{OrMemory}
use Rattle.faults.specs.declared.OrMemory.TheVariants.{Memory, Fault}
use Rattle.cpu_set.specs.Ids.{Ids}
use Rattle.cpuset_tree.specs.declared.Group.{Group}
use Rattle.cpuset_tree.specs.Groups.{child_of}
use Rattle.proctable.specs.TableAnswers.{has_pids}
use Rattle.kernel_model.specs.declared.KernelFault.{KernelFault}
use Rattle.kernel_model.specs.declared.KernelFault.TheVariants.{NoSerials}
use Rattle.kernel_model.specs.KernelState.{KernelState}
use Rattle.kernel_model.specs.Refusals.{make_refusal}
use Rattle.kernel_model.specs.Cases.{MakesGroup, WritesCpus, WritesMems, Spawns}

-- one call behind another: the first is refused and that is the answer, or the second is made in the state that the first
-- left
abbrev pub Then : {A B F : Type 0} → (Result A F → KernelState → Type 0) → (A → KernelState → Result B F → KernelState → Type 0)
    → Result B F → KernelState → Type 0
Then {A} {B} {F} First Second r new =
    ((fault : F) × First (Err fault) new × (r ≡ Err fault)) ⊎ ((value : A) × (mid : KernelState) × First (Ok value) mid × Second value mid r new)

-- a call that allocates nothing, among those that may
abbrev pub AtOnce : {A : Type 0} → (Result A KernelFault → KernelState → Type 0) → Result A (OrMemory KernelFault) → KernelState → Type 0
AtOnce Call (Ok value) new = Call (Ok value) new
AtOnce Call (Err Memory) new = ⊥
AtOnce Call (Err (Fault fault)) new = Call (Err fault) new

-- whether it is want of serials
abbrev pub is_no_serials : Option KernelFault → Bool
is_no_serials (Some NoSerials) = true
is_no_serials cause = false

-- whether no pid is left for a process of the child of this name, and that is the first thing that stands against it: want of
-- a serial comes before it, if the child is yet to be made
abbrev pub lacks_pid : KernelState → Group → List ℕ → Bool
lacks_pid k parent name = not (has_pids k.table) && not (is_no_serials (make_refusal k parent name))

-- the child of this name where there is one, else a new group
abbrev pub FindsOr : Option Group → KernelState → Group → List ℕ → Result Group (OrMemory KernelFault) → KernelState → Type 0
FindsOr (Some g) old parent name r new = (r ≡ Ok g) × (new ≡ old)
FindsOr None old parent name r new = MakesGroup old parent name r new

-- the group of a name below its parent is found, or it is made
abbrev pub FindsOrMakes : KernelState → Group → List ℕ → Result Group (OrMemory KernelFault) → KernelState → Type 0
FindsOrMakes old parent name = FindsOr (child_of old.tree parent name) old parent name

-- a group's CPUs are written, and then its memory nodes
abbrev pub WritesSets : KernelState → Group → Ids → Ids → Result (Unit {0}) KernelFault → KernelState → Type 0
WritesSets old g cpus mems = Then (WritesCpus old g cpus) (λ _ mid. WritesMems mid g mems)

-- a group's sets are written, and then a first process is made in it
abbrev pub StartsIn : KernelState → Group → Ids → Ids → Result ℕ (OrMemory KernelFault) → KernelState → Type 0
StartsIn old g cpus mems = Then (AtOnce (WritesSets old g cpus mems)) (λ _ mid. Spawns mid g)

-- the kernel's calls of `create` in their order, with the group and the pid of the process in it
abbrev pub Launches : KernelState → Group → List ℕ → Ids → Ids → Result (Group × ℕ) (OrMemory KernelFault) → KernelState → Type 0
Launches old parent name cpus mems (Ok made) new = (mid : KernelState) × FindsOrMakes old parent name (Ok made.0) mid × StartsIn mid made.0 cpus mems (Ok made.1) new
Launches old parent name cpus mems (Err error) new =
    FindsOrMakes old parent name (Err error) new
    ⊎ ((g : Group) × (mid : KernelState) × FindsOrMakes old parent name (Ok g) mid × StartsIn mid g cpus mems (Err error) new)
