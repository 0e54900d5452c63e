-- The texts that answer a script's commands.
use Rattle.std.specs.Prelude.{ℕ, if◌then◌else◌, List, ◌++◌, codes, decimal, Result, Ok, Err}
use Rattle.std.specs.List.{flat_map}
use Rattle.cpu_set.specs.Ids.{Ids, is_empty}
use Rattle.cpu_list.specs.CanonicalList.{list_text}
use Rattle.faults.specs.declared.or_memory.OrMemory.{OrMemory}
use Rattle.faults.specs.declared.or_memory.OrMemory.TheVariants as either
use Rattle.kernel_model.specs.declared.fault.KernelFault.{KernelFault}
use Rattle.node.specs.declared.fault.NodeFault.{NodeFault}
use Rattle.node.specs.declared.fault.NodeFault.TheVariants.{Kernel}
use Rattle.node.specs.declared.container.Status.{Status}
use Rattle.node.specs.declared.phase.Phase.{Phase}
use Rattle.node.specs.declared.phase.Phase.TheVariants.{Settled, Underway, Unsettled}
use Rattle.node.specs.declared.sets.Sets.{Sets}
use Rattle.node.specs.Shown.{status_text}
use Rattle.runtime.specs.RefusalLine.{refusal_line}
use Rattle.runtime.specs.declared.refusal.Refusal.{Refusal}
use Rattle.runtime.specs.declared.refusal.Refusal.TheVariants.{Memory, Node}

-- the refusal that stands for an error of a call of the node
abbrev pub of_either : OrMemory NodeFault → Refusal
of_either either.Memory = Memory
of_either (either.Fault fault) = Node fault

-- the refusal that stands for an error of an event of the kernel
abbrev pub of_kernel_fault : KernelFault → Refusal
of_kernel_fault fault = Node (Kernel fault)

-- the refusal that stands for an error of an event of the kernel that allocates
abbrev pub of_kernel : OrMemory KernelFault → Refusal
of_kernel either.Memory = Memory
of_kernel (either.Fault fault) = of_kernel_fault fault

-- the text of what a call gave, or the refusal's line
abbrev pub answer_text : {A E : Type 0} → (A → List ℕ) → (E → Refusal) → Result A E → List ℕ
answer_text text refusal (Ok value) = text value
answer_text text refusal (Err error) = refusal_line (refusal error)

abbrev pub done_line : Unit {0} → List ℕ
done_line done = codes "ok\n"

-- the text of a pid
abbrev pub pid_line : ℕ → List ℕ
pid_line pid = codes "pid " ++ (decimal pid ++ codes "\n")

-- a set, which is shown where it is empty too
abbrev pub set_text : Ids → List ℕ
set_text s = if is_empty s then codes "-" else list_text s

-- the set that is requested, behind its label, and the one in effect
abbrev pub both_text : List ℕ → Ids → Ids → List ℕ
both_text label requested effective = (label ++ set_text requested) ++ (codes " effective " ++ set_text effective)

-- the text of a container's sets, requested and in effect
abbrev pub sets_line : Sets → List ℕ
sets_line sets = both_text (codes "cpus ") sets.cpus sets.effective_cpus ++ (both_text (codes " mems ") sets.mems sets.effective_mems ++ codes "\n")

-- a container's id and status
abbrev pub entry_line : List ℕ × Status → List ℕ
entry_line e = e.0 ++ (codes " " ++ (status_text e.1 ++ codes "\n"))

-- the text of `list`: a line for each container, and the end
abbrev pub listing_text : List (List ℕ × Status) → List ℕ
listing_text entries = flat_map entry_line entries ++ codes "end\n"

-- the text of a phase
abbrev pub phase_line : Phase → List ℕ
phase_line Settled = codes "settled\n"
phase_line Underway = codes "underway\n"
phase_line Unsettled = codes "unsettled\n"
