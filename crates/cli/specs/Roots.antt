-- What is printed if the root of a cgroup tree is refused.
use Rattle.std.specs.Prelude.{◌≡◌, ℕ, List, [], codes, Err}
use Rattle.cgroup_tree.specs.Asked.{Asked}
use Rattle.cgroup_tree.specs.Roots.{AnswersRoot, Finding, RootTells}
use Rattle.cgroup_tree.specs.declared.RootFault.{RootFault}
use Rattle.cgroup_tree.specs.declared.RootFault.TheVariants as root_fault
use Rattle.cgroup_tree.specs.declared.RootOptions.{RootOptions}
use Rattle.clap.specs.Words.{Text}
use Rattle.faults.specs.declared.OrMemory.{OrMemory}
use Rattle.faults.specs.declared.OrMemory.TheVariants.{Memory, Fault}
use Rattle.kernel_model.specs.declared.KernelFault.{KernelFault}
use Rattle.machine.specs.Layout.{Layout}
use Rattle.machine.specs.Nodes.{nodes_of}
use Rattle.program_io.specs.ErrorLine.{error_line}
use Rattle.program_io.specs.ReadFaults.{IsTold}
use Rattle.program_io.specs.RefusalLine.{refusal_line}
use Rattle.program_io.specs.declared.fault.ReadFault.{ReadFault}
use Rattle.program_io.specs.declared.refusal.Refusal.TheVariants as refusal
use Rattle.answers.specs.Notes.{note_of}
use Rattle.cli.specs.declared.unrooted.Unrooted.{Unrooted}
use Rattle.cli.specs.declared.unrooted.Unrooted.TheVariants as unrooted

-- the refusal that stands for what is wrong with a root
abbrev pub IsUnrooted : RootFault → Unrooted → Type 0
IsUnrooted root_fault.Memory why = why ≡ unrooted.Memory
IsUnrooted root_fault.Taken why = why ≡ unrooted.Taken
IsUnrooted (root_fault.Unlocked kind) why = why ≡ unrooted.Unlocked
IsUnrooted (root_fault.Unread kind) why = (told : ReadFault) × IsTold kind told × (why ≡ unrooted.Unread told)
IsUnrooted root_fault.NoCpuset why = why ≡ unrooted.NoCpuset
IsUnrooted root_fault.OtherMachine why = why ≡ unrooted.OtherMachine
IsUnrooted root_fault.NoPartition why = why ≡ unrooted.NoPartition

-- the refusal that stands for a node that can't be made over a root
abbrev pub unrooted_of : OrMemory KernelFault → Unrooted
unrooted_of Memory = unrooted.Memory
unrooted_of (Fault fault) = unrooted.Kernel

-- the root is not taken for this machine, by what was found of it; and this holds of what was asked of trees for that
abbrev pub IsNotRooted : (List ℕ → Finding → Type 0) → Text → RootOptions → Layout → Unrooted → (List Asked → Type 0) → Type 0
IsNotRooted finds root options m why Leaves = (fault : RootFault) × AnswersRoot finds root m.online (nodes_of m) options.partition options.adopt (Err fault) × IsUnrooted fault why
    × ((asked : List Asked) × RootTells finds root m.online (nodes_of m) options.adopt (Err fault) asked × Leaves asked)

abbrev pub root_line : Unrooted → List ℕ
root_line (unrooted.Unread fault) = refusal_line (refusal.ReadFault fault)
root_line unrooted.Memory = refusal_line refusal.Memory
root_line unrooted.NoCpuset = codes "refused E115 NoCpuset\n"
root_line unrooted.OtherMachine = codes "refused E116 OtherMachine\n"
root_line unrooted.NoPartition = codes "refused E117 NoPartition\n"
root_line unrooted.Taken = codes "refused E50 KernelFault\n"
root_line unrooted.Unlocked = codes "refused E50 KernelFault\n"
root_line unrooted.Kernel = codes "refused E50 KernelFault\n"

-- beside it, where the root can't be read or locked, or another program has it
abbrev pub root_note : Text → Unrooted → List ℕ
root_note root (unrooted.Unread fault) = note_of root (refusal.ReadFault fault)
root_note root unrooted.Unlocked = error_line root (codes "can't be locked")
root_note root unrooted.Taken = error_line root (codes "another program has it")
root_note root why = []
