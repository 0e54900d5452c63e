-- What stands against each call of a kernel: the first of these that holds, in the order written here.
use Rattle.std.specs.Prelude.{ℕ, not, nat_lt, if◌then◌else◌, List, Option, Some, None, option_map}
use Rattle.std.specs.FinSet as set
use Rattle.std.specs.Option.{option_or}
use Rattle.cpuset_tree.specs.declared.Group.{Group}
use Rattle.cpuset_tree.specs.Groups.{has_group}
use Rattle.cpuset_tree.specs.TreeAnswers as tree
use Rattle.proctable.specs.Processes.{count_in}
use Rattle.proctable.specs.TableAnswers as table
use Rattle.kernel_model.specs.declared.fault.KernelFault.{KernelFault}
use Rattle.kernel_model.specs.declared.fault.KernelFault.TheVariants.{NoGroup, HasProcesses, Reserved, NoCpu}
use Rattle.kernel_model.specs.Faults.{of_tree, of_proc}
use Rattle.kernel_model.specs.KernelState.{KernelState}

-- against a call for a group that is not there
abbrev pub no_group : KernelState → Group → Option KernelFault
no_group k g = if not (has_group k.tree g) then Some NoGroup else None

-- against making a group: the tree's refusal
abbrev pub make_refusal : KernelState → Group → List ℕ → Option KernelFault
make_refusal k parent name = option_map of_tree (tree.make_refusal k.tree parent name)

-- against removing a group: the tree's refusal, or that it has processes
abbrev pub remove_refusal : KernelState → Group → Option KernelFault
remove_refusal k g =
    option_or (option_map of_tree (tree.remove_refusal k.tree g)) (if nat_lt 0 (count_in k.table g) then Some HasProcesses else None)

-- against writing what a group requests: the tree's refusal
abbrev pub write_refusal : KernelState → Group → Option KernelFault
write_refusal k g = option_map of_tree (tree.write_refusal k.tree g)

-- against a first process in a group: that there is no such group, or the table's refusal
abbrev pub spawn_refusal : KernelState → Group → Option KernelFault
spawn_refusal k g = option_or (no_group k g) (option_map of_proc (table.spawn_refusal k.table))

-- against ending the processes of a group
abbrev pub end_refusal : KernelState → Group → Option KernelFault
end_refusal k g = no_group k g

-- against a fork: the table's refusal
abbrev pub fork_refusal : KernelState → ℕ → Option KernelFault
fork_refusal k parent = option_map of_proc (table.fork_refusal k.table parent)

-- against the end of a process: the table's refusal
abbrev pub exit_refusal : KernelState → ℕ → Option KernelFault
exit_refusal k pid = option_map of_proc (table.exit_refusal k.table pid)

-- against a CPU going offline
abbrev pub offline_refusal : KernelState → ℕ → Option KernelFault
offline_refusal k cpu =
    if not (set.contains k.present cpu) then Some NoCpu
    else if set.contains k.reserved cpu then Some Reserved
    else None

-- against a CPU coming online
abbrev pub online_refusal : KernelState → ℕ → Option KernelFault
online_refusal k cpu = if not (set.contains k.present cpu) then Some NoCpu else None
