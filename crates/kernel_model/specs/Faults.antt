-- The refusals of a tree and of a table as a kernel's.
use Rattle.faults.specs.declared.or_memory.OrMemory.{OrMemory}
use Rattle.faults.specs.declared.or_memory.OrMemory.TheVariants.{Memory, Fault}
use Rattle.cpuset_tree.specs.declared.TreeFault.{TreeFault}
use Rattle.cpuset_tree.specs.declared.TreeFault.TheVariants as tree
use Rattle.proctable.specs.declared.ProcFault.{ProcFault}
use Rattle.proctable.specs.declared.ProcFault.TheVariants as proc
use Rattle.kernel_model.specs.declared.fault.KernelFault.{KernelFault}
use Rattle.kernel_model.specs.declared.fault.KernelFault.TheVariants.{NoGroup, Exists, HasChildren, IsRoot, NoSerials, NoPids, NoProcess}

-- the kernel's refusal that stands for one of the tree
abbrev pub of_tree : TreeFault → KernelFault
of_tree tree.NoGroup = NoGroup
of_tree tree.Exists = Exists
of_tree tree.HasChildren = HasChildren
of_tree tree.IsRoot = IsRoot
of_tree tree.NoSerials = NoSerials

abbrev pub of_tree_error : OrMemory TreeFault → OrMemory KernelFault
of_tree_error Memory = Memory
of_tree_error (Fault fault) = Fault (of_tree fault)

-- the kernel's refusal that stands for one of the table
abbrev pub of_proc : ProcFault → KernelFault
of_proc proc.NoPids = NoPids
of_proc proc.NoProcess = NoProcess

abbrev pub of_proc_error : OrMemory ProcFault → OrMemory KernelFault
of_proc_error Memory = Memory
of_proc_error (Fault fault) = Fault (of_proc fault)
