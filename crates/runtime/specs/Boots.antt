-- A node from the beginning.
use Rattle.cgroup_tree.specs.Site.{Beginning}
use Rattle.kernel_model.specs.KernelState.{KernelState, IsFirstKernel}
use Rattle.machine.specs.Layout.{Layout}
use Rattle.machine.specs.Present.{present}
use Rattle.machine.specs.Nodes.{nodes_of}
use Rattle.node.specs.NodeState.{NodeState}
use Rattle.node.specs.IsNode.{IsMachine, IsNode}
use Rattle.node.specs.Calls.{Opens}
use Rattle.runtime.specs.declared.booting.TheConstants.{FIRST_PID}

-- a kernel with the machine's CPUs and nodes, on which nothing was done yet
abbrev pub IsKernelOf : Layout → KernelState → Type 0
IsKernelOf m = IsFirstKernel (present m) m.reserved m.online (nodes_of m) FIRST_PID

-- how a kernel of a machine begins
abbrev pub beginning_of : Layout → Beginning
beginning_of m = record { present = present m; reserved = m.reserved; online = m.online; nodes = nodes_of m; first_pid = FIRST_PID }

-- a node with no container, made over a kernel on which nothing was done yet
abbrev pub Boots : Layout → NodeState → Type 0
Boots m n = (k : KernelState) × IsKernelOf m k × Opens k m n

-- on a machine such a node is one, so all the laws of nodes hold of it
abbrev pub BootsNodes : Type 0
BootsNodes = (m : Layout) (n : NodeState) → IsMachine m → Boots m n → IsNode n
