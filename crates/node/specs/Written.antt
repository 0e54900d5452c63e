-- How many writing calls of the kernel the calls of a node make, as the kernel counts them.
use Rattle.std.specs.Prelude.{◌≡◌, ℕ, ◌+◌, ◌*◌, ◌≤◌, cond, List, filter, length, Some, is_some, Result, Ok, Err, codes}
use Rattle.faults.specs.declared.OrMemory.{OrMemory}
use Rattle.faults.specs.declared.OrMemory.TheVariants.{Fault}
use Rattle.cpuset_tree.specs.declared.Group.{Group}
use Rattle.cpuset_tree.specs.Groups.{child_of, root_of}
use Rattle.kernel_model.specs.KernelState.{KernelState, writes}
use Rattle.apply_plan.specs.DueWrite.{writes_to_come}
use Rattle.apply_plan.specs.MayWrite.{left_directly}
use Rattle.node.specs.declared.fault.NodeFault.{NodeFault}
use Rattle.node.specs.declared.fault.NodeFault.TheVariants.{Kernel}
use Rattle.node.specs.declared.order.Order.{Order}
use Rattle.node.specs.declared.order.Order.TheVariants.{InTurn, Directly}
use Rattle.node.specs.declared.outcome.Outcome.{Outcome}
use Rattle.node.specs.declared.outcome.Outcome.TheVariants.{Plan, Short}
use Rattle.node.specs.NodeState.{NodeState}
use Rattle.node.specs.Status.{is_live}
use Rattle.node.specs.Entries.{opened}
use Rattle.node.specs.Headline.{effective_sets}

-- one writing call if the call is done or its write failed, and none if it is refused before
abbrev pub one_write : Result (Unit {0}) NodeFault → ℕ
one_write (Ok _) = 1
one_write (Err (Kernel fault)) = 1
one_write (Err fault) = 0

-- a node over a kernel makes one writing call if its group is not there yet, whatever that answers, and else none
abbrev pub OpenWrites : KernelState → KernelState → Type 0
OpenWrites old new =
    (root : Group) × (root_of old.tree ≡ Some root) × (writes new ≡ writes old + cond (is_some (child_of old.tree root (codes "numarun"))) 0 1)

-- a launch makes the group if it is not there, writes its CPUs and its memory nodes, and makes a process in it
abbrev pub launch_writes : KernelState → Group → List ℕ → ℕ
launch_writes k parent name = cond (is_some (child_of k.tree parent name)) 0 1 + 3

-- `create` and `adopt` make the writes of a launch; if they are not done they make some of these, or none
abbrev pub CreateWrites : NodeState → List ℕ → Result ℕ (OrMemory NodeFault) → NodeState → Type 0
CreateWrites old id (Ok pid) new = writes new.kernel ≡ writes old.kernel + launch_writes old.kernel old.parent id
CreateWrites old id (Err error) new = writes new.kernel ≤ writes old.kernel + launch_writes old.kernel old.parent id

-- how many containers are live
abbrev pub live_count : NodeState → ℕ
live_count n = length (filter (λ e. is_live n.kernel e.1) n.containers)

-- to a plan a `rebalance` makes exactly the writes of the hand-over to the sets then in effect; in the direct order at most
-- those that were left of it
abbrev pub MakesThose : Order → NodeState → NodeState → Type 0
MakesThose InTurn old new =
    writes new.kernel ≡ writes old.kernel + writes_to_come (opened InTurn old (effective_sets new.kernel new.containers)).targets old.kernel
MakesThose Directly old new =
    writes new.kernel ≤ writes old.kernel + left_directly (opened Directly old (effective_sets new.kernel new.containers)).targets old.kernel

-- these are at most two for each live container
pub record PlanWrites (order : Order) (old : NodeState) (new : NodeState) : Type 0 where
  pub exact : MakesThose order old new
  pub few : writes new.kernel ≤ writes old.kernel + 2 * live_count old

-- how many writing calls a `rebalance` in this order makes. To a plan those, and none if there is no plan. If a write fails, at most one
-- more than two for each live container.
abbrev pub RebalanceWrites : Order → NodeState → Result Outcome (OrMemory NodeFault) → NodeState → Type 0
RebalanceWrites order old (Ok (Plan total)) new = PlanWrites order old new
RebalanceWrites order old (Ok (Short wanted allowed)) new = writes new.kernel ≡ writes old.kernel
RebalanceWrites order old (Err (Fault (Kernel fault))) new = writes new.kernel ≤ writes old.kernel + 2 * live_count old + 1
RebalanceWrites order old (Err error) new = writes new.kernel ≡ writes old.kernel
