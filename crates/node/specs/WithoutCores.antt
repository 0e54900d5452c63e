-- What cores come to if each has one CPU, as on a machine whose file tells none: nothing.
use Rattle.std.specs.Prelude.{◌≡◌, ℕ, ◌&&◌, List}
use Rattle.std.specs.FinSet as set
use Rattle.cpu_set.specs.Ids.{Ids}
use Rattle.machine.specs.Cores.{IsWhole}
use Rattle.node.specs.NodeState.{ContainerState, NodeState}
use Rattle.node.specs.IsNode.{IsNode}
use Rattle.node.specs.Rows.{as_cores, requested_by}
use Rattle.node.specs.Best.{moved_by}
use Rattle.node.specs.Headline.{is_allowed}

-- each set is whole, the cores of sets are these sets, and a CPU moves if the container's group does not request it; a
-- container may have the CPUs that it is allowed and that are online
pub record KnowsNoCores (n : NodeState) : Type 0 where
  pub whole : (cpus : Ids) → IsWhole n.machine cpus
  pub cores : (sets : List Ids) → as_cores n.machine sets ≡ sets
  pub moves : (e : List ℕ × ContainerState) (cpus : Ids)
      → moved_by n.kernel n.machine e cpus ≡ set.len (set.difference cpus (requested_by n.kernel e))
  pub allowed : (cpu : ℕ) (e : List ℕ × ContainerState)
      → is_allowed n.kernel n.machine cpu e ≡ (set.contains e.1.demand.allowed cpu && set.contains n.kernel.tree.online cpu)

-- on a machine whose cores have one CPU each a node knows no cores
abbrev pub WithoutCores : Type 0
WithoutCores = (n : NodeState) → IsNode n → n.machine.threads ≡ 1 → KnowsNoCores n
