-- Where a run of the program may end.
use Rattle.std.specs.Prelude.{◌≡◌, ℕ, List, Result}
use Rattle.cpu_set.specs.Ids.{Ids}
use Rattle.faults.specs.declared.OrMemory.{OrMemory}
use Rattle.kernel_model.specs.KernelState.{KernelState}
use Rattle.machine.specs.Layout.{Layout}
use Rattle.node.specs.declared.fault.NodeFault.{NodeFault}
use Rattle.node.specs.NodeState.{ContainerState, NodeState}
use Rattle.node.specs.IsNode.{IsMachine}
use Rattle.node.specs.Calls.{Places}
use Rattle.node.specs.Updates.{Updates, update_states}
use Rattle.node.specs.Making.{place_states}
use Rattle.node.specs.Machine.{Event, Run}
use Rattle.runtime.specs.Boots.{Boots}
use Rattle.restarts.specs.Left.{left_in, AreLeft, IsAmong}

-- a run that began with this node ended in this state of the kernel, with these containers. It ended between two calls, or
-- behind a single call of the kernel in the midst of a `create`, an `adopt` or an `update`. The container that was being made
-- counts, and lives once its process does. Each other call makes one at most, and a `rebalance` is `begin` and then single
-- writes, so a run that ends in the midst of one ends between two of these.
pub data MayEnd (first : NodeState) (k : KernelState) (containers : List (List ℕ × ContainerState)) : Type 0 where
  Between : (events : List Event) (n : NodeState) → Run first events n → k ≡ n.kernel → containers ≡ n.containers → MayEnd first k containers
  InPlace : (events : List Event) (old : NodeState) (cpus : Ids) (id bundle config : List ℕ) (r : Result ℕ (OrMemory NodeFault)) (new : NodeState)
      (made : Places cpus old id bundle config r new)
      → Run first events old → IsAmong (place_states cpus old id bundle config r new made) k → containers ≡ new.containers → MayEnd first k containers
  InUpdate : (events : List Event) (old : NodeState) (id bundle config : List ℕ) (r : Result (Unit {0}) (OrMemory NodeFault)) (new : NodeState)
      (made : Updates old id bundle config r new)
      → Run first events old → IsAmong (update_states old id bundle config r new made) k → containers ≡ new.containers → MayEnd first k containers

-- wherever a run ends, each container that lives then has some CPUs of the machine, and no two have one that they may not have
-- together
abbrev pub EndsAreLeft : Type 0
EndsAreLeft =
    (m : Layout) (first : NodeState) (k : KernelState) (containers : List (List ℕ × ContainerState)) → IsMachine m → Boots m first
    → MayEnd first k containers → AreLeft m (left_in k containers)
