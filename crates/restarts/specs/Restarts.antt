-- Any number of restarts, one after another.
use Rattle.std.specs.Prelude.{◌≡◌, ◌⊎◌, ℕ, List, Some, Result}
use Rattle.std.specs.List.{AllByRecursion}
use Rattle.cpu_set.specs.Ids.{Ids}
use Rattle.cpuset_tree.specs.declared.Group.{Group}
use Rattle.cpuset_tree.specs.Groups.{child_of, requested_cpus}
use Rattle.faults.specs.declared.OrMemory.{OrMemory}
use Rattle.kernel_model.specs.KernelState.{KernelState}
use Rattle.machine.specs.Layout.{Layout}
use Rattle.node.specs.declared.fault.NodeFault.{NodeFault}
use Rattle.node.specs.NodeState.{ContainerState, NodeState}
use Rattle.node.specs.IsNode.{IsMachine}
use Rattle.node.specs.Calls.{Places}
use Rattle.node.specs.Making.{place_states}
use Rattle.node.specs.Machine.{Event}
use Rattle.runtime.specs.Boots.{Boots}
use Rattle.restarts.specs.Left.{Left, left_in, AreLeft}
use Rattle.restarts.specs.Ends.{MayEnd}
use Rattle.restarts.specs.Taking.{Tries}

-- each group requests what it did, or it is the one of this name and requests these CPUs
abbrev pub AsksOnlyOwn : KernelState → Group → List ℕ → Ids → KernelState → Type 0
AsksOnlyOwn old parent name cpus k = (g : Group)
    → (requested_cpus k.tree g ≡ requested_cpus old.tree g) ⊎ ((child_of k.tree parent name ≡ Some g) × (requested_cpus k.tree g ≡ cpus))

-- a `create` or an `adopt`, whatever it returns, writes CPUs into no file but that of its id, and there those that it was given.
-- So what is taken up with the list of its file leaves each file as it was, behind each single call.
abbrev pub PlacesWriteOwn : Type 0
PlacesWriteOwn =
    (cpus : Ids) (old : NodeState) (id bundle config : List ℕ) (r : Result ℕ (OrMemory NodeFault)) (new : NodeState)
    (made : Places cpus old id bundle config r new)
    → AllByRecursion (AsksOnlyOwn old.kernel old.parent id cpus) (place_states cpus old id bundle config r new made)

-- what the last of several runs left. The first begins with nothing. Each later one first tries to take up what the one before
-- it left. Where it ends while it does, the files are as they were. Else it goes on as it will with those that it took up, and
-- ends anywhere.
pub data Leaves (m : Layout) : List Left → Type 0 where
  Once : (first : NodeState) (k : KernelState) (containers : List (List ℕ × ContainerState)) → Boots m first → MayEnd first k containers
      → Leaves m (left_in k containers)
  Halfway : (left : List Left) (tries : List Event) (taken : NodeState) → Leaves m left → Tries m left tries taken → Leaves m left
  Again : (left : List Left) (tries : List Event) (taken : NodeState) (k : KernelState) (containers : List (List ℕ × ContainerState)) → Leaves m left
      → Tries m left tries taken → MayEnd taken k containers → Leaves m (left_in k containers)

-- however many runs there were, what the last one left can be taken up as what the first one did
abbrev pub RestartsGoOn : Type 0
RestartsGoOn = (m : Layout) (left : List Left) → IsMachine m → Leaves m left → AreLeft m left
