-- The kernel in the midst of `create`, `adopt` and `update`: its states, one after each single call that is made.
use Rattle.std.specs.Prelude.{◌≡◌, ◌⊎◌, ℕ, ◌+◌, ◌<◌, List, [], ◌∷◌, ◌++◌, map, Option, Some, None, Result, Ok, Err}
use Rattle.std.proofs.Common.{inl, inr}
use Rattle.std.specs.List.{AllByRecursion}
use Rattle.cpu_set.specs.Ids.{Ids}
use Rattle.cpuset_tree.specs.declared.TheConstants.{SERIAL_LIMIT}
use Rattle.cpuset_tree.specs.declared.Group.{Group}
use Rattle.cpuset_tree.specs.Groups.{child_of, requested_cpus}
use Rattle.proctable.specs.declared.TheConstants.{LAST_PID}
use Rattle.kernel_model.specs.declared.KernelFault.{KernelFault}
use Rattle.kernel_model.specs.declared.KernelFault.TheVariants.{NoSerials, NoPids, Failed}
use Rattle.kernel_model.specs.Trace.{MadeGroup}
use Rattle.kernel_model.specs.KernelState.{KernelState, recorded}
use Rattle.kernel_model.specs.Cases.{MakesGroup, WritesCpus, WritesMems, Spawns}
use Rattle.faults.specs.declared.OrMemory.{OrMemory}
use Rattle.faults.specs.declared.OrMemory.TheVariants.{Memory, Fault}
use Rattle.apply_plan.specs.Holders.{IsSafe}
use Rattle.node.specs.declared.fault.NodeFault.{NodeFault}
use Rattle.node.specs.declared.fault.NodeFault.TheVariants.{Kernel}
use Rattle.node.specs.NodeState.{ContainerState, NodeState, container_of}
use Rattle.node.specs.Owners.{owners_of}
use Rattle.node.specs.IsNode.{IsNode}
use Rattle.node.specs.Launch.{AtOnce, FindsOr, WritesSets, StartsIn, Launches}
use Rattle.node.specs.Updates.{Updates, update_states}
use Rattle.node.specs.Calls.{Places}

-- the state after a group is made, and none where it is there already
abbrev pub found_states : (found : Option Group) (old : KernelState) (parent : Group) (name : List ℕ) (r : Result Group (OrMemory KernelFault))
    (new : KernelState)
    → FindsOr found old parent name r new → List KernelState
found_states (Some g) old parent name r new finds = []
found_states None old parent name r new makes = new ∷ []

-- the states after a group's CPUs are written and after its memory nodes are; the first alone where it is refused
abbrev pub set_states : (old : KernelState) (g : Group) (cpus mems : Ids) (r : Result (Unit {0}) KernelFault) (new : KernelState)
    → WritesSets old g cpus mems r new → List KernelState
set_states old g cpus mems r new (inl refused) = new ∷ []
set_states old g cpus mems r new (inr (done, mid, first, second)) = mid ∷ new ∷ []

-- the same among calls that may want memory
abbrev pub set_states_at_once : (old : KernelState) (g : Group) (cpus mems : Ids) (r : Result (Unit {0}) (OrMemory KernelFault)) (new : KernelState)
    → AtOnce (WritesSets old g cpus mems) r new → List KernelState
set_states_at_once old g cpus mems (Ok done) new writes = set_states old g cpus mems (Ok done) new writes
set_states_at_once old g cpus mems (Err Memory) new never = absurd never
set_states_at_once old g cpus mems (Err (Fault fault)) new writes = set_states old g cpus mems (Err fault) new writes

-- these, and where none is refused the state after a first process is made in the group
abbrev pub start_states : (old : KernelState) (g : Group) (cpus mems : Ids) (r : Result ℕ (OrMemory KernelFault)) (new : KernelState)
    → StartsIn old g cpus mems r new → List KernelState
start_states old g cpus mems r new (inl (fault, refused, is)) = set_states_at_once old g cpus mems (Err fault) new refused
start_states old g cpus mems r new (inr (done, mid, writes, spawns)) = set_states_at_once old g cpus mems (Ok done) mid writes ++ new ∷ []

-- the states after all calls by which a container's group and first process are made
abbrev pub launch_states : (old : KernelState) (parent : Group) (name : List ℕ) (cpus mems : Ids) (r : Result (Group × ℕ) (OrMemory KernelFault))
    (new : KernelState)
    → Launches old parent name cpus mems r new → List KernelState
launch_states old parent name cpus mems (Ok made) new (mid, found, starts) =
    found_states (child_of old.tree parent name) old parent name (Ok made.0) mid found ++ start_states mid made.0 cpus mems (Ok made.1) new starts
launch_states old parent name cpus mems (Err error) new (inl refused) = found_states (child_of old.tree parent name) old parent name (Err error) new refused
launch_states old parent name cpus mems (Err error) new (inr (g, mid, found, starts)) =
    found_states (child_of old.tree parent name) old parent name (Ok g) mid found ++ start_states mid g cpus mems (Err error) new starts

-- the states of the kernel in the midst of a `create` or an `adopt`, one after each single call; none if it is refused before
-- the kernel is called
abbrev pub place_states : (cpus : Ids) (old : NodeState) (id bundle config : List ℕ) (r : Result ℕ (OrMemory NodeFault)) (new : NodeState)
    → Places cpus old id bundle config r new → List KernelState
place_states cpus old id bundle config (Ok pid) new c =
    launch_states old.kernel old.parent id cpus c.asked.homes (Ok (c.group, pid)) new.kernel c.launched
place_states cpus old id bundle config (Err Memory) new (inl n) =
    launch_states old.kernel old.parent id cpus n.asked.homes (Err Memory) new.kernel n.refused
place_states cpus old id bundle config (Err Memory) new (inr same) = []
place_states cpus old id bundle config (Err (Fault (Kernel NoPids))) new same = []
place_states cpus old id bundle config (Err (Fault (Kernel fault))) new n =
    launch_states old.kernel old.parent id cpus n.asked.homes (Err (Fault fault)) new.kernel n.refused
place_states cpus old id bundle config (Err (Fault fault)) new same = []

-- one call of the kernel, whatever it answers
pub data IsOneCall (old new : KernelState) : Type 0 where
  Makes : (parent : Group) (name : List ℕ) (r : Result Group (OrMemory KernelFault)) → MakesGroup old parent name r new → IsOneCall old new
  Cpus : (g : Group) (cpus : Ids) (r : Result (Unit {0}) KernelFault) → WritesCpus old g cpus r new → IsOneCall old new
  Mems : (g : Group) (mems : Ids) (r : Result (Unit {0}) KernelFault) → WritesMems old g mems r new → IsOneCall old new
  Process : (g : Group) (r : Result ℕ (OrMemory KernelFault)) → Spawns old g r new → IsOneCall old new

-- each of the states is what one call leaves of the state before it, from the first kernel to the last
abbrev pub AreCalls : KernelState → List KernelState → KernelState → Type 0
AreCalls old [] new = new ≡ old
AreCalls old (k ∷ later) new = IsOneCall old k × AreCalls k later new

-- a `create` or an `adopt` goes through its states call by call, so that none is left out
abbrev pub PlacesAreCalls : Type 0
PlacesAreCalls =
    (cpus : Ids) (old : NodeState) (id bundle config : List ℕ) (r : Result ℕ (OrMemory NodeFault)) (new : NodeState)
    (made : Places cpus old id bundle config r new)
    → AreCalls old.kernel (place_states cpus old id bundle config r new made) new.kernel

-- in each of these states what is requested is safe, of all containers that are there after it: also of the one that it makes
abbrev pub PlacesStaySafe : Type 0
PlacesStaySafe =
    (cpus : Ids) (old : NodeState) (id bundle config : List ℕ) (r : Result ℕ (OrMemory NodeFault)) (new : NodeState)
    (made : Places cpus old id bundle config r new) → IsNode old
    → AllByRecursion (λ k. IsSafe k k.reserved (map (λ o. o.holder) (owners_of new.containers))) (place_states cpus old id bundle config r new made)

-- what a refusal of the kernel can be, of a `create` or an `adopt` against which nothing stood. A write failed, which is
-- counted. Or no serial was left for a group of this id, and there was none; then all is as before but that the call is told.
-- Or no pid was left; then all is as before.
abbrev pub LateCause : NodeState → List ℕ → KernelFault → NodeState → Type 0
LateCause old id Failed new = new.kernel.failures ≡ old.kernel.failures + 1
LateCause old id NoSerials new =
    (child_of old.kernel.tree old.parent id ≡ None) × (old.kernel.tree.next_serial ≡ SERIAL_LIMIT) × (new ≡ record old { kernel = recorded (MadeGroup old.parent id (Err (Fault NoSerials))) old.kernel })
LateCause old id NoPids new = (LAST_PID < old.kernel.table.next_pid) × (new ≡ old)
LateCause old id fault new = ⊥

-- the kernel refuses a `create` or an `adopt` for nothing else
abbrev pub PlacesFailLate : Type 0
PlacesFailLate =
    (cpus : Ids) (old : NodeState) (id bundle config : List ℕ) (fault : KernelFault) (new : NodeState) → IsNode old
    → Places cpus old id bundle config (Err (Fault (Kernel fault))) new → LateCause old id fault new

-- an `update` goes through its states call by call, so that none is left out
abbrev pub UpdatesAreCalls : Type 0
UpdatesAreCalls =
    (old : NodeState) (id bundle config : List ℕ) (r : Result (Unit {0}) (OrMemory NodeFault)) (new : NodeState) (made : Updates old id bundle config r new)
    → AreCalls old.kernel (update_states old id bundle config r new made) new.kernel

-- in each state of an `update` what is requested is safe
abbrev pub UpdatesStaySafe : Type 0
UpdatesStaySafe =
    (old : NodeState) (id bundle config : List ℕ) (r : Result (Unit {0}) (OrMemory NodeFault)) (new : NodeState) (made : Updates old id bundle config r new)
    → IsNode old
    → AllByRecursion (λ k. IsSafe k k.reserved (map (λ o. o.holder) (owners_of new.containers))) (update_states old id bundle config r new made)

-- if a write of an `update` fails, the container asks for what it did, and its group requests what it did or the reserved
-- CPUs
pub record IsAsBefore (old : NodeState) (id : List ℕ) (new : NodeState) : Type 0 where
  pub container : ContainerState
  pub there : container_of old id ≡ Some container
  pub containers : new.containers ≡ old.containers
  pub requests : (requested_cpus new.kernel.tree container.group ≡ requested_cpus old.kernel.tree container.group)
      ⊎ (requested_cpus new.kernel.tree container.group ≡ old.machine.reserved)
  pub counted : new.kernel.failures ≡ old.kernel.failures + 1

-- if a write of an `update` fails, it leaves the container as before
abbrev pub UpdatesFail : Type 0
UpdatesFail =
    (old : NodeState) (id bundle config : List ℕ) (fault : KernelFault) (new : NodeState) → IsNode old
    → Updates old id bundle config (Err (Fault (Kernel fault))) new → IsAsBefore old id new
