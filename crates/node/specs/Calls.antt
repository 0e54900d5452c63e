-- The calls of a node, each a relation by cases on what it answers.
-- From: OCI Runtime Specification 1.0.2, runtime.md, Operations.
use Rattle.std.specs.Prelude.{◌≡◌, ◌⊎◌, ◌++◌, ◌||◌, ◌&&◌, ℕ, Bool, true, false, not, List, [], ◌∷◌, Some, None, Result, Ok, Err, codes}
use Rattle.std.specs.Map.{set_value, remove_entry}
use Rattle.std.specs.Str.{bytes_eq}
use Rattle.cpu_set.specs.Ids.{Ids}
use Rattle.cpuset_tree.specs.declared.Group.{Group}
use Rattle.cpuset_tree.specs.Groups.{root_of}
use Rattle.kernel_model.specs.declared.KernelFault.{KernelFault}
use Rattle.kernel_model.specs.declared.KernelFault.TheVariants.{NoPids, Failed}
use Rattle.kernel_model.specs.KernelState.{KernelState}
use Rattle.kernel_model.specs.Cases.{EndsGroup, RemovesGroup}
use Rattle.machine.specs.Layout.{Layout}
use Rattle.config_json.specs.declared.Config.{Config as Said}
use Rattle.config_json.specs.ConfigOf.{bytes_fault}
use Rattle.demand.specs.declared.Demand.{Demand as Asked}
use Rattle.faults.specs.declared.OrMemory.{OrMemory}
use Rattle.faults.specs.declared.OrMemory.TheVariants.{Memory, Fault}
use Rattle.node.specs.declared.fault.NodeFault.{NodeFault}
use Rattle.node.specs.declared.fault.NodeFault.TheVariants.{Busy, NoContainer, NotCreated, NotRunnable, BadSignal, NotLive, NotStopped, Kernel}
use Rattle.node.specs.declared.phase.Phase.TheVariants.{Settled}
use Rattle.node.specs.NodeState.{ContainerState, NodeState, container_of, is_underway}
use Rattle.node.specs.Status.{is_live}
use Rattle.node.specs.Launch.{FindsOrMakes, Launches, lacks_pid}
use Rattle.node.specs.Owners.{is_pinned}
use Rattle.node.specs.MayRequest.{MayRequest}
use Rattle.node.specs.Refusals.{IsFree, PlaceCause}
use Rattle.node.specs.Wanted.{Says}

-- a node over a kernel, whose group below the root is found or made; it has no container, and no plan was made yet
abbrev pub Opens : KernelState → Layout → NodeState → Type 0
Opens old machine n =
    (root : Group) × (root_of old.tree ≡ Some root) × FindsOrMakes old root (codes "numarun") (Ok n.parent) n.kernel
    × (n ≡ record { kernel = n.kernel; machine = machine; parent = n.parent; containers = []; pool = machine.reserved; phase = Settled; ongoing = None; last = None })

-- no node over a kernel: finding or making its group was refused
abbrev pub OpensNot : KernelState → OrMemory KernelFault → KernelState → Type 0
OpensNot old error new = (root : Group) × (root_of old.tree ≡ Some root) × FindsOrMakes old root (codes "numarun") (Err error) new

-- a new container, which is not started
abbrev pub new_container : List ℕ → Said → Asked → Group → ℕ → ContainerState
new_container bundle said asked group pid =
    record { bundle = bundle; demand = asked; runnable = said.runnable; group = group; pid = pid; started = false }

-- a group and a first process on these CPUs and the homes, and the container after all others
pub record Created (cpus : Ids) (old : NodeState) (id bundle config : List ℕ) (pid : ℕ) (new : NodeState) : Type 0 where
  pub said : Said
  pub asked : Asked
  pub group : Group
  pub free : IsFree old id
  pub says : Says old.machine config said asked
  pub may : MayRequest old (is_pinned asked.kind) cpus
  pub launched : Launches old.kernel old.parent id cpus asked.homes (Ok (group, pid)) new.kernel
  pub is : new ≡ record old { kernel = new.kernel; containers = old.containers ++ (id, new_container bundle said asked group pid) ∷ [] }

-- no pid is left for its first process: nothing is made, and nothing changes
pub record LacksPid (cpus : Ids) (old : NodeState) (id config : List ℕ) (new : NodeState) : Type 0 where
  pub said : Said
  pub asked : Asked
  pub free : IsFree old id
  pub says : Says old.machine config said asked
  pub may : MayRequest old (is_pinned asked.kind) cpus
  pub lacks : lacks_pid old.kernel old.parent id ≡ true
  pub is : new ≡ old

-- a pid is left, but the kernel refused one of its calls, and the container is not there
pub record NotLaunched (cpus : Ids) (old : NodeState) (id config : List ℕ) (error : OrMemory KernelFault) (new : NodeState) : Type 0 where
  pub said : Said
  pub asked : Asked
  pub free : IsFree old id
  pub says : Says old.machine config said asked
  pub may : MayRequest old (is_pinned asked.kind) cpus
  pub left : lacks_pid old.kernel old.parent id ≡ false
  pub refused : Launches old.kernel old.parent id cpus asked.homes (Err error) new.kernel
  pub is : new ≡ record old { kernel = new.kernel }

-- what is answered where the kernel refuses
abbrev pub late_answer : OrMemory KernelFault → OrMemory NodeFault
late_answer Memory = Memory
late_answer (Fault fault) = Fault (Kernel fault)

-- a new container, whose group requests these CPUs at first
abbrev pub Places : Ids → NodeState → List ℕ → List ℕ → List ℕ → Result ℕ (OrMemory NodeFault) → NodeState → Type 0
Places cpus old id bundle config (Ok pid) new = Created cpus old id bundle config pid new
Places cpus old id bundle config (Err Memory) new = NotLaunched cpus old id config Memory new ⊎ (IsFree old id × (bytes_fault config ≡ None) × (new ≡ old))
Places cpus old id bundle config (Err (Fault (Kernel NoPids))) new = LacksPid cpus old id config new
Places cpus old id bundle config (Err (Fault (Kernel fault))) new = NotLaunched cpus old id config (Fault fault) new
Places cpus old id bundle config (Err (Fault fault)) new = PlaceCause cpus old id config fault × (new ≡ old)

-- `create`: on the reserved CPUs
abbrev pub Creates : NodeState → List ℕ → List ℕ → List ℕ → Result ℕ (OrMemory NodeFault) → NodeState → Type 0
Creates old id bundle config r new = Places old.machine.reserved old id bundle config r new

-- `adopt`: on the CPUs that the container has already
abbrev pub Adopts : NodeState → List ℕ → List ℕ → List ℕ → Ids → Result ℕ (OrMemory NodeFault) → NodeState → Type 0
Adopts old id bundle config cpus r new = Places cpus old id bundle config r new

-- it is live, and was not started
abbrev pub is_created : KernelState → ContainerState → Bool
is_created k c = is_live k c && not c.started

-- what stands against a start
abbrev pub StartCause : NodeState → List ℕ → NodeFault → Type 0
StartCause n id NoContainer = container_of n id ≡ None
StartCause n id NotCreated = (c : ContainerState) × (container_of n id ≡ Some c) × (is_created n.kernel c ≡ false)
StartCause n id NotRunnable = (c : ContainerState) × (container_of n id ≡ Some c) × (is_created n.kernel c ≡ true) × (c.runnable ≡ false)
StartCause n id fault = ⊥

-- `start`: the container is running from now on
abbrev pub Starts : NodeState → List ℕ → Result (Unit {0}) NodeFault → NodeState → Type 0
Starts old id (Ok _) new =
    (c : ContainerState) × (container_of old id ≡ Some c) × (is_created old.kernel c ≡ true) × (c.runnable ≡ true)
    × (new ≡ record old { containers = set_value (bytes_eq id) old.containers (record c { started = true }) })
Starts old id (Err fault) new = StartCause old id fault × (new ≡ old)

-- the signals that end a process
abbrev pub is_ending : List ℕ → Bool
is_ending signal =
    bytes_eq signal (codes "KILL") || (bytes_eq signal (codes "SIGKILL") || (bytes_eq signal (codes "9")
    || (bytes_eq signal (codes "TERM") || (bytes_eq signal (codes "SIGTERM") || bytes_eq signal (codes "15")))))

-- what stands against a signal
abbrev pub KillCause : NodeState → List ℕ → List ℕ → NodeFault → Type 0
KillCause n id signal BadSignal = is_ending signal ≡ false
KillCause n id signal NoContainer = (is_ending signal ≡ true) × (container_of n id ≡ None)
KillCause n id signal NotLive = (c : ContainerState) × (is_ending signal ≡ true) × (container_of n id ≡ Some c) × (is_live n.kernel c ≡ false)
KillCause n id signal fault = ⊥

-- a live container, and what the kernel answered when all processes of its group were to end
pub record Ended (old : NodeState) (id signal : List ℕ) (r : Result (Unit {0}) KernelFault) (new : NodeState) : Type 0 where
  pub container : ContainerState
  pub ending : is_ending signal ≡ true
  pub there : container_of old id ≡ Some container
  pub live : is_live old.kernel container ≡ true
  pub ended : EndsGroup old.kernel container.group r new.kernel
  pub is : new ≡ record old { kernel = new.kernel }

-- `kill`: all processes of the container end
abbrev pub Kills : NodeState → List ℕ → List ℕ → Result (Unit {0}) NodeFault → NodeState → Type 0
Kills old id signal (Ok _) new = Ended old id signal (Ok tt) new
Kills old id signal (Err (Kernel fault)) new = (fault ≡ Failed) × Ended old id signal (Err fault) new
Kills old id signal (Err fault) new = KillCause old id signal fault × (new ≡ old)

-- what stands against a removal
abbrev pub DeleteCause : NodeState → List ℕ → NodeFault → Type 0
DeleteCause n id Busy = is_underway n.phase ≡ true
DeleteCause n id NoContainer = (is_underway n.phase ≡ false) × (container_of n id ≡ None)
DeleteCause n id NotStopped = (c : ContainerState) × (is_underway n.phase ≡ false) × (container_of n id ≡ Some c) × (is_live n.kernel c ≡ true)
DeleteCause n id fault = ⊥

-- a stopped container, and what the kernel answered when its group was to be removed
pub record Removed (old : NodeState) (id : List ℕ) (r : Result (Unit {0}) KernelFault) (containers : List (List ℕ × ContainerState)) (new : NodeState) : Type 0 where
  pub container : ContainerState
  pub settled : is_underway old.phase ≡ false
  pub there : container_of old id ≡ Some container
  pub stopped : is_live old.kernel container ≡ false
  pub removed : RemovesGroup old.kernel container.group r new.kernel
  pub is : new ≡ record old { kernel = new.kernel; containers = containers }

-- `delete`: the container and its group are gone
abbrev pub Deletes : NodeState → List ℕ → Result (Unit {0}) NodeFault → NodeState → Type 0
Deletes old id (Ok _) new = Removed old id (Ok tt) (remove_entry (bytes_eq id) old.containers) new
Deletes old id (Err (Kernel fault)) new = (fault ≡ Failed) × Removed old id (Err fault) old.containers new
Deletes old id (Err fault) new = DeleteCause old id fault × (new ≡ old)
