-- What becomes of a live container whose config is read again.
use Rattle.std.specs.Prelude.{◌≡◌, ◌⊎◌, ◌++◌, ℕ, Bool, true, false, not, ◌&&◌, List, [], ◌∷◌, Some, None, Result, Ok, Err}
use Rattle.std.proofs.Common.{inl, inr}
use Rattle.std.specs.Map.{set_value}
use Rattle.std.specs.Str.{bytes_eq}
use Rattle.faults.specs.declared.OrMemory.{OrMemory}
use Rattle.faults.specs.declared.OrMemory.TheVariants.{Memory, Fault}
use Rattle.cpu_set.specs.Ids.{Ids, is_same}
use Rattle.cpuset_tree.specs.Groups.{requested_cpus}
use Rattle.kernel_model.specs.declared.KernelFault.{KernelFault}
use Rattle.kernel_model.specs.declared.KernelFault.TheVariants.{Failed}
use Rattle.kernel_model.specs.KernelState.{KernelState}
use Rattle.kernel_model.specs.Cases.{WritesCpus, WritesMems}
use Rattle.config_json.specs.declared.Config.{Config as Said}
use Rattle.config_json.specs.ConfigOf.{bytes_fault}
use Rattle.demand.specs.declared.Demand.{Demand as Asked}
use Rattle.node.specs.declared.fault.NodeFault.{NodeFault}
use Rattle.node.specs.declared.fault.NodeFault.TheVariants.{Busy, NoContainer, NotLive, Kernel}
use Rattle.node.specs.NodeState.{ContainerState, NodeState, container_of, is_underway}
use Rattle.node.specs.Owners.{is_pinned}
use Rattle.node.specs.Status.{is_live}
use Rattle.node.specs.Launch.{Then}
use Rattle.node.specs.Wanted.{Says, ConfigCause}

-- a config may be read again: the container is live, and no hand-over is open
pub record MayUpdate (n : NodeState) (id : List ℕ) (c : ContainerState) : Type 0 where
  pub settled : is_underway n.phase ≡ false
  pub there : container_of n id ≡ Some c
  pub live : is_live n.kernel c ≡ true

-- what stands against reading a container's config again
abbrev pub UpdateCause : NodeState → List ℕ → List ℕ → NodeFault → Type 0
UpdateCause n id config Busy = is_underway n.phase ≡ true
UpdateCause n id config NoContainer = (is_underway n.phase ≡ false) × (container_of n id ≡ None)
UpdateCause n id config NotLive = (c : ContainerState) × (is_underway n.phase ≡ false) × (container_of n id ≡ Some c) × (is_live n.kernel c ≡ false)
UpdateCause n id config fault = (c : ContainerState) × MayUpdate n id c × ConfigCause n.machine config fault

-- the call is made, or it is not
abbrev pub MadeIf : Bool → KernelState → (Result (Unit {0}) KernelFault → KernelState → Type 0) → Result (Unit {0}) KernelFault → KernelState → Type 0
MadeIf true old Call r new = Call r new
MadeIf false old Call r new = (r ≡ Ok tt) × (new ≡ old)

-- a shared container asks for CPUs of its own, and its group requests others than the reserved ones
abbrev pub becomes_pinned : Asked → Asked → Bool
becomes_pinned before after = not (is_pinned before.kind) && is_pinned after.kind

-- a shared container becomes pinned, and requests other CPUs than the reserved ones
abbrev pub gives_way : KernelState → Ids → ContainerState → Asked → Bool
gives_way k reserved c asked = becomes_pinned c.demand asked && not (is_same (requested_cpus k.tree c.group) reserved)

-- its homes are others
abbrev pub moves_home : Asked → Asked → Bool
moves_home before after = not (is_same before.homes after.homes)

-- the writes of an `update`: the reserved CPUs if the container gives way, and then the memory nodes if the homes differ
abbrev pub Rewrites : KernelState → Ids → ContainerState → Asked → Result (Unit {0}) KernelFault → KernelState → Type 0
Rewrites old reserved c asked =
    Then (MadeIf (gives_way old reserved c asked) old (WritesCpus old c.group reserved))
    (λ _ mid. MadeIf (moves_home c.demand asked) mid (WritesMems mid c.group asked.homes))

-- its bundle and what it asks for are the new ones
pub record Updated (old : NodeState) (id bundle config : List ℕ) (new : NodeState) : Type 0 where
  pub said : Said
  pub asked : Asked
  pub container : ContainerState
  pub may : MayUpdate old id container
  pub says : Says old.machine config said asked
  pub rewrites : Rewrites old.kernel old.machine.reserved container asked (Ok tt) new.kernel
  pub is : new ≡ record old {
    kernel = new.kernel;
    containers = set_value (bytes_eq id) old.containers (record container { bundle = bundle; demand = asked });
  }

-- a write of the kernel failed, and it asks for what it did
pub record NotUpdated (old : NodeState) (id config : List ℕ) (fault : KernelFault) (new : NodeState) : Type 0 where
  pub said : Said
  pub asked : Asked
  pub container : ContainerState
  pub may : MayUpdate old id container
  pub says : Says old.machine config said asked
  pub rewrites : Rewrites old.kernel old.machine.reserved container asked (Err fault) new.kernel
  pub is : new ≡ record old { kernel = new.kernel }

-- `update`, by cases on its answer
abbrev pub Updates : NodeState → List ℕ → List ℕ → List ℕ → Result (Unit {0}) (OrMemory NodeFault) → NodeState → Type 0
Updates old id bundle config (Ok _) new = Updated old id bundle config new
Updates old id bundle config (Err Memory) new = (c : ContainerState) × MayUpdate old id c × (bytes_fault config ≡ None) × (new ≡ old)
Updates old id bundle config (Err (Fault (Kernel fault))) new = (fault ≡ Failed) × NotUpdated old id config fault new
Updates old id bundle config (Err (Fault fault)) new = UpdateCause old id config fault × (new ≡ old)

-- a container before and after an `update` that needs no write. Its homes stay. It does not ask for CPUs of its own, or did
-- before, or its group requests the reserved ones already.
pub record NeedsNoWrite (old : NodeState) (before after : ContainerState) : Type 0 where
  pub homes : before.demand.homes ≡ after.demand.homes
  pub cpus : (is_pinned after.demand.kind ≡ false) ⊎ (is_pinned before.demand.kind ≡ true) ⊎ (requested_cpus old.kernel.tree before.group ≡ old.machine.reserved)

-- an `update` that is done writes nothing then
abbrev pub WritesNoMore : NodeState → List ℕ → NodeState → Type 0
WritesNoMore old id new = (before after : ContainerState) → container_of old id ≡ Some before → container_of new id ≡ Some after
    → NeedsNoWrite old before after → new.kernel ≡ old.kernel

-- the states after its writes, one after another; none where it is refused before
abbrev pub made_states : (make : Bool) (old : KernelState) (Call : Result (Unit {0}) KernelFault → KernelState → Type 0) (r : Result (Unit {0}) KernelFault)
    (new : KernelState)
    → MadeIf make old Call r new → List KernelState
made_states true old Call r new made = new ∷ []
made_states false old Call r new none = []

abbrev pub rewrite_states : (old : KernelState) (reserved : Ids) (c : ContainerState) (asked : Asked) (r : Result (Unit {0}) KernelFault) (new : KernelState)
    → Rewrites old reserved c asked r new → List KernelState
rewrite_states old reserved c asked r new (inl (fault, refused, is)) =
    made_states (gives_way old reserved c asked) old (WritesCpus old c.group reserved) (Err fault) new refused
rewrite_states old reserved c asked r new (inr (done, mid, first, second)) =
    made_states (gives_way old reserved c asked) old (WritesCpus old c.group reserved) (Ok done) mid first
    ++ made_states (moves_home c.demand asked) mid (WritesMems mid c.group asked.homes) r new second

-- the states of the kernel after each write of an `update`
abbrev pub update_states : (old : NodeState) (id bundle config : List ℕ) (r : Result (Unit {0}) (OrMemory NodeFault)) (new : NodeState)
    → Updates old id bundle config r new → List KernelState
update_states old id bundle config (Ok done) new u = rewrite_states old.kernel old.machine.reserved u.container u.asked (Ok tt) new.kernel u.rewrites
update_states old id bundle config (Err Memory) new same = []
update_states old id bundle config (Err (Fault (Kernel fault))) new u =
    rewrite_states old.kernel old.machine.reserved u.1.container u.1.asked (Err fault) new.kernel u.1.rewrites
update_states old id bundle config (Err (Fault fault)) new same = []
