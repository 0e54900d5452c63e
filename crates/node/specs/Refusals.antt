-- What stands against each call, each cause with what was looked at before it and was no cause.
-- From: the order is ours.
use Rattle.std.specs.Prelude.{◌≡◌, ◌⊎◌, ◌<◌, ◌≤◌, ℕ, true, false, List, length, None, is_some, Result, Ok, Err}
use Rattle.cpu_set.specs.Ids.{Ids}
use Rattle.config_json.specs.declared.Config.{Config as Said}
use Rattle.demand.specs.declared.Demand.{Demand as Asked}
use Rattle.certificate_text.specs.IdWord.{IsId}
use Rattle.node.specs.declared.TheConstants.{CONTAINER_LIMIT}
use Rattle.node.specs.declared.fault.NodeFault.{NodeFault}
use Rattle.node.specs.declared.fault.NodeFault.TheVariants.{Busy, BadId, IdInUse, TooManyContainers, NotFree}
use Rattle.node.specs.NodeState.{NodeState, container_of, is_underway}
use Rattle.node.specs.Owners.{is_pinned}
use Rattle.node.specs.MayRequest.{IsLeastTaken}
use Rattle.node.specs.Wanted.{Says, ConfigCause}

-- a container of this id may be created: the id is one, no container has it, and there may be one more
pub record IsFree (n : NodeState) (id : List ℕ) : Type 0 where
  pub settled : is_underway n.phase ≡ false
  pub valid : IsId id
  pub new : container_of n id ≡ None
  pub room : length n.containers < CONTAINER_LIMIT

-- what stands against a new container of this id
abbrev pub IdCause : NodeState → List ℕ → NodeFault → Type 0
IdCause n id Busy = is_underway n.phase ≡ true
IdCause n id BadId = (is_underway n.phase ≡ false) × (IsId id → ⊥)
IdCause n id IdInUse = (is_underway n.phase ≡ false) × IsId id × (is_some (container_of n id) ≡ true)
IdCause n id TooManyContainers = (is_underway n.phase ≡ false) × IsId id × (container_of n id ≡ None) × (CONTAINER_LIMIT ≤ length n.containers)
IdCause n id fault = ⊥

-- what stands against creating a container, before anything is written
abbrev pub CreateCause : NodeState → List ℕ → List ℕ → NodeFault → Type 0
CreateCause n id config fault = IdCause n id fault ⊎ (IsFree n id × ConfigCause n.machine config fault)

-- the least of these CPUs that a new container may not request, if nothing else stands against it
pub record IsTakenFrom (cpus : Ids) (n : NodeState) (id config : List ℕ) (cpu : ℕ) : Type 0 where
  pub said : Said
  pub asked : Asked
  pub free : IsFree n id
  pub says : Says n.machine config said asked
  pub taken : IsLeastTaken n (is_pinned asked.kind) cpus cpu

-- what stands against a new container that requests these CPUs at first
abbrev pub PlaceCause : Ids → NodeState → List ℕ → List ℕ → NodeFault → Type 0
PlaceCause cpus n id config (NotFree cpu) = IsTakenFrom cpus n id config cpu
PlaceCause cpus n id config fault = CreateCause n id config fault

-- whether a container of this id may be created
abbrev pub Checks : NodeState → List ℕ → Result (Unit {0}) NodeFault → Type 0
Checks n id (Ok _) = IsFree n id
Checks n id (Err fault) = IdCause n id fault
