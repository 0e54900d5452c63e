-- Of what config a container is.
use Rattle.std.specs.Prelude.{◌≡◌, ◌⊎◌, ◌++◌, ℕ, Bool, false, List, [], ◌∷◌, Ok}
use Rattle.std.specs.List.{Contains, AllByRecursion}
use Rattle.std.specs.Str.{bytes_eq}
use Rattle.cpu_set.specs.Ids.{Ids}
use Rattle.config_json.specs.declared.Config.{Config as Said}
use Rattle.config_json.specs.ConfigOf.{config_of}
use Rattle.machine.specs.Layout.{Layout}
use Rattle.node.specs.NodeState.{ContainerState, NodeState}
use Rattle.node.specs.Wanted.{Says}
use Rattle.node.specs.Machine.{Event, Create, Adopt, Update, Run}

-- one of the events made the container of a bundle and its config, by `create` or by `adopt`
abbrev pub IsMadeOf : List Event → List ℕ → ℕ → List ℕ → List ℕ → Type 0
IsMadeOf events id pid bundle config = Contains events (Create id bundle config (Ok pid)) ⊎ ((cpus : Ids) × Contains events (Adopt id bundle config cpus (Ok pid)))

-- the event read a config for the container of an id and was not refused: it made one, or was an `update` of it
abbrev pub reads_for : List ℕ → Event → Bool
reads_for id (Create own bundle config (Ok pid)) = bytes_eq own id
reads_for id (Adopt own bundle config cpus (Ok pid)) = bytes_eq own id
reads_for id (Update own bundle config (Ok done)) = bytes_eq own id
reads_for id event = false

-- the event read this config for this very container: it made it, of its bundle and this config; or it was an `update` to
-- these, and one before it made it
abbrev pub IsReadBy : List Event → Event → List ℕ × ContainerState → List ℕ → Type 0
IsReadBy earlier event e config =
    (event ≡ Create e.0 e.1.bundle config (Ok e.1.pid))
    ⊎ ((cpus : Ids) × (event ≡ Adopt e.0 e.1.bundle config cpus (Ok e.1.pid)))
    ⊎ ((event ≡ Update e.0 e.1.bundle config (Ok tt)) × ((bundle first : List ℕ) × IsMadeOf earlier e.0 e.1.pid bundle first))

-- one of the events read the container's bundle and this config, and none after it read another for its id
pub record IsAskedIn (events : List Event) (e : List ℕ × ContainerState) (config : List ℕ) : Type 0 where
  pub earlier : List Event
  pub its : Event
  pub later : List Event
  pub cut : events ≡ earlier ++ its ∷ later
  pub read : IsReadBy earlier its e config
  pub last : AllByRecursion (λ event. reads_for e.0 event ≡ false) later

-- a container asks for what the config says that was read for it last, by the event that made it or by an `update`. Whether
-- it can be started is what the config says with which it was made.
pub record IsSaid (events : List Event) (m : Layout) (e : List ℕ × ContainerState) : Type 0 where
  pub config : List ℕ
  pub said : Said
  pub asked : IsAskedIn events e config
  pub says : Says m config said e.1.demand
  pub first_bundle : List ℕ
  pub first_config : List ℕ
  pub first_said : Said
  pub made : IsMadeOf events e.0 e.1.pid first_bundle first_config
  pub first_said_so : config_of first_config ≡ Ok first_said
  pub runnable : e.1.runnable ≡ first_said.runnable

-- each container is such after any list of calls and events from none on
abbrev pub ContainersAreSaid : Type 0
ContainersAreSaid = (first : NodeState) (events : List Event) (new : NodeState) → first.containers ≡ [] → Run first events new
    → AllByRecursion (IsSaid events new.machine) new.containers
