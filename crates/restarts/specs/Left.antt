-- What a run of the program leaves when it ends: the containers that live, each with the CPUs that its group requests. These are
-- what the group's `cpuset.cpus` has.
use Rattle.std.specs.Prelude.{◌≡◌, ◌≢◌, ◌≤◌, ◌||◌, ◌⊎◌, ℕ, Bool, true, false, cond, List, [], ◌∷◌, length}
use Rattle.std.specs.List.{AllByRecursion}
use Rattle.std.specs.FinSet as set
use Rattle.std.specs.Str.{bytes_eq}
use Rattle.cpu_set.specs.Ids.{Ids}
use Rattle.kernel_model.specs.KernelState.{KernelState}
use Rattle.machine.specs.Layout.{Layout}
use Rattle.machine.specs.Present.{IsPresent}
use Rattle.certificate_text.specs.IdWord.{IsId}
use Rattle.apply_plan.specs.Holders.{Pairwise}
use Rattle.node.specs.declared.TheConstants.{CONTAINER_LIMIT}
use Rattle.node.specs.NodeState.{ContainerState}
use Rattle.node.specs.Owners.{is_pinned}
use Rattle.node.specs.Rows.{requested_by}
use Rattle.node.specs.Status.{is_live}

-- a container that lives when a run ends: its id, whether it asked for CPUs of its own, and the CPUs that its group requests
pub record Left : Type 0 where
  pub id : List ℕ
  pub pinned : Bool
  pub cpus : Ids

-- what is left of a container
abbrev pub left_of : KernelState → List ℕ × ContainerState → Left
left_of k e = record { id = e.0; pinned = is_pinned e.1.demand.kind; cpus = requested_by k e }

-- those that live, in the order in which they were created
abbrev pub left_in : KernelState → List (List ℕ × ContainerState) → List Left
left_in k [] = []
left_in k (e ∷ later) = cond (is_live k e.1) (left_of k e ∷ left_in k later) (left_in k later)

-- its id is one, and it has some CPUs, all of them the machine's
pub record IsLeft (m : Layout) (a : Left) : Type 0 where
  pub id : IsId a.id
  pub some : a.cpus ≢ set.empty
  pub there : (cpu : ℕ) → set.contains a.cpus cpu ≡ true → IsPresent m cpu

-- two containers have two ids. If one of both asked for CPUs of its own, they have none but reserved ones together.
pub record AreApart (m : Layout) (a b : Left) : Type 0 where
  pub ids : bytes_eq a.id b.id ≡ false
  pub cpus : (a.pinned || b.pinned) ≡ true → (cpu : ℕ)
      → set.contains a.cpus cpu ≡ true → set.contains b.cpus cpu ≡ true → set.contains m.reserved cpu ≡ true

-- no more containers than there may be, each such and each two
pub record AreLeft (m : Layout) (left : List Left) : Type 0 where
  pub few : length left ≤ CONTAINER_LIMIT
  pub each : AllByRecursion (IsLeft m) left
  pub apart : Pairwise (AreApart m) left

-- it is one of these
abbrev pub IsAmong : {X : Type 0} → List X → X → Type 0
IsAmong [] x = ⊥
IsAmong (y ∷ later) x = (x ≡ y) ⊎ IsAmong later x
