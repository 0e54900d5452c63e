-- Which CPUs a new container may request.
use Rattle.std.specs.Prelude.{◌≡◌, ◌≢◌, ◌<◌, ℕ, Bool, true, false, not, ◌&&◌, ◌||◌, List}
use Rattle.std.specs.List.{list_any}
use Rattle.std.specs.FinSet as set
use Rattle.cpu_set.specs.Ids.{Ids}
use Rattle.kernel_model.specs.KernelState.{KernelState}
use Rattle.machine.specs.Present.{present}
use Rattle.node.specs.NodeState.{ContainerState, NodeState}
use Rattle.node.specs.Owners.{is_pinned}
use Rattle.node.specs.Rows.{requested_by}
use Rattle.node.specs.Status.{is_live}

-- a live container keeps a CPU from a new one: it requests it, and one of both is pinned
abbrev pub keeps : KernelState → Bool → ℕ → List ℕ × ContainerState → Bool
keeps k pinned cpu e = is_live k e.1 && ((is_pinned e.1.demand.kind || pinned) && set.contains (requested_by k e) cpu)

-- a new container may request the CPU: it is present, and it is reserved or no live container keeps it
abbrev pub is_free_cpu : NodeState → Bool → ℕ → Bool
is_free_cpu n pinned cpu =
    set.contains (present n.machine) cpu && (set.contains n.machine.reserved cpu || not (list_any (keeps n.kernel pinned cpu) n.containers))

-- it may request each of these
abbrev pub AreFreeCpus : NodeState → Bool → Ids → Type 0
AreFreeCpus n pinned cpus = (cpu : ℕ) → set.contains cpus cpu ≡ true → is_free_cpu n pinned cpu ≡ true

-- some CPUs, each of which a new container may request
pub record MayRequest (n : NodeState) (pinned : Bool) (cpus : Ids) : Type 0 where
  pub some : cpus ≢ set.empty
  pub free : AreFreeCpus n pinned cpus

-- the least of the CPUs that a new container may not request
pub record IsLeastTaken (n : NodeState) (pinned : Bool) (cpus : Ids) (cpu : ℕ) : Type 0 where
  pub there : set.contains cpus cpu ≡ true
  pub taken : is_free_cpu n pinned cpu ≡ false
  pub least : (lower : ℕ) → lower < cpu → set.contains cpus lower ≡ true → is_free_cpu n pinned lower ≡ true
