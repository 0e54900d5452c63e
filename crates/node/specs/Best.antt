-- The sets that the live pinned containers could have, and which of them are best: the nearest, and of these those that move
-- the fewest cores.
use Rattle.std.specs.Prelude.{◌≡◌, ◌≤◌, ℕ, Bool, true, ◌&&◌, List, AllPairs, filter, zip}
use Rattle.std.specs.List.{AllByRecursion, AllZip, sum_by}
use Rattle.std.specs.FinSet as set
use Rattle.cpu_set.specs.Ids.{Ids, IsDisjoint}
use Rattle.cpu_set.specs.Members.{InRange, members}
use Rattle.kernel_model.specs.KernelState.{KernelState}
use Rattle.machine.specs.Cores.{cores_in, IsWhole}
use Rattle.machine.specs.Layout.{Layout}
use Rattle.machine.specs.Weight.{weight}
use Rattle.demand.specs.declared.Kind.{Kind}
use Rattle.demand.specs.declared.Kind.TheVariants.{Pinned, Shared}
use Rattle.demand.specs.declared.Demand.{Demand}
use Rattle.node.specs.NodeState.{ContainerState, NodeState}
use Rattle.node.specs.Owners.{is_pinned}
use Rattle.node.specs.Status.{is_live}
use Rattle.node.specs.Rows.{requested_by}

-- exactly as many CPUs as are asked for, all allowed and online, and of each core all or none
pub record AreOwn (k : KernelState) (m : Layout) (d : Demand) (count : ℕ) (cpus : Ids) : Type 0 where
  pub size : set.len cpus ≡ count
  pub each : (cpu : ℕ) → set.contains cpus cpu ≡ true → (set.contains d.allowed cpu ≡ true) × (set.contains k.tree.online cpu ≡ true)
  pub whole : IsWhole m cpus

-- the live pinned containers, in the order in which they were created
abbrev pub is_asking : KernelState → List ℕ × ContainerState → Bool
is_asking k e = is_live k e.1 && is_pinned e.1.demand.kind

-- the live pinned containers, in the order of creation
abbrev pub asking : NodeState → List (List ℕ × ContainerState)
asking n = filter (is_asking n.kernel) n.containers

-- how many CPUs of its own a container asks for
abbrev pub wanted_by : Kind → ℕ
wanted_by (Pinned count) = count
wanted_by Shared = 0

-- sets that the live pinned containers could have. Each has exactly as many CPUs as the container asks for, of whole cores,
-- all allowed and none shared.
pub record CouldHave (n : NodeState) (sets : List Ids) : Type 0 where
  pub numbers : AllByRecursion InRange sets
  pub own : AllZip (λ e cpus. AreOwn n.kernel n.machine e.1.demand (wanted_by e.1.demand.kind) cpus) (asking n) sets
  pub apart : AllPairs IsDisjoint sets

-- how far these CPUs are from the nearest of a container's homes, all together; and the sets of all
abbrev pub distance : Layout → List ℕ × ContainerState → Ids → ℕ
distance m e cpus = sum_by (λ cpu. weight m e.1.demand.homes cpu) (members cpus)

-- how far such sets are from the nearest homes, all together
abbrev pub total_distance : NodeState → List Ids → ℕ
total_distance n sets = sum_by (λ p. distance n.machine p.0 p.1) (zip (asking n) sets)

-- how many cores of a set the container's group does not request as a whole
abbrev pub moved_by : KernelState → Layout → List ℕ × ContainerState → Ids → ℕ
moved_by k m e cpus = set.len (set.difference (cores_in m cpus) (cores_in m (requested_by k e)))

-- how many cores of such sets move in all, over the live pinned containers
abbrev pub moved : NodeState → List Ids → ℕ
moved n sets = sum_by (λ p. moved_by n.kernel n.machine p.0 p.1) (zip (asking n) sets)

-- sets that they could have, at this distance; none are nearer, and none that are as near move fewer cores
pub record IsBest (n : NodeState) (total : ℕ) (sets : List Ids) : Type 0 where
  pub could : CouldHave n sets
  pub far : total ≡ total_distance n sets
  pub nearest : (others : List Ids) → CouldHave n others → total ≤ total_distance n others
  pub fewest : (others : List Ids) → CouldHave n others → total_distance n others ≡ total → moved n sets ≤ moved n others
