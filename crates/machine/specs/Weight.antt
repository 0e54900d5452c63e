use Rattle.std.specs.Prelude.{◌≡◌, ◌≢◌, ℕ, ◌<◌, ◌≤◌, true, min, map, fold, List, length, slice_index_or}
use Rattle.std.specs.FinSet as set
use Rattle.cpu_set.specs.Ids.{Ids}
use Rattle.cpu_set.specs.Members.{members}
use Rattle.machine.specs.declared.TheConstants.{NODE_LIMIT}
use Rattle.machine.specs.Layout.{Layout, node_count, distance}
use Rattle.machine.specs.Nodes.{IsOfNode, node_of}
use Rattle.machine.specs.Present.{IsPresent}

-- nodes of the machine, at least one
pub record AreHomes (m : Layout) (homes : Ids) : Type 0 where
  pub some : homes ≢ set.empty
  pub nodes : (h : ℕ) → set.contains homes h ≡ true → h < node_count m

-- The least distance from node i to a home.
pub record IsLeastDistance (m : Layout) (homes : Ids) (i w : ℕ) : Type 0 where
  pub reached : (h : ℕ) × (set.contains homes h ≡ true) × (w ≡ distance m i h)
  pub least : (h : ℕ) → set.contains homes h ≡ true → w ≤ distance m i h

-- the weight of a CPU for these homes: the least distance from its node to a home
abbrev pub IsWeight : Layout → Ids → ℕ → ℕ → Type 0
IsWeight m homes cpu w = (i : ℕ) × IsOfNode m cpu i × IsLeastDistance m homes i w

-- the weight of a CPU, computed: the least of the distances from its node to the homes
unfoldable pub weight : Layout → Ids → ℕ → ℕ
weight m homes cpu = fold min 255 (map (distance m (node_of m cpu)) (members homes))

-- whatever the homes, these CPUs have one weight
abbrev pub HaveOneWeight : Layout → Ids → Type 0
HaveOneWeight m cpus = (homes : Ids) (a b : ℕ) → set.contains cpus a ≡ true → set.contains cpus b ≡ true → weight m homes a ≡ weight m homes b

-- a list of weights: at each node that of its CPUs, and behind the nodes the greatest distance
pub record AreWeights (m : Layout) (homes : Ids) (weights : List ℕ) : Type 0 where
  pub room : length weights ≡ NODE_LIMIT
  pub least : (i : ℕ) → i < node_count m → IsLeastDistance m homes i (slice_index_or weights i 255)
  pub each : (cpu : ℕ) → IsPresent m cpu → slice_index_or weights (node_of m cpu) 255 ≡ weight m homes cpu
  pub beyond : (i : ℕ) → node_count m ≤ i → slice_index_or weights i 255 ≡ 255
