use Rattle.std.specs.Prelude.{◌≡◌, ℕ, ◌<◌, true, position, unwrap_or}
use Rattle.std.specs.FinSet as set
use Rattle.cpu_set.specs.Ids.{Ids}
use Rattle.cpu_set.specs.Those.{those}
use Rattle.machine.specs.Layout.{Layout, node_count, cpus_of}

-- the numbers of the nodes: those below their count
abbrev pub nodes_of : Layout → Ids
nodes_of m = those (λ _. true) (node_count m)

-- node i has the CPU
pub record IsOfNode (m : Layout) (cpu i : ℕ) : Type 0 where
  pub is_node : i < node_count m
  pub has_cpu : set.contains (cpus_of m i) cpu ≡ true

-- the node that has the CPU
abbrev pub node_of : Layout → ℕ → ℕ
node_of m cpu = unwrap_or (position (λ cpus. set.contains cpus cpu) m.nodes) 0
