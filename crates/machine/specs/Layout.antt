use Rattle.std.specs.Prelude.{ℕ, ◌+◌, ◌*◌, List, length, slice_index, slice_index_or, refl}
use Rattle.std.specs.Coded.{Coded, code_by, coded×, coded_list, coded_ℕ}
use Rattle.std.specs.FinSet as set
use Rattle.cpu_set.specs.Ids.{Ids, ids_code}

-- a machine: the CPUs of each node, node 0 first; the distances between the nodes by rows; the reserved CPUs; those online at boot; for each CPU number
-- the lowest CPU of its core; and how many CPUs each core has
pub record Layout : Type 0 where
  pub nodes : List Ids
  pub distances : List ℕ
  pub reserved : Ids
  pub online : Ids
  pub lowest : List ℕ
  pub threads : ℕ

-- how many nodes there are
abbrev pub node_count : Layout → ℕ
node_count m = length m.nodes

-- the CPUs of node i
abbrev pub cpus_of : Layout → ℕ → Ids
cpus_of m i = slice_index_or m.nodes i set.empty

-- the distance from node i to node j: the entry in row i and column j
abbrev pub distance : Layout → ℕ → ℕ → ℕ
distance m i j = slice_index m.distances (i * node_count m + j)

-- a machine is stored as its six parts
abbrev pub layout_code : Coded Layout
layout_code =
    code_by (List Ids × (List ℕ × (Ids × (Ids × (List ℕ × ℕ)))))
    (coded× (coded_list ids_code) (coded× (coded_list coded_ℕ) (coded× ids_code (coded× ids_code (coded× (coded_list coded_ℕ) coded_ℕ)))))
    (λ m. (m.nodes, (m.distances, (m.reserved, (m.online, (m.lowest, m.threads))))))
    (λ p. record { nodes = p.0; distances = p.1.0; reserved = p.1.1.0; online = p.1.1.1.0; lowest = p.1.1.1.1.0; threads = p.1.1.1.1.1 })
    (λ _. refl)
