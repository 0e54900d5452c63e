-- The groups of a cpuset tree as a plain value.
-- From: cgroup v2, cpuset.
use Rattle.std.specs.Prelude.{ℕ, List, Option, refl}
use Rattle.std.specs.Coded.{Coded, code_by, coded×, coded_ℕ, coded_list, coded_option}
use Rattle.cpu_set.specs.Ids.{Ids, ids_code}
use Rattle.cpuset_tree.specs.declared.groups.Group.{Group}

-- a group, with the CPUs and memory nodes that it requests; the root has no parent
pub record GroupEntry : Type 0 where
  pub group : Group
  pub parent : Option Group
  pub name : List ℕ
  pub cpus : Ids
  pub mems : Ids

-- the groups, the newest first, so that a parent stands behind its children and the root last; the CPUs that are online,
-- the memory nodes, and the serial that the next group gets
pub record TreeState : Type 0 where
  pub groups : List GroupEntry
  pub online : Ids
  pub nodes : Ids
  pub next_serial : ℕ

-- a group is stored as the pair of its fields
abbrev pub group_code : Coded Group
group_code = code_by (ℕ × ℕ) (coded× coded_ℕ coded_ℕ) (λ g. (g.key, g.serial)) (λ p. record { key = p.0; serial = p.1 }) (λ _. refl)

-- an entry is stored as the tuple of its fields
abbrev pub entry_code : Coded GroupEntry
entry_code =
    code_by
    (Group × (Option Group × (List ℕ × (Ids × Ids))))
    (coded× group_code (coded× (coded_option group_code) (coded× (coded_list coded_ℕ) (coded× ids_code ids_code))))
    (λ e. (e.group, (e.parent, (e.name, (e.cpus, e.mems)))))
    (λ p. record { group = p.0; parent = p.1.0; name = p.1.1.0; cpus = p.1.1.1.0; mems = p.1.1.1.1 })
    (λ _. refl)

-- a tree is stored as the tuple of its fields
abbrev pub tree_code : Coded TreeState
tree_code =
    code_by
    (List GroupEntry × (Ids × (Ids × ℕ)))
    (coded× (coded_list entry_code) (coded× ids_code (coded× ids_code coded_ℕ)))
    (λ s. (s.groups, (s.online, (s.nodes, s.next_serial))))
    (λ p. record { groups = p.0; online = p.1.0; nodes = p.1.1.0; next_serial = p.1.1.1 })
    (λ _. refl)
