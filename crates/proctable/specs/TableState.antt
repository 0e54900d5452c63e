-- The live processes as a plain value.
use Rattle.std.specs.Prelude.{ℕ, List, refl}
use Rattle.std.specs.Coded.{Coded, code_by, coded×, coded_ℕ, coded_list}
use Rattle.cpuset_tree.specs.TreeState.{group_code}
use Rattle.cpuset_tree.specs.declared.Group.{Group}
use Rattle.proctable.specs.declared.processes.Process.{Process}

-- the live processes by rising pid, and the pid that the next one gets
pub record TableState : Type 0 where
  pub live : List Process
  pub next_pid : ℕ

-- a process is stored as the tuple of its fields
abbrev pub process_code : Coded Process
process_code =
    code_by
    (ℕ × (Group × ℕ))
    (coded× coded_ℕ (coded× group_code coded_ℕ))
    (λ p. (p.pid, (p.group, p.first)))
    (λ t. record { pid = t.0; group = t.1.0; first = t.1.1 })
    (λ _. refl)

-- a table is stored as the pair of its fields
abbrev pub table_code : Coded TableState
table_code =
    code_by (List Process × ℕ) (coded× (coded_list process_code) coded_ℕ) (λ t. (t.live, t.next_pid)) (λ p. record { live = p.0; next_pid = p.1 }) (λ _. refl)
