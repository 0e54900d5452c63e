-- A runtime beside strangers, as a plain value.
use Rattle.std.specs.Prelude.{List, refl}
use Rattle.std.specs.Coded.{Coded, code_by, coded×, coded_ℕ, coded_list}
use Rattle.cpu_set.specs.Ids.{ids_code}
use Rattle.cgroup_tree.specs.Asked.{Stranger}
use Rattle.runtime.specs.RuntimeState.{RuntimeState, runtime_code}

-- a runtime, and the strangers: folders of a run before that are no container's, each with the CPUs that its file held
pub record GuardState : Type 0 where
  pub runtime : RuntimeState
  pub strangers : List Stranger

-- it is stored as the pair of its fields
abbrev pub guard_code : Coded GuardState
guard_code =
    code_by
    (RuntimeState × List Stranger)
    (coded× runtime_code (coded_list (coded× (coded_list coded_ℕ) ids_code)))
    (λ g. (g.runtime, g.strangers))
    (λ p. record { runtime = p.0; strangers = p.1 })
    (λ _. refl)
