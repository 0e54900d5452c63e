-- A container runtime as a plain value.
use Rattle.std.specs.Prelude.{ℕ, List, Option, refl}
use Rattle.std.specs.Coded.{Coded, code_by, coded×, coded_ℕ, coded_list, coded_option}
use Rattle.node.specs.NodeState.{NodeState, node_code}

-- the configs of all bundles by the bundles' names, if they are told
abbrev pub Told : Type 0
Told = Option (List (List ℕ × List ℕ))

abbrev pub told_code : Coded Told
told_code = coded_option (coded_list (coded× (coded_list coded_ℕ) (coded_list coded_ℕ)))

-- a runtime as a plain value: a node, and what is told of the bundles
pub record RuntimeState : Type 0 where
  pub node : NodeState
  pub told : Told

abbrev pub runtime_code : Coded RuntimeState
runtime_code =
    code_by
    (NodeState × Told)
    (coded× node_code told_code)
    (λ s. (s.node, s.told))
    (λ p. record { node = p.0; told = p.1 })
    (λ _. refl)
