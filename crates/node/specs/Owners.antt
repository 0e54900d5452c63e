-- Whose the groups below the containers' parent are.
use Rattle.std.specs.Prelude.{ℕ, Bool, true, false, List, map}
use Rattle.apply_plan.specs.Holders.{Holder}
use Rattle.demand.specs.declared.Kind.{Kind}
use Rattle.demand.specs.declared.Kind.TheVariants.{Pinned, Shared}
use Rattle.node.specs.NodeState.{ContainerState}

-- a container by its id, as far as the kernel's groups and processes go
pub record Owner : Type 0 where
  pub id : List ℕ
  pub holder : Holder

-- it has CPUs of its own
abbrev pub is_pinned : Kind → Bool
is_pinned (Pinned count) = true
is_pinned Shared = false

abbrev pub owner_of : List ℕ × ContainerState → Owner
owner_of e = record { id = e.0; holder = record { group = e.1.group; pid = e.1.pid; pinned = is_pinned e.1.demand.kind } }

abbrev pub owners_of : List (List ℕ × ContainerState) → List Owner
owners_of containers = map owner_of containers
