-- A node as a plain value: what each of its calls answers and changes.
use Rattle.std.proofs.Common.{inl, inr}
use Rattle.std.specs.Prelude.{◌≡◌, ◌⊎◌, ℕ, Bool, true, false, List, Option, Some, None, refl}
use Rattle.std.specs.Coded.{Coded, code_by, coded×, coded⊎, coded_ℕ, coded_bool, coded_list, coded_option}
use Rattle.std.specs.Map.{lookup}
use Rattle.std.specs.Str.{bytes_eq}
use Rattle.cpu_set.specs.Ids.{Ids, ids_code}
use Rattle.cpuset_tree.specs.declared.Group.{Group}
use Rattle.cpuset_tree.specs.TreeState.{group_code}
use Rattle.kernel_model.specs.KernelState.{KernelState, kernel_code}
use Rattle.machine.specs.Layout.{Layout, layout_code}
use Rattle.demand.specs.declared.Kind.{Kind}
use Rattle.demand.specs.declared.Kind.TheVariants.{Pinned, Shared}
use Rattle.demand.specs.declared.Demand.{Demand}
use Rattle.certificate.specs.RowView.{RowView, rows_code}
use Rattle.certificate.specs.PricesView.{PricesView, prices_code}
use Rattle.certificate.specs.SetsCode.{sets_code}
use Rattle.certificate.specs.WeightsCode.{weights_code}
use Rattle.certificate.specs.declared.weights.Weights.{Weights}
use Rattle.certificate.specs.declared.certificates.Certificate.{Certificate}
use Rattle.certificate.specs.declared.certificates.Certificate.TheVariants.{Plan, Short}
use Rattle.apply_plan.specs.Targets.{Targets, targets_code}
use Rattle.node.specs.declared.order.Order.{Order}
use Rattle.node.specs.declared.order.Order.TheVariants.{InTurn, Directly}
use Rattle.node.specs.declared.phase.Phase.{Phase}
use Rattle.node.specs.declared.phase.Phase.TheVariants.{Settled, Underway, Unsettled}

-- a container: its bundle, what it asks for, whether it can be started, its group, its first process, and whether it was
-- started
pub record ContainerState : Type 0 where
  pub bundle : List ℕ
  pub demand : Demand
  pub runnable : Bool
  pub group : Group
  pub pid : ℕ
  pub started : Bool

-- a hand-over that is open: its containers with what they are to have, what each of their groups requested at first, and its
-- order; in the direct order also what each container is allowed, where it may run on its way
pub record Ongoing : Type 0 where
  pub targets : Targets
  pub requested_at_begin : List Ids
  pub order : Order
  pub allowed : List Ids

-- a node as a plain value: the kernel and the machine, and the group below which the containers' groups are. The containers
-- by their ids, in the order of creation. The pool: the CPUs that no plan gave to a container. The phase of the last
-- hand-over, and itself while it is open, with what each group requested when it began. The last certificate.
pub record NodeState : Type 0 where
  pub kernel : KernelState
  pub machine : Layout
  pub parent : Group
  pub containers : List (List ℕ × ContainerState)
  pub pool : Ids
  pub phase : Phase
  pub ongoing : Option Ongoing
  pub last : Option Certificate

-- the container of this id, if there is one
abbrev pub container_of : NodeState → List ℕ → Option ContainerState
container_of n id = lookup (bytes_eq id) n.containers

-- a hand-over is open
abbrev pub is_underway : Phase → Bool
is_underway Underway = true
is_underway phase = false

-- how many CPUs of its own, if any
abbrev pub count_of : Kind → Option ℕ
count_of (Pinned count) = Some count
count_of Shared = None

abbrev pub kind_of : Option ℕ → Kind
kind_of (Some count) = Pinned count
kind_of None = Shared

pub kind_of_count : (kind : Kind) → kind_of (count_of kind) ≡ kind
kind_of_count (Pinned count) = refl
kind_of_count Shared = refl

-- a demand is stored as the tuple of its fields
abbrev pub demand_code : Coded Demand
demand_code =
    code_by
    (Option ℕ × (Ids × Ids))
    (coded× (coded_option coded_ℕ) (coded× ids_code ids_code))
    (λ d. (count_of d.kind, (d.allowed, d.homes)))
    (λ p. record { kind = kind_of p.0; allowed = p.1.0; homes = p.1.1 })
    demand_back where
      demand_back : (d : Demand) → record { kind = kind_of (count_of d.kind); allowed = d.allowed; homes = d.homes } ≡ d
      demand_back d = rw (kind_of_count d.kind) refl

-- a phase is stored as one of three
abbrev pub of_phase : Phase → Option Bool
of_phase Settled = None
of_phase Underway = Some false
of_phase Unsettled = Some true

abbrev pub to_phase : Option Bool → Phase
to_phase None = Settled
to_phase (Some false) = Underway
to_phase (Some true) = Unsettled

pub to_of_phase : (phase : Phase) → to_phase (of_phase phase) ≡ phase
to_of_phase Settled = refl
to_of_phase Underway = refl
to_of_phase Unsettled = refl

abbrev pub phase_code : Coded Phase
phase_code = code_by (Option Bool) (coded_option coded_bool) of_phase to_phase to_of_phase

-- a container is stored as the tuple of its fields
abbrev pub container_code : Coded ContainerState
container_code =
    code_by
    (List ℕ × (Demand × (Bool × (Group × (ℕ × Bool)))))
    (coded× (coded_list coded_ℕ) (coded× demand_code (coded× coded_bool (coded× group_code (coded× coded_ℕ coded_bool)))))
    (λ c. (c.bundle, (c.demand, (c.runnable, (c.group, (c.pid, c.started))))))
    (λ p. record { bundle = p.0; demand = p.1.0; runnable = p.1.1.0; group = p.1.1.1.0; pid = p.1.1.1.1.0; started = p.1.1.1.1.1 })
    (λ _. refl)

-- an order is stored as one of two
abbrev pub is_direct : Order → Bool
is_direct InTurn = false
is_direct Directly = true

-- and read back
abbrev pub to_order : Bool → Order
to_order false = InTurn
to_order true = Directly

pub to_is_direct : (order : Order) → to_order (is_direct order) ≡ order
to_is_direct InTurn = refl
to_is_direct Directly = refl

-- a hand-over is stored as the tuple of its fields
abbrev pub ongoing_code : Coded Ongoing
ongoing_code =
    code_by
    (Targets × (List Ids × (Bool × List Ids)))
    (coded× targets_code (coded× sets_code (coded× coded_bool sets_code)))
    (λ o. (o.targets, (o.requested_at_begin, (is_direct o.order, o.allowed))))
    (λ p. record { targets = p.0; requested_at_begin = p.1.0; order = to_order p.1.1.0; allowed = p.1.1.1 })
    ongoing_back where
      ongoing_back : (o : Ongoing) → record { targets = o.targets; requested_at_begin = o.requested_at_begin; order = to_order (is_direct o.order); allowed = o.allowed } ≡ o
      ongoing_back o = rw (to_is_direct o.order) refl

-- a certificate is stored as one of the two tuples of what it holds
abbrev pub Held : Type 0
Held = (List RowView × (List Ids × (PricesView × (ℕ × Weights)))) ⊎ (List RowView × (List ℕ × Weights))

abbrev pub of_certificate : Certificate → Held
of_certificate (Plan rows sets prices total weights) = inl (rows, (sets, (prices, (total, weights))))
of_certificate (Short rows members weights) = inr (rows, (members, weights))

abbrev pub to_certificate : Held → Certificate
to_certificate (inl p) = Plan p.0 p.1.0 p.1.1.0 p.1.1.1.0 p.1.1.1.1
to_certificate (inr p) = Short p.0 p.1.0 p.1.1

pub to_of_certificate : (c : Certificate) → to_certificate (of_certificate c) ≡ c
to_of_certificate (Plan rows sets prices total weights) = refl
to_of_certificate (Short rows members weights) = refl

abbrev pub certificate_code : Coded Certificate
certificate_code =
    code_by Held (coded⊎ (coded× rows_code (coded× sets_code (coded× prices_code (coded× coded_ℕ weights_code)))) (coded× rows_code (coded× (coded_list coded_ℕ) weights_code))) of_certificate to_certificate to_of_certificate

-- a node is stored as the tuple of its fields
abbrev pub node_code : Coded NodeState
node_code =
    code_by
    (KernelState × (Layout × (Group × (List (List ℕ × ContainerState) × (Ids × (Phase × (Option Ongoing × Option Certificate)))))))
    (coded× kernel_code (coded× layout_code (coded× group_code (coded× (coded_list (coded× (coded_list coded_ℕ) container_code)) (coded× ids_code (coded× phase_code (coded× (coded_option ongoing_code) (coded_option certificate_code))))))))
    (λ n. (n.kernel, (n.machine, (n.parent, (n.containers, (n.pool, (n.phase, (n.ongoing, n.last))))))))
    (λ p. record {
      kernel = p.0;
      machine = p.1.0;
      parent = p.1.1.0;
      containers = p.1.1.1.0;
      pool = p.1.1.1.1.0;
      phase = p.1.1.1.1.1.0;
      ongoing = p.1.1.1.1.1.1.0;
      last = p.1.1.1.1.1.1.1;
    })
    (λ _. refl)
