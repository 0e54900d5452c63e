-- What a plan gives to each live container.
use Rattle.std.specs.Prelude.{ℕ, cond, List, [], ◌∷◌, drop, filter, fold, map, slice_index_or}
use Rattle.std.specs.FinSet as set
use Rattle.cpu_set.specs.Ids.{Ids}
use Rattle.kernel_model.specs.KernelState.{KernelState}
use Rattle.apply_plan.specs.declared.Entry.{Entry}
use Rattle.apply_plan.specs.DueWrite.{held}
use Rattle.node.specs.declared.order.Order.{Order}
use Rattle.node.specs.declared.order.Order.TheVariants.{InTurn, Directly}
use Rattle.node.specs.NodeState.{ContainerState, Ongoing, NodeState}
use Rattle.node.specs.Owners.{is_pinned}
use Rattle.node.specs.Status.{is_live}

-- the online CPUs that no set of the plan has
abbrev pub pool_of : Ids → List Ids → Ids
pool_of online sets = fold set.difference online sets

-- a container with what it is to have
abbrev pub Target : Type 0
Target = (List ℕ × ContainerState) × Ids

-- what a plan gives each live container, in the order of creation. A pinned one gets the next set of the plan, and a shared
-- one the pool.
abbrev pub targets_in : KernelState → Ids → List (List ℕ × ContainerState) → List Ids → List Target
targets_in k pool [] sets = []
targets_in k pool (e ∷ later) sets =
    cond (is_live k e.1)
    (cond (is_pinned e.1.demand.kind)
    ((e, slice_index_or sets 0 set.empty) ∷ targets_in k pool later (drop 1 sets))
    ((e, pool) ∷ targets_in k pool later sets))
    (targets_in k pool later sets)

abbrev pub entry_of : Target → Entry
entry_of p = record { group = p.0.1.group; pid = p.0.1.pid; pinned = is_pinned p.0.1.demand.kind; target = p.1 }

abbrev pub entries_in : KernelState → Ids → List (List ℕ × ContainerState) → List Ids → List Entry
entries_in k pool containers sets = map entry_of (targets_in k pool containers sets)

-- the pool of these sets, the containers with what they get, and the hand-over to it, with what each group requests now
abbrev pub plan_pool : NodeState → List Ids → Ids
plan_pool n sets = pool_of n.kernel.tree.online sets

abbrev pub plan_targets : NodeState → List Ids → List Target
plan_targets n sets = targets_in n.kernel (plan_pool n sets) n.containers sets

abbrev pub plan_entries : NodeState → List Ids → List Entry
plan_entries n sets = entries_in n.kernel (plan_pool n sets) n.containers sets

-- what each live container is allowed, in the order of creation
abbrev pub allowed_in : KernelState → List (List ℕ × ContainerState) → List Ids
allowed_in k containers = map (λ e. e.1.demand.allowed) (filter (λ e. is_live k e.1) containers)

-- the same, where the order asks for it
abbrev pub allowed_by : Order → NodeState → List Ids
allowed_by InTurn n = []
allowed_by Directly n = allowed_in n.kernel n.containers

-- the hand-over to a plan in this order, with what each group requests when it begins
abbrev pub opened : Order → NodeState → List Ids → Ongoing
opened order n sets = record {
  targets = record { entries = plan_entries n sets; reserved = n.machine.reserved };
  requested_at_begin = map (held n.kernel) (plan_entries n sets);
  order = order;
  allowed = allowed_by order n;
}
