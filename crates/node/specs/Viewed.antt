-- The containers as the node keeps them, as plain values.
use Rattle.std.specs.Prelude.{ℕ, List, [], map, String, string_bytes}
use Rattle.std.specs.declared.alloc.Global.{Global}
use Rattle.cpu_set.specs.Ids.{Ids}
use Rattle.node.specs.declared.container.Container.{Container}
use Rattle.node.specs.declared.course.Course.{Course}
use Rattle.node.specs.declared.course.Course.TheVariants as course
use Rattle.node.specs.declared.ongoing.Ongoing.{Ongoing as Kept}
use Rattle.node.specs.declared.order.Order.{Order}
use Rattle.node.specs.declared.order.Order.TheVariants.{InTurn, Directly}
use Rattle.apply_plan.specs.Targets.{Targets}
use Rattle.node.specs.NodeState.{ContainerState, Ongoing}

-- a container of the code as a plain value
abbrev pub viewed : Container → ContainerState
viewed c = record { bundle = string_bytes c.bundle; demand = c.demand; runnable = c.runnable; group = c.group; pid = c.pid; started = c.started }

abbrev pub entry_seen : String Global × Container → List ℕ × ContainerState
entry_seen e = (string_bytes e.0, viewed e.1)

-- the containers of the code as plain values
abbrev pub all_seen : List (String Global × Container) → List (List ℕ × ContainerState)
all_seen entries = map entry_seen entries

-- the containers of a hand-over with what they are to have
abbrev pub targets_seen : Course → Targets
targets_seen (course.InTurn h) = h
targets_seen (course.Directly d agenda) = d.targets

-- its order
abbrev pub order_seen : Course → Order
order_seen (course.InTurn h) = InTurn
order_seen (course.Directly d agenda) = Directly

-- what each of its containers is allowed, where the order asks for it
abbrev pub allowed_seen : Course → List Ids
allowed_seen (course.InTurn h) = []
allowed_seen (course.Directly d agenda) = d.allowed

-- a hand-over as a plain value, whose groups requested these sets at first
abbrev pub seen_by : Course → List Ids → Ongoing
seen_by c found = record { targets = targets_seen c; requested_at_begin = found; order = order_seen c; allowed = allowed_seen c }

-- and one that is open
abbrev pub seen_ongoing : Kept → Ongoing
seen_ongoing o = seen_by o.course o.requested_at_begin.items
