-- The writing calls of the kernel that the calls of a node make, as the kernel's trace has them: the newest first.
use Rattle.std.specs.Prelude.{◌≡◌, ℕ, zero, suc, Bool, true, false, List, [], ◌∷◌, ◌++◌, Option, Some, None, Result, Ok, Err}
use Rattle.std.proofs.Common.{inl, inr}
use Rattle.faults.specs.declared.OrMemory.{OrMemory}
use Rattle.faults.specs.declared.OrMemory.TheVariants.{Memory, Fault}
use Rattle.cpu_set.specs.Ids.{Ids}
use Rattle.cpuset_tree.specs.declared.Group.{Group}
use Rattle.cpuset_tree.specs.Groups.{child_of}
use Rattle.kernel_model.specs.declared.KernelFault.{KernelFault}
use Rattle.kernel_model.specs.declared.KernelFault.TheVariants.{NoPids}
use Rattle.kernel_model.specs.Trace.{WritingCall, MadeGroup, RemovedGroup, WroteCpus, WroteMems, Spawned, EndedGroup}
use Rattle.kernel_model.specs.KernelState.{KernelState}
use Rattle.machine.specs.Layout.{Layout}
use Rattle.demand.specs.declared.Demand.{Demand as Asked}
use Rattle.apply_plan.specs.declared.Progress.{Progress}
use Rattle.apply_plan.specs.declared.scan.Write.{Write}
use Rattle.apply_plan.specs.DueWrite.{due, asks_for}
use Rattle.apply_plan.specs.Finishes as turn
use Rattle.apply_plan.specs.Targets.{Targets}
use Rattle.apply_plan.specs.DirectWrite.{due_directly}
use Rattle.direct_finish.specs.FinishesTold.{finish_told}
use Rattle.node.specs.declared.fault.NodeFault.{NodeFault}
use Rattle.node.specs.declared.fault.NodeFault.TheVariants.{Kernel}
use Rattle.node.specs.declared.order.Order.{Order}
use Rattle.node.specs.declared.order.Order.TheVariants.{InTurn, Directly}
use Rattle.node.specs.declared.outcome.Outcome.{Outcome}
use Rattle.node.specs.declared.outcome.Outcome.TheVariants.{Plan, Short}
use Rattle.node.specs.NodeState.{ContainerState, Ongoing, NodeState, container_of}
use Rattle.node.specs.LeastCores.{least_cores}
use Rattle.node.specs.Orders.{directed_of, WritesBy, MissesBy, FinishesBy}
use Rattle.node.specs.Launch.{AtOnce, WritesSets, StartsIn, Launches}
use Rattle.node.specs.Updates.{Rewrites, Updates, gives_way, moves_home}
use Rattle.node.specs.Calls.{Places}
use Rattle.node.specs.Rebalance.{Writes, Misses, Moves, Rebalances}
use Rattle.node.specs.Machine.{Event, Create, Adopt, Update, Start, Kill, Delete, Rebalance, Begin, StepOn, WriteOn, MissOn, Ask, Fork, Exit, Offline, Online, Step, Run}

-- a group is made where it is not there
abbrev pub found_told : Option Group → Group → List ℕ → Result Group (OrMemory KernelFault) → List WritingCall
found_told (Some g) parent name r = []
found_told None parent name r = MadeGroup parent name r ∷ []

-- its CPUs are written, and then its memory nodes; the first alone where it is refused
abbrev pub sets_told : (old : KernelState) (g : Group) (cpus mems : Ids) (r : Result (Unit {0}) KernelFault) (new : KernelState)
    → WritesSets old g cpus mems r new → List WritingCall
sets_told old g cpus mems r new (inl (fault, refused, is)) = WroteCpus g cpus (Err fault) ∷ []
sets_told old g cpus mems r new (inr (done, mid, first, second)) = WroteMems g mems r ∷ WroteCpus g cpus (Ok done) ∷ []

-- the same among calls that may want memory
abbrev pub sets_told_at_once : (old : KernelState) (g : Group) (cpus mems : Ids) (r : Result (Unit {0}) (OrMemory KernelFault)) (new : KernelState)
    → AtOnce (WritesSets old g cpus mems) r new → List WritingCall
sets_told_at_once old g cpus mems (Ok done) new sets = sets_told old g cpus mems (Ok done) new sets
sets_told_at_once old g cpus mems (Err Memory) new never = absurd never
sets_told_at_once old g cpus mems (Err (Fault fault)) new sets = sets_told old g cpus mems (Err fault) new sets

-- and where none is refused a first process is made in it
abbrev pub start_told : (old : KernelState) (g : Group) (cpus mems : Ids) (r : Result ℕ (OrMemory KernelFault)) (new : KernelState)
    → StartsIn old g cpus mems r new → List WritingCall
start_told old g cpus mems r new (inl (fault, refused, is)) = sets_told_at_once old g cpus mems (Err fault) new refused
start_told old g cpus mems r new (inr (done, mid, sets, spawns)) = Spawned g r ∷ sets_told_at_once old g cpus mems (Ok done) mid sets

-- all by which a container's group and first process are made
abbrev pub launch_told : (old : KernelState) (parent : Group) (name : List ℕ) (cpus mems : Ids) (r : Result (Group × ℕ) (OrMemory KernelFault))
    (new : KernelState)
    → Launches old parent name cpus mems r new → List WritingCall
launch_told old parent name cpus mems (Ok made) new (mid, found, starts) =
    start_told mid made.0 cpus mems (Ok made.1) new starts ++ found_told (child_of old.tree parent name) parent name (Ok made.0)
launch_told old parent name cpus mems (Err error) new (inl refused) = found_told (child_of old.tree parent name) parent name (Err error)
launch_told old parent name cpus mems (Err error) new (inr (g, mid, found, starts)) =
    start_told mid g cpus mems (Err error) new starts ++ found_told (child_of old.tree parent name) parent name (Ok g)

-- `create` and `adopt`, on these CPUs; none if it is refused before the kernel is called
abbrev pub place_told : (cpus : Ids) (old : NodeState) (id bundle config : List ℕ) (r : Result ℕ (OrMemory NodeFault)) (new : NodeState)
    → Places cpus old id bundle config r new → List WritingCall
place_told cpus old id bundle config (Ok pid) new c =
    launch_told old.kernel old.parent id cpus c.asked.homes (Ok (c.group, pid)) new.kernel c.launched
place_told cpus old id bundle config (Err Memory) new (inl n) = launch_told old.kernel old.parent id cpus n.asked.homes (Err Memory) new.kernel n.refused
place_told cpus old id bundle config (Err Memory) new (inr same) = []
place_told cpus old id bundle config (Err (Fault (Kernel NoPids))) new same = []
place_told cpus old id bundle config (Err (Fault (Kernel fault))) new n =
    launch_told old.kernel old.parent id cpus n.asked.homes (Err (Fault fault)) new.kernel n.refused
place_told cpus old id bundle config (Err (Fault fault)) new same = []

-- a call that is made, or not
abbrev pub if_made : Bool → WritingCall → List WritingCall
if_made true call = call ∷ []
if_made false call = []

-- the writes of an `update`, where they are made
abbrev pub rewrites_told : (old : KernelState) (reserved : Ids) (c : ContainerState) (asked : Asked) (r : Result (Unit {0}) KernelFault) (new : KernelState)
    → Rewrites old reserved c asked r new → List WritingCall
rewrites_told old reserved c asked r new (inl (fault, refused, is)) = if_made (gives_way old reserved c asked) (WroteCpus c.group reserved (Err fault))
rewrites_told old reserved c asked r new (inr (done, mid, first, second)) =
    if_made (moves_home c.demand asked) (WroteMems c.group asked.homes r) ++ if_made (gives_way old reserved c asked) (WroteCpus c.group reserved (Ok done))

-- `update`; none if it is refused before the kernel is called
abbrev pub update_told : (old : NodeState) (id bundle config : List ℕ) (r : Result (Unit {0}) (OrMemory NodeFault)) (new : NodeState)
    → Updates old id bundle config r new → List WritingCall
update_told old id bundle config (Ok done) new u = rewrites_told old.kernel old.machine.reserved u.container u.asked (Ok tt) new.kernel u.rewrites
update_told old id bundle config (Err Memory) new same = []
update_told old id bundle config (Err (Fault (Kernel fault))) new u =
    rewrites_told old.kernel old.machine.reserved u.1.container u.1.asked (Err fault) new.kernel u.1.rewrites
update_told old id bundle config (Err (Fault fault)) new same = []

-- one call for a container's group, if it is done or the kernel refused it, and none if it is refused before
abbrev pub group_told : (Group → Result (Unit {0}) KernelFault → WritingCall) → Result (Unit {0}) NodeFault → Option ContainerState → List WritingCall
group_told call (Ok done) (Some c) = call c.group (Ok done) ∷ []
group_told call (Ok done) None = []
group_told call (Err (Kernel fault)) (Some c) = call c.group (Err fault) ∷ []
group_told call (Err (Kernel fault)) None = []
group_told call (Err fault) c = []

-- `kill`
abbrev pub kill_told : NodeState → List ℕ → Result (Unit {0}) NodeFault → List WritingCall
kill_told old id r = group_told EndedGroup r (container_of old id)

-- `delete`
abbrev pub delete_told : NodeState → List ℕ → Result (Unit {0}) NodeFault → List WritingCall
delete_told old id r = group_told RemovedGroup r (container_of old id)

-- the write that is due in a hand-over, in its order
abbrev pub due_by : Order → Layout → Ongoing → KernelState → Option Write
due_by InTurn m o k = due o.targets k
due_by Directly m o k = due_directly (directed_of o) (least_cores m) k

-- a step makes the write that is due, if one is; none if no hand-over is open
abbrev pub stepped_told : Layout → KernelState → Result Progress NodeFault → Option Ongoing → List WritingCall
stepped_told m k (Ok progress) (Some o) = asks_for (due_by o.order m o k) (Ok tt)
stepped_told m k (Ok progress) None = []
stepped_told m k (Err (Kernel fault)) (Some o) = asks_for (due_by o.order m o k) (Err fault)
stepped_told m k (Err (Kernel fault)) None = []
stepped_told m k (Err fault) o = []

-- `step`
abbrev pub step_told : NodeState → Result Progress NodeFault → List WritingCall
step_told old r = stepped_told old.machine old.kernel r old.ongoing

-- one of the writes that a rebalance makes: in turn the one that is due, directly the one that it is
abbrev pub write_told_by : (order : Order) (m : Layout) (o : Ongoing) (old new : KernelState) → WritesBy order m o old new → List WritingCall
write_told_by InTurn m o old new s = asks_for (due o.targets old) (Ok tt)
write_told_by Directly m o old new s = asks_for (Some s.0) (Ok tt)

-- the same of a node
abbrev pub write_told : (old new : NodeState) → Writes old new → List WritingCall
write_told old new s = write_told_by s.handover.order old.machine s.handover old.kernel new.kernel s.writes

-- one that fails
abbrev pub miss_told_by : (order : Order) (m : Layout) (o : Ongoing) (old : KernelState) (fault : KernelFault) (new : KernelState)
    → MissesBy order m o old fault new → List WritingCall
miss_told_by InTurn m o old fault new s = asks_for (due o.targets old) (Err fault)
miss_told_by Directly m o old fault new s = asks_for (Some s.1.0) (Err fault)

-- the same of a node
abbrev pub miss_told : (old : NodeState) (fault : KernelFault) (new : NodeState) → Misses old fault new → List WritingCall
miss_told old fault new s = miss_told_by s.handover.order old.machine s.handover old.kernel fault new.kernel s.misses

-- steps in turn after which more are to come
abbrev pub turns_told : (h : Targets) (count : ℕ) (old new : KernelState) → turn.StepsMore h count old new → List WritingCall
turns_told h zero old new same = []
turns_told h (suc count) old new (mid, step, more) = turns_told h count mid new more ++ asks_for (due h old) (Ok tt)

-- all writes of a hand-over that are made at once
abbrev pub finish_told_by : (order : Order) (m : Layout) (o : Ongoing) (old : KernelState) (r : Result (Unit {0}) KernelFault) (new : KernelState)
    → FinishesBy order m o old r new → List WritingCall
finish_told_by InTurn m o old r new f = asks_for (due o.targets f.mid) r ++ turns_told o.targets f.steps old f.mid f.more
finish_told_by Directly m o old r new f = finish_told (directed_of o) (least_cores m) old r new f

-- the writes of a hand-over from its beginning to its end
abbrev pub moves_told : (order : Order) (old : NodeState) (total : ℕ) (r : Result (Unit {0}) KernelFault) (new : NodeState)
    → Moves order old total r new → List WritingCall
moves_told order old total r new m =
    let f = m.finishes in finish_told_by f.handover.order m.mid.machine f.handover m.mid.kernel r new.kernel f.makes

-- `rebalance`, in this order
abbrev pub rebalance_told : (order : Order) (old : NodeState) (r : Result Outcome (OrMemory NodeFault)) (new : NodeState) → Rebalances order old r new → List WritingCall
rebalance_told order old (Ok (Plan total)) new m = moves_told order old total (Ok tt) new m
rebalance_told order old (Ok (Short wanted allowed)) new lacks = []
rebalance_told order old (Err Memory) new same = []
rebalance_told order old (Err (Fault (Kernel fault))) new m = moves_told order old m.0 (Err fault) new m.1
rebalance_told order old (Err (Fault fault)) new same = []

-- each call of a node; an event of the kernel makes none
abbrev pub event_told : (old : NodeState) (event : Event) (new : NodeState) → Step old event new → List WritingCall
event_told old (Create id bundle config r) new c = place_told old.machine.reserved old id bundle config r new c
event_told old (Adopt id bundle config cpus r) new c = place_told cpus old id bundle config r new c
event_told old (Update id bundle config r) new u = update_told old id bundle config r new u
event_told old (Start id r) new s = []
event_told old (Kill id signal r) new k = kill_told old id r
event_told old (Delete id r) new d = delete_told old id r
event_told old (Rebalance order r) new m = rebalance_told order old r new m
event_told old (Begin order r) new b = []
event_told old (StepOn r) new s = step_told old r
event_told old WriteOn new s = write_told old new s
event_told old (MissOn fault) new s = miss_told old fault new s
event_told old (Ask question) new a = []
event_told old (Fork parent r) new f = []
event_told old (Exit pid r) new e = []
event_told old (Offline cpu r) new o = []
event_told old (Online cpu r) new o = []

-- a list of calls and events
abbrev pub run_told : (old : NodeState) (events : List Event) (new : NodeState) → Run old events new → List WritingCall
run_told old [] new same = []
run_told old (event ∷ later) new (mid, step, rest) = run_told mid later new rest ++ event_told old event mid step

-- whatever a call of a node answers, the kernel was asked for just these since, in their order
abbrev pub EventsAreTold : Type 0
EventsAreTold = (old : NodeState) (event : Event) (new : NodeState) (step : Step old event new)
    → new.kernel.trace ≡ event_told old event new step ++ old.kernel.trace

-- and of any list of calls and events it was asked for just those of each, one after another
abbrev pub RunsAreTold : Type 0
RunsAreTold = (old : NodeState) (events : List Event) (new : NodeState) (run : Run old events new)
    → new.kernel.trace ≡ run_told old events new run ++ old.kernel.trace
