-- The kernel was asked for just what the calls of a node name.
use Rattle.std.proofs.Common.{◌≡◌, inl, inr, ℕ, zero, suc, Bool, true, false, List, [], ◌∷◌, ◌++◌, refl, sym, ap, ◌∙◌}
use Rattle.std.proofs.lemmas.List.{append_assoc}
use Rattle.std.specs.Prelude.{Option, Some, None, Result, Ok, Err}
use Rattle.faults.specs.declared.OrMemory.{OrMemory}
use Rattle.faults.specs.declared.OrMemory.TheVariants.{Memory, Fault}
use Rattle.cpu_set.specs.Ids.{Ids}
use Rattle.cpuset_tree.specs.declared.Group.{Group}
use Rattle.cpuset_tree.specs.Groups.{child_of}
use Rattle.kernel_model.specs.declared.KernelFault.{KernelFault}
use Rattle.kernel_model.specs.declared.KernelFault.TheVariants.{NoPids}
use Rattle.kernel_model.specs.Trace.{WritingCall, MadeGroup, RemovedGroup, WroteCpus, WroteMems, Spawned, EndedGroup}
use Rattle.kernel_model.specs.KernelState.{KernelState}
use Rattle.kernel_model.specs.Cases.{WritesCpus, WritesMems}
use Rattle.kernel_model.specs.KernelLemmas.{tells_each_write, events_keep_groups}
use Rattle.machine.specs.Layout.{Layout}
use Rattle.demand.specs.declared.Demand.{Demand as Asked}
use Rattle.apply_plan.specs.declared.Progress.{Progress}
use Rattle.apply_plan.specs.declared.Progress.TheVariants.{More, Done}
use Rattle.apply_plan.specs.declared.scan.Write.{Write}
use Rattle.apply_plan.specs.DueWrite.{due, asks_for, written}
use Rattle.apply_plan.specs.Finishes as turn
use Rattle.apply_plan.specs.Targets.{Targets}
use Rattle.apply_plan.specs.DirectWrite.{due_directly}
use Rattle.direct_finish.specs.FinishesToldLemmas.{finishes_are_told}
use Rattle.node.specs.declared.fault.NodeFault.{NodeFault}
use Rattle.node.specs.declared.fault.NodeFault.TheVariants.{Busy, NoHandover, Kernel}
use Rattle.node.specs.declared.order.Order.{Order}
use Rattle.node.specs.declared.order.Order.TheVariants.{InTurn, Directly}
use Rattle.node.specs.declared.outcome.Outcome.{Outcome}
use Rattle.node.specs.declared.outcome.Outcome.TheVariants.{Plan, Short}
use Rattle.node.specs.declared.phase.Phase.{Phase}
use Rattle.node.specs.NodeState.{ContainerState, Ongoing, NodeState}
use Rattle.node.specs.LeastCores.{least_cores}
use Rattle.node.specs.Orders.{directed_of, StepsBy, WritesBy, MissesBy, FinishesBy}
use Rattle.node.specs.Launch.{FindsOr, AtOnce, WritesSets, StartsIn, Launches}
use Rattle.node.specs.Updates.{MadeIf, Rewrites, Updates, gives_way, moves_home}
use Rattle.node.specs.Calls.{Places, Starts, Kills, Deletes}
use Rattle.node.specs.Rebalance.{Begins, Stepped, StepsOn, Writes, Misses, Moves, Rebalances}
use Rattle.node.specs.Machine.{Create, Adopt, Update, Start, Kill, Delete, Rebalance, Begin, StepOn, WriteOn, MissOn, Ask, Fork, Exit, Offline, Online}
use Rattle.node.specs.Told.{found_told, sets_told, sets_told_at_once, start_told, launch_told, place_told, if_made, rewrites_told, update_told, group_told, kill_told, delete_told, due_by, stepped_told, step_told, write_told_by, write_told, miss_told_by, miss_told, turns_told, finish_told_by, moves_told, rebalance_told, event_told, run_told, EventsAreTold, RunsAreTold}

abbrev Trace : Type 0
Trace = List WritingCall

abbrev trace_of : KernelState → Trace
trace_of k = k.trace

abbrev trace_in : NodeState → Trace
trace_in n = n.kernel.trace

-- calls after calls
told_then : (later earlier new mid old : Trace) → new ≡ later ++ mid → mid ≡ earlier ++ old → new ≡ (later ++ earlier) ++ old
told_then later earlier new mid old a b = a ∙ ap (λ (t : Trace). later ++ t) b ∙ sym (append_assoc later earlier old)

-- ---- create, adopt and update

found_is_told : (o : Option Group) (old : KernelState) (parent : Group) (name : List ℕ) (r : Result Group (OrMemory KernelFault)) (new : KernelState)
    → FindsOr o old parent name r new → new.trace ≡ found_told o parent name r ++ old.trace
found_is_told (Some g) old parent name r new f = ap trace_of f.1
found_is_told None old parent name r new f = tells_each_write old (MadeGroup parent name r) new f

module _ (g : Group) (cpus mems : Ids) where
  sets_is_told : (old : KernelState) (r : Result (Unit {0}) KernelFault) (new : KernelState) (s : WritesSets old g cpus mems r new)
      → new.trace ≡ sets_told old g cpus mems r new s ++ old.trace
  sets_is_told old r new (inl (fault, refused, is)) = tells_each_write old (WroteCpus g cpus (Err fault)) new refused
  sets_is_told old r new (inr (done, mid, first, second)) =
      tells_each_write mid (WroteMems g mems r) new second ∙ ap (λ (t : Trace). WroteMems g mems r ∷ t) (tells_each_write old (WroteCpus g cpus (Ok done)) mid first)

  sets_at_once_is_told : (old : KernelState) (r : Result (Unit {0}) (OrMemory KernelFault)) (new : KernelState) (s : AtOnce (WritesSets old g cpus mems) r new)
      → new.trace ≡ sets_told_at_once old g cpus mems r new s ++ old.trace
  sets_at_once_is_told old (Ok done) new s = sets_is_told old (Ok done) new s
  sets_at_once_is_told old (Err Memory) new s = absurd s
  sets_at_once_is_told old (Err (Fault fault)) new s = sets_is_told old (Err fault) new s

  start_is_told : (old : KernelState) (r : Result ℕ (OrMemory KernelFault)) (new : KernelState) (s : StartsIn old g cpus mems r new)
      → new.trace ≡ start_told old g cpus mems r new s ++ old.trace
  start_is_told old r new (inl (fault, refused, is)) = sets_at_once_is_told old (Err fault) new refused
  start_is_told old r new (inr (done, mid, sets, spawns)) =
      tells_each_write mid (Spawned g r) new spawns ∙ ap (λ (t : Trace). Spawned g r ∷ t) (sets_at_once_is_told old (Ok done) mid sets)

launch_is_told : (old : KernelState) (parent : Group) (name : List ℕ) (cpus mems : Ids) (r : Result (Group × ℕ) (OrMemory KernelFault)) (new : KernelState)
    (l : Launches old parent name cpus mems r new) → new.trace ≡ launch_told old parent name cpus mems r new l ++ old.trace
launch_is_told old parent name cpus mems (Ok made) new (mid, found, starts) =
    told_then (start_told mid made.0 cpus mems (Ok made.1) new starts) (found_told (child_of old.tree parent name) parent name (Ok made.0)) new.trace mid.trace old.trace
    (start_is_told made.0 cpus mems mid (Ok made.1) new starts) (found_is_told (child_of old.tree parent name) old parent name (Ok made.0) mid found)
launch_is_told old parent name cpus mems (Err error) new (inl refused) = found_is_told (child_of old.tree parent name) old parent name (Err error) new refused
launch_is_told old parent name cpus mems (Err error) new (inr (g, mid, found, starts)) =
    told_then (start_told mid g cpus mems (Err error) new starts) (found_told (child_of old.tree parent name) parent name (Ok g)) new.trace mid.trace old.trace
    (start_is_told g cpus mems mid (Err error) new starts) (found_is_told (child_of old.tree parent name) old parent name (Ok g) mid found)

place_is_told : (cpus : Ids) (old : NodeState) (id bundle config : List ℕ) (r : Result ℕ (OrMemory NodeFault)) (new : NodeState)
    (made : Places cpus old id bundle config r new) → new.kernel.trace ≡ place_told cpus old id bundle config r new made ++ old.kernel.trace
place_is_told cpus old id bundle config (Ok pid) new c = launch_is_told old.kernel old.parent id cpus c.asked.homes (Ok (c.group, pid)) new.kernel c.launched
place_is_told cpus old id bundle config (Err Memory) new (inl n) = launch_is_told old.kernel old.parent id cpus n.asked.homes (Err Memory) new.kernel n.refused
place_is_told cpus old id bundle config (Err Memory) new (inr same) = ap trace_in same.2
place_is_told cpus old id bundle config (Err (Fault (Kernel NoPids))) new n = ap trace_in n.is
place_is_told cpus old id bundle config (Err (Fault (Kernel fault))) new n =
    launch_is_told old.kernel old.parent id cpus n.asked.homes (Err (Fault fault)) new.kernel n.refused
place_is_told cpus old id bundle config (Err (Fault fault)) new n = ap trace_in n.1

module _ (old : KernelState) (reserved : Ids) (c : ContainerState) (asked : Asked) where
  cpus_is_told : (make : Bool) (r : Result (Unit {0}) KernelFault) (k : KernelState) → MadeIf make old (WritesCpus old c.group reserved) r k
      → k.trace ≡ if_made make (WroteCpus c.group reserved r) ++ old.trace
  cpus_is_told true r k m = tells_each_write old (WroteCpus c.group reserved r) k m
  cpus_is_told false r k m = ap trace_of m.1

  mems_is_told : (make : Bool) (mid : KernelState) (r : Result (Unit {0}) KernelFault) (new : KernelState) → MadeIf make mid (WritesMems mid c.group asked.homes) r new
      → new.trace ≡ if_made make (WroteMems c.group asked.homes r) ++ mid.trace
  mems_is_told true mid r new m = tells_each_write mid (WroteMems c.group asked.homes r) new m
  mems_is_told false mid r new m = ap trace_of m.1

  rewrites_is_told : (r : Result (Unit {0}) KernelFault) (new : KernelState) (w : Rewrites old reserved c asked r new)
      → new.trace ≡ rewrites_told old reserved c asked r new w ++ old.trace
  rewrites_is_told r new (inl (fault, refused, is)) = cpus_is_told (gives_way old reserved c asked) (Err fault) new refused
  rewrites_is_told r new (inr (done, mid, first, second)) =
      told_then (if_made (moves_home c.demand asked) (WroteMems c.group asked.homes r)) (if_made (gives_way old reserved c asked) (WroteCpus c.group reserved (Ok done)))
      new.trace mid.trace old.trace
      (mems_is_told (moves_home c.demand asked) mid r new second) (cpus_is_told (gives_way old reserved c asked) (Ok done) mid first)

update_is_told : (old : NodeState) (id bundle config : List ℕ) (r : Result (Unit {0}) (OrMemory NodeFault)) (new : NodeState) (u : Updates old id bundle config r new)
    → new.kernel.trace ≡ update_told old id bundle config r new u ++ old.kernel.trace
update_is_told old id bundle config (Ok done) new u = rewrites_is_told old.kernel old.machine.reserved u.container u.asked (Ok tt) new.kernel u.rewrites
update_is_told old id bundle config (Err Memory) new u = ap trace_in u.3
update_is_told old id bundle config (Err (Fault (Kernel fault))) new u =
    rewrites_is_told old.kernel old.machine.reserved u.1.container u.1.asked (Err fault) new.kernel u.1.rewrites
update_is_told old id bundle config (Err (Fault fault)) new u = ap trace_in u.1

-- ---- kill and delete

pub kill_is_told : (old : NodeState) (id signal : List ℕ) (r : Result (Unit {0}) NodeFault) (new : NodeState) → Kills old id signal r new
    → new.kernel.trace ≡ kill_told old id r ++ old.kernel.trace
kill_is_told old id signal (Ok done) new e =
    tells_each_write old.kernel (EndedGroup e.container.group (Ok tt)) new.kernel e.ended
    ∙ ap (λ (o : Option ContainerState). group_told EndedGroup (Ok done) o ++ old.kernel.trace) (sym e.there)
kill_is_told old id signal (Err (Kernel fault)) new (is, e) =
    tells_each_write old.kernel (EndedGroup e.container.group (Err fault)) new.kernel e.ended
    ∙ ap (λ (o : Option ContainerState). group_told EndedGroup (Err (Kernel fault)) o ++ old.kernel.trace) (sym e.there)
kill_is_told old id signal (Err fault) new h = ap trace_in h.1

pub delete_is_told : (old : NodeState) (id : List ℕ) (r : Result (Unit {0}) NodeFault) (new : NodeState) → Deletes old id r new
    → new.kernel.trace ≡ delete_told old id r ++ old.kernel.trace
delete_is_told old id (Ok done) new e =
    tells_each_write old.kernel (RemovedGroup e.container.group (Ok tt)) new.kernel e.removed
    ∙ ap (λ (o : Option ContainerState). group_told RemovedGroup (Ok done) o ++ old.kernel.trace) (sym e.there)
delete_is_told old id (Err (Kernel fault)) new (is, e) =
    tells_each_write old.kernel (RemovedGroup e.container.group (Err fault)) new.kernel e.removed
    ∙ ap (λ (o : Option ContainerState). group_told RemovedGroup (Err (Kernel fault)) o ++ old.kernel.trace) (sym e.there)
delete_is_told old id (Err fault) new h = ap trace_in h.1

-- ---- hand-overs

written_is_told : (d : Option Write) (k : KernelState) → (written k d).trace ≡ asks_for d (Ok tt) ++ k.trace
written_is_told None k = refl
written_is_told (Some w) k = refl

-- what a step was answered, as its write was
abbrev answer_of : Result Progress KernelFault → Result (Unit {0}) KernelFault
answer_of (Ok progress) = Ok tt
answer_of (Err fault) = Err fault

by_order : (order : Order) (m : Layout) (o : Ongoing) (old : KernelState) (r : Result Progress KernelFault) (new : KernelState) → StepsBy order m o old r new
    → new.trace ≡ asks_for (due_by order m o old) (answer_of r) ++ old.trace
by_order InTurn m o old (Ok progress) new s = ap trace_of s.0 ∙ written_is_told (due o.targets old) old
by_order InTurn m o old (Err fault) new s =
    ap trace_of s.1 ∙ ap (λ (f : KernelFault). asks_for (due o.targets old) (Err f) ++ old.trace) (sym s.0)
by_order Directly m o old (Ok progress) new s = ap trace_of s.0 ∙ written_is_told (due_directly (directed_of o) (least_cores m) old) old
by_order Directly m o old (Err fault) new s =
    ap trace_of s.1 ∙ ap (λ (f : KernelFault). asks_for (due_directly (directed_of o) (least_cores m) old) (Err f) ++ old.trace) (sym s.0)

module _ (old new : NodeState) (phase : Phase) (ongoing : Option Ongoing) where
  done_is_told : (progress : Progress) → Stepped old (Ok progress) phase ongoing new → new.kernel.trace ≡ step_told old (Ok progress) ++ old.kernel.trace
  done_is_told progress s =
      by_order s.handover.order old.machine s.handover old.kernel (Ok progress) new.kernel s.steps
      ∙ ap (λ (o : Option Ongoing). stepped_told old.machine old.kernel (Ok progress) o ++ old.kernel.trace) (sym s.was)

  failed_is_told : (fault : KernelFault) → Stepped old (Err fault) phase ongoing new → new.kernel.trace ≡ step_told old (Err (Kernel fault)) ++ old.kernel.trace
  failed_is_told fault s =
      by_order s.handover.order old.machine s.handover old.kernel (Err fault) new.kernel s.steps
      ∙ ap (λ (o : Option Ongoing). stepped_told old.machine old.kernel (Err (Kernel fault)) o ++ old.kernel.trace) (sym s.was)

pub step_is_told : (old : NodeState) (r : Result Progress NodeFault) (new : NodeState) → StepsOn old r new → new.kernel.trace ≡ step_told old r ++ old.kernel.trace
step_is_told old (Ok More) new s = done_is_told old new _ _ More s
step_is_told old (Ok Done) new s = done_is_told old new _ _ Done s
step_is_told old (Err (Kernel fault)) new s = failed_is_told old new _ _ fault s
step_is_told old (Err NoHandover) new s = ap trace_in s.1
step_is_told old (Err fault) new s = absurd s

write_by_is_told : (order : Order) (m : Layout) (o : Ongoing) (old new : KernelState) (s : WritesBy order m o old new)
    → new.trace ≡ write_told_by order m o old new s ++ old.trace
write_by_is_told InTurn m o old new s = ap trace_of s.0 ∙ written_is_told (due o.targets old) old
write_by_is_told Directly m o old new (w, follows, is) = ap trace_of is

write_is_told : (old new : NodeState) (s : Writes old new) → new.kernel.trace ≡ write_told old new s ++ old.kernel.trace
write_is_told old new s = write_by_is_told s.handover.order old.machine s.handover old.kernel new.kernel s.writes

miss_by_is_told : (order : Order) (m : Layout) (o : Ongoing) (old : KernelState) (fault : KernelFault) (new : KernelState) (s : MissesBy order m o old fault new)
    → new.trace ≡ miss_told_by order m o old fault new s ++ old.trace
miss_by_is_told InTurn m o old fault new s =
    ap trace_of s.1 ∙ ap (λ (f : KernelFault). asks_for (due o.targets old) (Err f) ++ old.trace) (sym s.0)
miss_by_is_told Directly m o old fault new s =
    ap trace_of s.1.2 ∙ ap (λ (f : KernelFault). asks_for (Some s.1.0) (Err f) ++ old.trace) (sym s.0)

miss_is_told : (old : NodeState) (fault : KernelFault) (new : NodeState) (s : Misses old fault new) → new.kernel.trace ≡ miss_told old fault new s ++ old.kernel.trace
miss_is_told old fault new s = miss_by_is_told s.handover.order old.machine s.handover old.kernel fault new.kernel s.misses

turns_is_told : (h : Targets) (count : ℕ) (old new : KernelState) (more : turn.StepsMore h count old new) → new.trace ≡ turns_told h count old new more ++ old.trace
turns_is_told h zero old new same = ap trace_of same
turns_is_told h (suc count) old new (mid, step, more) =
    told_then (turns_told h count mid new more) (asks_for (due h old) (Ok tt)) new.trace mid.trace old.trace
    (turns_is_told h count mid new more) (ap trace_of step.0 ∙ written_is_told (due h old) old)

finish_is_told : (order : Order) (m : Layout) (o : Ongoing) (old : KernelState) (r : Result (Unit {0}) KernelFault) (new : KernelState)
    (f : FinishesBy order m o old r new) → new.trace ≡ finish_told_by order m o old r new f ++ old.trace
finish_is_told InTurn m o old (Ok v) new f =
    told_then (asks_for (due o.targets f.mid) (Ok v)) (turns_told o.targets f.steps old f.mid f.more) new.trace f.mid.trace old.trace
    (ap trace_of f.ends.0 ∙ written_is_told (due o.targets f.mid) f.mid) (turns_is_told o.targets f.steps old f.mid f.more)
finish_is_told InTurn m o old (Err fault) new f =
    told_then (asks_for (due o.targets f.mid) (Err fault)) (turns_told o.targets f.steps old f.mid f.more) new.trace f.mid.trace old.trace
    (ap trace_of f.ends.1 ∙ ap (λ (x : KernelFault). asks_for (due o.targets f.mid) (Err x) ++ f.mid.trace) (sym f.ends.0))
    (turns_is_told o.targets f.steps old f.mid f.more)
finish_is_told Directly m o old r new f = finishes_are_told (directed_of o) (least_cores m) old r new f

moves_is_told : (order : Order) (old : NodeState) (total : ℕ) (r : Result (Unit {0}) KernelFault) (new : NodeState) (m : Moves order old total r new)
    → new.kernel.trace ≡ moves_told order old total r new m ++ old.kernel.trace
moves_is_told order old total r new m =
    let f = m.finishes in
    finish_is_told f.handover.order m.mid.machine f.handover m.mid.kernel r new.kernel f.makes
    ∙ ap (λ (n : NodeState). moves_told order old total r new m ++ n.kernel.trace) m.begun.is

rebalance_is_told : (order : Order) (old : NodeState) (r : Result Outcome (OrMemory NodeFault)) (new : NodeState) (m : Rebalances order old r new)
    → new.kernel.trace ≡ rebalance_told order old r new m ++ old.kernel.trace
rebalance_is_told order old (Ok (Plan total)) new m = moves_is_told order old total (Ok tt) new m
rebalance_is_told order old (Ok (Short wanted allowed)) new l = ap trace_in l.is
rebalance_is_told order old (Err Memory) new e = ap trace_in e.1
rebalance_is_told order old (Err (Fault (Kernel fault))) new m = moves_is_told order old m.0 (Err fault) new m.1
rebalance_is_told order old (Err (Fault Busy)) new e = ap trace_in e.1
rebalance_is_told order old (Err (Fault fault)) new e = absurd e

begin_is_told : (order : Order) (old : NodeState) (r : Result Outcome (OrMemory NodeFault)) (new : NodeState) → Begins order old r new → new.kernel.trace ≡ old.kernel.trace
begin_is_told order old (Ok (Plan total)) new b = ap trace_in b.is
begin_is_told order old (Ok (Short wanted allowed)) new l = ap trace_in l.is
begin_is_told order old (Err Memory) new e = ap trace_in e.1
begin_is_told order old (Err (Fault Busy)) new e = ap trace_in e.1
begin_is_told order old (Err (Fault fault)) new e = absurd e

start_is_none : (old : NodeState) (id : List ℕ) (r : Result (Unit {0}) NodeFault) (new : NodeState) → Starts old id r new → new.kernel.trace ≡ old.kernel.trace
start_is_none old id (Ok done) new s = ap trace_in s.4
start_is_none old id (Err fault) new s = ap trace_in s.1

-- ---- all of them

pub events_are_told : EventsAreTold
events_are_told old (Create id bundle config r) new c = place_is_told old.machine.reserved old id bundle config r new c
events_are_told old (Adopt id bundle config cpus r) new c = place_is_told cpus old id bundle config r new c
events_are_told old (Update id bundle config r) new u = update_is_told old id bundle config r new u
events_are_told old (Start id r) new s = start_is_none old id r new s
events_are_told old (Kill id signal r) new k = kill_is_told old id signal r new k
events_are_told old (Delete id r) new d = delete_is_told old id r new d
events_are_told old (Rebalance order r) new m = rebalance_is_told order old r new m
events_are_told old (Begin order r) new b = begin_is_told order old r new b
events_are_told old (StepOn r) new s = step_is_told old r new s
events_are_told old WriteOn new s = write_is_told old new s
events_are_told old (MissOn fault) new s = miss_is_told old fault new s
events_are_told old (Ask question) new a = ap trace_in a.1
events_are_told old (Fork parent r) new f = (events_keep_groups.fork old.kernel new.kernel parent r f.0).0.trace
events_are_told old (Exit pid r) new e = (events_keep_groups.exit old.kernel new.kernel pid r e.0).0.trace
events_are_told old (Offline cpu r) new o = (events_keep_groups.offline old.kernel new.kernel cpu r o.0).0.trace
events_are_told old (Online cpu r) new o = (events_keep_groups.online old.kernel new.kernel cpu r o.0).0.trace

pub runs_are_told : RunsAreTold
runs_are_told old [] new same = ap trace_in same
runs_are_told old (event ∷ later) new (mid, step, rest) =
    told_then (run_told mid later new rest) (event_told old event mid step) new.kernel.trace mid.kernel.trace old.kernel.trace
    (runs_are_told mid later new rest) (events_are_told old event mid step)
