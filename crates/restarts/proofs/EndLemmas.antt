-- What a run leaves, wherever it ends.
use Rattle.std.proofs.Common.{◌≡◌, inl, inr, ℕ, ◌≤◌, Bool, true, false, cond, ◌&&◌, codes, List, [], ◌∷◌, length, map, refl, sym, ap, ◌∙◌, subst, arith}
use Rattle.std.proofs.lemmas.Bool.{false≢true}
use Rattle.std.specs.Prelude.{Option, Some, None, Result, Ok, Err, IfSome}
use Rattle.std.specs.List.{AllByRecursion, AllZip}
use Rattle.std.specs.FinSet as set
use Rattle.faults.specs.declared.OrMemory.{OrMemory}
use Rattle.faults.specs.declared.OrMemory.TheVariants.{Memory, Fault}
use Rattle.cpu_set.specs.Ids.{Ids}
use Rattle.cpu_set.specs.PointwiseLaws.{is_subset-contains}
use Rattle.cpu_set.specs.SetLaws.{is_empty-empty}
use Rattle.cpuset_tree.specs.Groups.{entry_among, cpus_in, requested_cpus}
use Rattle.kernel_model.specs.declared.KernelFault.{KernelFault}
use Rattle.kernel_model.specs.declared.KernelFault.TheVariants.{NoPids}
use Rattle.kernel_model.specs.KernelState.{KernelState}
use Rattle.kernel_model.specs.WellFormed.{IsWellFormed}
use Rattle.kernel_model.specs.Laws.{StepKeeps}
use Rattle.kernel_model.specs.KernelLemmas.{each_case_keeps, writes_keep_tree, events_keep_groups}
use Rattle.machine.specs.Layout.{Layout}
use Rattle.machine.specs.Present.{present}
use Rattle.machine.specs.Nodes.{nodes_of}
use Rattle.apply_plan.specs.declared.Progress.{Progress}
use Rattle.apply_plan.specs.declared.Progress.TheVariants.{More, Done}
use Rattle.apply_plan.specs.ListLemmas.{all_map}
use Rattle.apply_plan.specs.Holders.{Holder, Pairwise, HasSome, IsSafe}
use Rattle.apply_plan.specs.Holders.{AreApart as HoldApart}
use Rattle.node.specs.declared.fault.NodeFault.{NodeFault}
use Rattle.node.specs.declared.fault.NodeFault.TheVariants.{Busy, NoHandover, Kernel}
use Rattle.node.specs.declared.order.Order.{Order}
use Rattle.node.specs.declared.order.Order.TheVariants.{InTurn, Directly}
use Rattle.node.specs.declared.outcome.Outcome.{Outcome}
use Rattle.node.specs.declared.outcome.Outcome.TheVariants.{Plan, Short}
use Rattle.node.specs.declared.phase.Phase.{Phase}
use Rattle.node.specs.NodeState.{ContainerState, Ongoing, NodeState, is_underway}
use Rattle.node.specs.Owners.{is_pinned, owner_of, owners_of}
use Rattle.node.specs.Status.{is_live}
use Rattle.node.specs.IsNode.{IsMachine, HaveOtherIds, IsAsked, IsNode}
use Rattle.node.specs.Ongoing.{Stands}
use Rattle.node.specs.Orders.{StepsBy, WritesBy, MissesBy}
use Rattle.node.specs.Best.{AreOwn, asking, wanted_by}
use Rattle.node.specs.Rows.{as_cpus}
use Rattle.node.specs.Entries.{plan_pool, opened}
use Rattle.node.specs.MayRequest.{MayRequest}
use Rattle.node.specs.Updates.{Updates, update_states}
use Rattle.node.specs.Calls.{Places, Ended, Kills, Removed, Deletes}
use Rattle.node.specs.Rebalance.{Begun, Begins, StepsOn, Stepped, Writes, Misses, Moves, Rebalances}
use Rattle.node.specs.Making.{IsOneCall, AreCalls, place_states, PlacesAreCalls, PlacesStaySafe, UpdatesAreCalls, UpdatesStaySafe}
use Rattle.node.specs.Making.IsOneCall.{Makes, Cpus, Mems, Process}
use Rattle.node.specs.Machine.{Event, Create, Adopt, Update, Start, Kill, Delete, Rebalance, Begin, StepOn, WriteOn, MissOn, Ask, Fork, Exit, Offline, Online, InKernel, Step, Run, RunsKeep, RebalancesAreWrites, IsOneWrite}
use Rattle.runtime.specs.declared.booting.TheConstants.{FIRST_PID}
use Rattle.runtime.specs.Boots.{Boots, BootsNodes}
use Rattle.restarts.specs.Left.{Left, left_of, left_in, IsLeft, AreApart, AreLeft, IsAmong}
use Rattle.restarts.specs.Ends.{MayEnd, EndsAreLeft}
use Rattle.restarts.specs.Ends.MayEnd.{Between, InPlace, InUpdate}
use Rattle.restarts.specs.Restarts.{Leaves, RestartsGoOn}
use Rattle.restarts.specs.Restarts.Leaves.{Once, Halfway, Again}
use Rattle.restarts.proofs.AmongLemmas.{all_among, Entries}
use Rattle.restarts.proofs.ThereLemmas.{IsThere, AllThere, TargetThere, tree_same, removed, launch_there, launch_states_there, rewrites_there, rewrite_states_there, step_there, write_there, less_of, targets_there, first_there_is, opened_there}

-- what is known of a node between two calls: its hand-over has targets of the machine alone, and so are all requests
pub record Known (m : Layout) (n : NodeState) : Type 0 where
  pub node : IsNode n
  pub machine : n.machine ≡ m
  pub all : AllThere m n.kernel
  pub ongoing : IfSome n.ongoing (λ o. AllByRecursion (TargetThere m) o.targets.entries)

module _ (m : Layout) (layout : IsMachine m) (keep : RunsKeep) where
  reserved_there : IsThere m m.reserved
  reserved_there cpu has =
      is_subset-contains m.online (present m) layout.sound.online_present cpu (is_subset-contains m.reserved m.online layout.sound.reserved_online cpu has)

  own_reserved : (n : NodeState) → Known m n → IsThere m n.machine.reserved
  own_reserved n h = subst (λ (x : Layout). IsThere m x.reserved) (sym h.machine) reserved_there

  online_there : (n : NodeState) → Known m n → IsThere m n.kernel.tree.online
  online_there n h cpu has =
      ap (λ (x : Layout). set.contains (present x) cpu) (sym h.machine) ∙ ap (λ s. set.contains s cpu) (sym h.node.machine.present)
      ∙ is_subset-contains n.kernel.tree.online n.kernel.present h.node.holds.kernel.online_present cpu has

  may_there : (n : NodeState) → Known m n → (pinned : Bool) (cpus : Ids) → MayRequest n pinned cpus → IsThere m cpus
  may_there n h pinned cpus may cpu has =
      ap (λ (x : Layout). set.contains (present x) cpu) (sym h.machine) ∙ first_of (set.contains (present n.machine) cpu) _ (may.free cpu has) where
        first_of : (a b : Bool) → (a && b) ≡ true → a ≡ true
        first_of true b e = refl
        first_of false b e = e

  -- a step that is one
  kept : (old new : NodeState) (event : Event) → Known m old → Step old event new → IsNode new
  kept old new event h step = keep old (event ∷ []) new h.node (new, step, refl)

  -- which leaves the machine and what is open, and requests of the machine alone
  goes_on : (old new : NodeState) → Known m old → IsNode new → new.machine ≡ old.machine → AllThere m new.kernel → new.ongoing ≡ old.ongoing → Known m new
  goes_on old new h node machine all same = record {
    node = node;
    machine = machine ∙ h.machine;
    all = all;
    ongoing = subst (λ (o : Option Ongoing). IfSome o (λ x. AllByRecursion (TargetThere m) x.targets.entries)) (sym same) h.ongoing;
  }

  as_before : (old new : NodeState) → Known m old → new ≡ old → Known m new
  as_before old new h is = subst (Known m) (sym is) h

  abbrev kernel_of : NodeState → KernelState
  kernel_of n = n.kernel

  abbrev machine_of : NodeState → Layout
  machine_of n = n.machine

  abbrev ongoing_of : NodeState → Option Ongoing
  ongoing_of n = n.ongoing

  same_kernel : (old new : NodeState) → Known m old → IsNode new → new.machine ≡ old.machine → new.kernel ≡ old.kernel → new.ongoing ≡ old.ongoing → Known m new
  same_kernel old new h node machine kernel ongoing = goes_on old new h node machine (subst (AllThere m) (sym kernel) h.all) ongoing

  -- `create` and `adopt`
  place_known : (old new : NodeState) (cpus : Ids) (id bundle config : List ℕ) (r : Result ℕ (OrMemory NodeFault)) → Known m old → IsNode new
      → Places cpus old id bundle config r new → Known m new
  place_known old new cpus id bundle config (Ok pid) h node c =
      goes_on old new h node (ap machine_of c.is)
      (launch_there m old.parent id cpus c.asked.homes (may_there old h (is_pinned c.asked.kind) cpus c.may) old.kernel new.kernel (Ok (c.group, pid)) c.launched h.all)
      (ap ongoing_of c.is)
  place_known old new cpus id bundle config (Err Memory) h node (inl n) =
      goes_on old new h node (ap machine_of n.is)
      (launch_there m old.parent id cpus n.asked.homes (may_there old h (is_pinned n.asked.kind) cpus n.may) old.kernel new.kernel (Err Memory) n.refused h.all)
      (ap ongoing_of n.is)
  place_known old new cpus id bundle config (Err Memory) h node (inr same) = as_before old new h same.2
  place_known old new cpus id bundle config (Err (Fault (Kernel NoPids))) h node same = as_before old new h same.is
  place_known old new cpus id bundle config (Err (Fault (Kernel fault))) h node n =
      goes_on old new h node (ap machine_of n.is)
      (launch_there m old.parent id cpus n.asked.homes (may_there old h (is_pinned n.asked.kind) cpus n.may) old.kernel new.kernel (Err (Fault fault)) n.refused h.all)
      (ap ongoing_of n.is)
  place_known old new cpus id bundle config (Err (Fault fault)) h node same = as_before old new h same.1

  place_states_known : (old new : NodeState) (cpus : Ids) (id bundle config : List ℕ) (r : Result ℕ (OrMemory NodeFault)) → Known m old
      → (made : Places cpus old id bundle config r new) → AllByRecursion (AllThere m) (place_states cpus old id bundle config r new made)
  place_states_known old new cpus id bundle config (Ok pid) h c =
      launch_states_there m old.parent id cpus c.asked.homes (may_there old h (is_pinned c.asked.kind) cpus c.may) old.kernel new.kernel (Ok (c.group, pid)) c.launched h.all
  place_states_known old new cpus id bundle config (Err Memory) h (inl n) =
      launch_states_there m old.parent id cpus n.asked.homes (may_there old h (is_pinned n.asked.kind) cpus n.may) old.kernel new.kernel (Err Memory) n.refused h.all
  place_states_known old new cpus id bundle config (Err Memory) h (inr same) = tt
  place_states_known old new cpus id bundle config (Err (Fault (Kernel NoPids))) h same = tt
  place_states_known old new cpus id bundle config (Err (Fault (Kernel fault))) h n =
      launch_states_there m old.parent id cpus n.asked.homes (may_there old h (is_pinned n.asked.kind) cpus n.may) old.kernel new.kernel (Err (Fault fault)) n.refused h.all
  place_states_known old new cpus id bundle config (Err (Fault fault)) h same = tt

  -- `update`
  update_known : (old new : NodeState) (id bundle config : List ℕ) (r : Result (Unit {0}) (OrMemory NodeFault)) → Known m old → IsNode new
      → Updates old id bundle config r new → Known m new
  update_known old new id bundle config (Ok done) h node u =
      goes_on old new h node (ap machine_of u.is)
      (rewrites_there m old.machine.reserved (own_reserved old h) u.container u.asked old.kernel new.kernel (Ok tt) u.rewrites h.all) (ap ongoing_of u.is)
  update_known old new id bundle config (Err Memory) h node (c, may, fault, same) = as_before old new h same
  update_known old new id bundle config (Err (Fault (Kernel fault))) h node (failed, u) =
      goes_on old new h node (ap machine_of u.is)
      (rewrites_there m old.machine.reserved (own_reserved old h) u.container u.asked old.kernel new.kernel (Err fault) u.rewrites h.all) (ap ongoing_of u.is)
  update_known old new id bundle config (Err (Fault fault)) h node same = as_before old new h same.1

  update_states_known : (old new : NodeState) (id bundle config : List ℕ) (r : Result (Unit {0}) (OrMemory NodeFault)) → Known m old
      → (made : Updates old id bundle config r new) → AllByRecursion (AllThere m) (update_states old id bundle config r new made)
  update_states_known old new id bundle config (Ok done) h u =
      rewrite_states_there m old.machine.reserved (own_reserved old h) u.container u.asked old.kernel new.kernel (Ok tt) u.rewrites h.all
  update_states_known old new id bundle config (Err Memory) h same = tt
  update_states_known old new id bundle config (Err (Fault (Kernel fault))) h u =
      rewrite_states_there m old.machine.reserved (own_reserved old h) u.1.container u.1.asked old.kernel new.kernel (Err fault) u.1.rewrites h.all
  update_states_known old new id bundle config (Err (Fault fault)) h same = tt

  -- `begin`
  sets_there : (old : NodeState) → Known m old → (es : Entries) (sets : List Ids)
      → AllZip (λ e cpus. AreOwn old.kernel old.machine e.1.demand (wanted_by e.1.demand.kind) cpus) es sets → AllByRecursion (IsThere m) sets
  sets_there old h [] [] zip = tt
  sets_there old h [] (s ∷ sets) zip = absurd zip
  sets_there old h (e ∷ es) [] zip = absurd zip
  sets_there old h (e ∷ es) (s ∷ sets) zip = (λ cpu has. online_there old h cpu (zip.0.each cpu has).1, sets_there old h es sets zip.1)

  begun_known : (order : Order) (old new : NodeState) (total : ℕ) → Known m old → IsNode new → Begun order old total new → Known m new
  begun_known order old new total h node b =
      let sets : List Ids = as_cpus old.machine b.plan in
      let targets : AllByRecursion (TargetThere m) (opened order old sets).targets.entries =
      targets_there m old.kernel (plan_pool old sets) (less_of m sets old.kernel.tree.online (online_there old h)) old.containers sets
      (sets_there old h (asking old) sets b.best.could.own) in
      record {
        node = node;
        machine = ap machine_of b.is ∙ h.machine;
        all = subst (AllThere m) (sym (ap kernel_of b.is)) h.all;
        ongoing = subst (λ (o : Option Ongoing). IfSome o (λ x. AllByRecursion (TargetThere m) x.targets.entries)) (sym (ap ongoing_of b.is)) targets;
      }

  begin_known : (order : Order) (old new : NodeState) (r : Result Outcome (OrMemory NodeFault)) → Known m old → IsNode new → Begins order old r new → Known m new
  begin_known order old new (Ok (Plan total)) h node b = begun_known order old new total h node b
  begin_known order old new (Ok (Short wanted allowed)) h node l =
      same_kernel old new h node (ap machine_of l.is) (ap kernel_of l.is) (ap ongoing_of l.is)
  begin_known order old new (Err Memory) h node same = as_before old new h same.1
  begin_known order old new (Err (Fault Busy)) h node same = as_before old new h same.1
  begin_known order old new (Err (Fault fault)) h node none = absurd none

  -- a step
  open_reserved : (old : NodeState) → Known m old → (o : Ongoing) → old.ongoing ≡ Some o → o.targets.reserved ≡ m.reserved
  open_reserved old h o is =
      let stands = subst (λ (x : Option Ongoing). Stands old.kernel (owners_of old.containers) (is_underway old.phase) x) is h.node.stands in
      stands.1.reserved ∙ h.node.machine.reserved ∙ ap (λ (x : Layout). x.reserved) h.machine

  stepped_all : (old new : NodeState) (r : Result Progress KernelFault) (phase : Phase) (ongoing : Option Ongoing) → Known m old → Stepped old r phase ongoing new → AllThere m new.kernel
  stepped_all old new r phase ongoing h s =
      step_there m s.handover.order s.handover old.kernel new.kernel r layout.sound
      (subst (IsThere m) (sym (open_reserved old h s.handover s.was)) reserved_there) (online_there old h)
      (subst (λ (o : Option Ongoing). IfSome o (λ x. AllByRecursion (TargetThere m) x.targets.entries)) s.was h.ongoing)
      (subst (λ (x : Layout). StepsBy s.handover.order x s.handover old.kernel r new.kernel) h.machine s.steps) h.all

  ended_known : (old new : NodeState) (r : Result Progress KernelFault) (phase : Phase) → Known m old → IsNode new → Stepped old r phase None new → Known m new
  ended_known old new r phase h node s = record {
    node = node;
    machine = ap machine_of s.is ∙ h.machine;
    all = stepped_all old new r phase None h s;
    ongoing = subst (λ (o : Option Ongoing). IfSome o (λ x. AllByRecursion (TargetThere m) x.targets.entries)) (sym (ap ongoing_of s.is)) tt;
  }

  step_known : (old new : NodeState) (r : Result Progress NodeFault) → Known m old → IsNode new → StepsOn old r new → Known m new
  step_known old new (Ok More) h node s = goes_on old new h node (ap machine_of s.is) (stepped_all old new (Ok More) old.phase old.ongoing h s) (ap ongoing_of s.is)
  step_known old new (Ok Done) h node s = ended_known old new (Ok Done) _ h node s
  step_known old new (Err (Kernel fault)) h node s = ended_known old new (Err fault) _ h node s
  step_known old new (Err NoHandover) h node same = as_before old new h same.1
  step_known old new (Err fault) h node none = absurd none

  -- one of the writes that are made all at once
  write_known : (old new : NodeState) → Known m old → IsNode new → Writes old new → Known m new
  write_known old new h node s = goes_on old new h node (ap machine_of s.is) all (ap ongoing_of s.is) where
    all : AllThere m new.kernel
    all = write_there m s.handover.order s.handover old.kernel new.kernel layout.sound
        (subst (IsThere m) (sym (open_reserved old h s.handover s.was)) reserved_there) (online_there old h)
        (subst (λ (o : Option Ongoing). IfSome o (λ x. AllByRecursion (TargetThere m) x.targets.entries)) s.was h.ongoing)
        (subst (λ (x : Layout). WritesBy s.handover.order x s.handover old.kernel new.kernel) h.machine s.writes) h.all

  -- one of them that fails
  miss_same : (order : Order) (layout : Layout) (o : Ongoing) (old : KernelState) (fault : KernelFault) (new : KernelState) → MissesBy order layout o old fault new
      → new.tree ≡ old.tree
  miss_same InTurn layout o old fault new s = ap (λ (k : KernelState). k.tree) s.1
  miss_same Directly layout o old fault new s = ap (λ (k : KernelState). k.tree) s.1.2

  miss_known : (old new : NodeState) (fault : KernelFault) → Known m old → IsNode new → Misses old fault new → Known m new
  miss_known old new fault h node s = record {
    node = node;
    machine = ap machine_of s.is ∙ h.machine;
    all = tree_same m old.kernel new.kernel (miss_same s.handover.order old.machine s.handover old.kernel fault new.kernel s.misses) h.all;
    ongoing = subst (λ (o : Option Ongoing). IfSome o (λ x. AllByRecursion (TargetThere m) x.targets.entries)) (sym (ap ongoing_of s.is)) tt;
  }

  -- writes and steps alone, and a rebalance
  writes_known : (writes : List Event) (old new : NodeState) → AllByRecursion IsOneWrite writes → Known m old → Run old writes new → Known m new
  writes_known [] old new only h run = as_before old new h run
  writes_known (StepOn answer ∷ writes) old new only h (mid, step, run) =
      writes_known writes mid new only.1 (step_known old mid answer h (kept old mid (StepOn answer) h step) step) run
  writes_known (WriteOn ∷ writes) old new only h (mid, step, run) =
      writes_known writes mid new only.1 (write_known old mid h (kept old mid WriteOn h step) step) run
  writes_known (MissOn fault ∷ writes) old new only h (mid, step, run) =
      writes_known writes mid new only.1 (miss_known old mid fault h (kept old mid (MissOn fault) h step) step) run
  writes_known (event ∷ writes) old new only h run = absurd only.0

  moves_known : RebalancesAreWrites → (order : Order) (old new : NodeState) (total : ℕ) (r : Result (Unit {0}) KernelFault) → Known m old → Moves order old total r new → Known m new
  moves_known single order old new total r h moves =
      let by = single order old total r new h.node moves in
      writes_known by.0 by.2.0 new by.1
      (begin_known order old by.2.0 (Ok (Plan total)) h (kept old by.2.0 (Begin order (Ok (Plan total))) h by.2.1) by.2.1) by.2.2

  rebalance_known : RebalancesAreWrites → (order : Order) (old new : NodeState) (r : Result Outcome (OrMemory NodeFault)) → Known m old → IsNode new → Rebalances order old r new → Known m new
  rebalance_known single order old new (Ok (Plan total)) h node moves = moves_known single order old new total (Ok tt) h moves
  rebalance_known single order old new (Ok (Short wanted allowed)) h node l = same_kernel old new h node (ap machine_of l.is) (ap kernel_of l.is) (ap ongoing_of l.is)
  rebalance_known single order old new (Err (Fault (Kernel fault))) h node (total, moves) = moves_known single order old new total (Err fault) h moves
  rebalance_known single order old new (Err Memory) h node same = as_before old new h same.1
  rebalance_known single order old new (Err (Fault Busy)) h node same = as_before old new h same.1
  rebalance_known single order old new (Err (Fault fault)) h node none = absurd none

  -- what leaves the tree, or all that is requested
  in_kernel : (old new : NodeState) → Known m old → IsNode new → new.kernel.tree.groups ≡ old.kernel.tree.groups → InKernel old new → Known m new
  in_kernel old new h node groups is =
      goes_on old new h node (ap machine_of is) (λ g. subst (IsThere m) (sym (ap (λ gs. cpus_in (entry_among gs g)) groups)) (h.all g)) (ap ongoing_of is)

  one_known : RebalancesAreWrites → (event : Event) (old new : NodeState) → Known m old → IsNode new → Step old event new → Known m new
  one_known single (Create id bundle config r) old new h node step = place_known old new old.machine.reserved id bundle config r h node step
  one_known single (Adopt id bundle config cpus r) old new h node step = place_known old new cpus id bundle config r h node step
  one_known single (Update id bundle config r) old new h node step = update_known old new id bundle config r h node step
  one_known single (Start id (Ok done)) old new h node (c, there, created, runnable, is) = same_kernel old new h node (ap machine_of is) (ap kernel_of is) (ap ongoing_of is)
  one_known single (Start id (Err fault)) old new h node step = as_before old new h step.1
  one_known single (Kill id signal r) old new h node step = killed r step where
    ended : (e : Result (Unit {0}) KernelFault) → Ended old id signal e new → Known m new
    ended e s = goes_on old new h node (ap machine_of s.is) (tree_same m old.kernel new.kernel (writes_keep_tree.end old.kernel new.kernel s.container.group e s.ended) h.all) (ap ongoing_of s.is)

    killed : (answer : Result (Unit {0}) NodeFault) → Kills old id signal answer new → Known m new
    killed (Ok done) s = ended (Ok tt) s
    killed (Err (Kernel fault)) s = ended (Err fault) s.1
    killed (Err fault) s = as_before old new h s.1
  one_known single (Delete id r) old new h node step = deleted r step where
    without : (e : Result (Unit {0}) KernelFault) (containers : Entries) → Removed old id e containers new → Known m new
    without e containers s =
        goes_on old new h node (ap machine_of s.is) (removed m old.kernel new.kernel s.container.group e s.removed h.all) (ap ongoing_of s.is)

    deleted : (answer : Result (Unit {0}) NodeFault) → Deletes old id answer new → Known m new
    deleted (Ok done) s = without (Ok tt) _ s
    deleted (Err (Kernel fault)) s = without (Err fault) _ s.1
    deleted (Err fault) s = as_before old new h s.1
  one_known single (Rebalance order r) old new h node step = rebalance_known single order old new r h node step
  one_known single (Begin order r) old new h node step = begin_known order old new r h node step
  one_known single (StepOn r) old new h node step = step_known old new r h node step
  one_known single WriteOn old new h node step = write_known old new h node step
  one_known single (MissOn fault) old new h node step = miss_known old new fault h node step
  one_known single (Ask question) old new h node step = as_before old new h step.1
  one_known single (Fork pid r) old new h node step = in_kernel old new h node (events_keep_groups.fork old.kernel new.kernel pid r step.0).0.groups step.1
  one_known single (Exit pid r) old new h node step = in_kernel old new h node (events_keep_groups.exit old.kernel new.kernel pid r step.0).0.groups step.1
  one_known single (Offline cpu r) old new h node step = in_kernel old new h node (events_keep_groups.offline old.kernel new.kernel cpu r step.0).0.groups step.1
  one_known single (Online cpu r) old new h node step = in_kernel old new h node (events_keep_groups.online old.kernel new.kernel cpu r step.0).0.groups step.1

  run_known : RebalancesAreWrites → (events : List Event) (old new : NodeState) → Known m old → Run old events new → Known m new
  run_known single [] old new h run = as_before old new h run
  run_known single (event ∷ events) old new h (mid, step, run) =
      run_known single events mid new (one_known single event old mid h (kept old mid event h step) step) run

  -- a new run
  first_known : BootsNodes → (first : NodeState) → Boots m first → Known m first
  first_known nodes first (k, its, opens) = record {
    node = nodes m first layout (k, its, opens);
    machine = ap machine_of opens.3;
    all = opened_there m k first.kernel opens.0 (codes "numarun") (Ok first.parent) opens.2 (first_there_is m m.reserved m.online (nodes_of m) FIRST_PID k its);
    ongoing = subst (λ (o : Option Ongoing). IfSome o (λ x. AllByRecursion (TargetThere m) x.targets.entries)) (sym (ap ongoing_of opens.3)) tt;
  }

  -- what is left in a state of the kernel, by what holds of the containers there
  module _ (k : KernelState) (all : AllThere m k) (reserved : k.reserved ≡ m.reserved) where
    abbrev holder : List ℕ × ContainerState → Holder
    holder e = (owner_of e).holder

    each_left : (es : Entries) → AllByRecursion (IsAsked m) es → AllByRecursion (HasSome k (requested_cpus k.tree)) (map (λ o. o.holder) (owners_of es))
        → AllByRecursion (IsLeft m) (left_in k es)
    each_left [] asked some = tt
    each_left (e ∷ es) asked some = by (each_left es asked.1 some.1) (is_live k e.1) refl where
      by : AllByRecursion (IsLeft m) (left_in k es) → (b : Bool) → is_live k e.1 ≡ b → AllByRecursion (IsLeft m) (cond b (left_of k e ∷ left_in k es) (left_in k es))
      by rest true live = (
        record {
          id = asked.0.id;
          some = λ none. false≢true (sym (some.0 live) ∙ is_empty-empty (requested_cpus k.tree e.1.group) none);
          there = all e.1.group;
        },
        rest,
      )
      by rest false dead = rest

    long_left : (es : Entries) → length (left_in k es) ≤ length es
    long_left [] = omega arith
    long_left (e ∷ es) = by (long_left es) (is_live k e.1) where
      by : length (left_in k es) ≤ length es → (b : Bool) → length (cond b (left_of k e ∷ left_in k es) (left_in k es)) ≤ length (e ∷ es)
      by rest true = omega (arith, rest)
      by rest false = omega (arith, rest)

    apart_from : (e : List ℕ × ContainerState) → is_live k e.1 ≡ true → (xs : Entries) → AllByRecursion (HaveOtherIds (owner_of e)) (owners_of xs)
        → AllByRecursion (HoldApart k k.reserved (requested_cpus k.tree) (holder e)) (map (λ o. o.holder) (owners_of xs)) → AllByRecursion (AreApart m (left_of k e)) (left_in k xs)
    apart_from e live [] i a = tt
    apart_from e live (x ∷ xs) i a = by (apart_from e live xs i.1 a.1) (is_live k x.1) refl where
      by : AllByRecursion (AreApart m (left_of k e)) (left_in k xs) → (b : Bool) → is_live k x.1 ≡ b
          → AllByRecursion (AreApart m (left_of k e)) (cond b (left_of k x ∷ left_in k xs) (left_in k xs))
      by rest true other = (
        record { ids = i.0; cpus = λ either cpu here there. ap (λ s. set.contains s cpu) (sym reserved) ∙ a.0 live other either cpu here there },
        rest,
      )
      by rest false dead = rest

    apart_left : (es : Entries) → Pairwise HaveOtherIds (owners_of es) → Pairwise (HoldApart k k.reserved (requested_cpus k.tree)) (map (λ o. o.holder) (owners_of es))
        → Pairwise (AreApart m) (left_in k es)
    apart_left [] ids apart = tt
    apart_left (e ∷ es) ids apart = by (apart_left es ids.1 apart.1) (is_live k e.1) refl where
      by : Pairwise (AreApart m) (left_in k es) → (b : Bool) → is_live k e.1 ≡ b → Pairwise (AreApart m) (cond b (left_of k e ∷ left_in k es) (left_in k es))
      by rest true live = (apart_from e live es ids.0 apart.0, rest)
      by rest false dead = rest

    pub all_left : (n : NodeState) → IsNode n → n.machine ≡ m → IsSafe k k.reserved (map (λ o. o.holder) (owners_of n.containers)) → AreLeft m (left_in k n.containers)
    all_left n h is safe = record {
      few = let most = h.few in let fewer : length (left_in k n.containers) ≤ length n.containers = long_left n.containers in omega (arith, most, fewer);
      each = each_left n.containers (subst (λ (x : Layout). AllByRecursion (IsAsked x) n.containers) is h.asked) safe.some;
      apart = apart_left n.containers h.holds.distinct safe.apart;
    }

  -- calls of the kernel leave which CPUs are reserved
  one_call : (old new : KernelState) → IsWellFormed old → IsOneCall old new → StepKeeps old new
  one_call old new w (Makes parent name r c) = (each_case_keeps old new w).make parent name r c
  one_call old new w (Cpus g cpus r c) = (each_case_keeps old new w).cpus g cpus r c
  one_call old new w (Mems g mems r c) = (each_case_keeps old new w).mems g mems r c
  one_call old new w (Process g r c) = (each_case_keeps old new w).spawn g r c

  calls_reserve : (old : KernelState) (states : List KernelState) (new : KernelState) → IsWellFormed old → AreCalls old states new
      → AllByRecursion (λ k. k.reserved ≡ old.reserved) states
  calls_reserve old [] new w calls = tt
  calls_reserve old (k ∷ states) new w calls =
      let first = one_call old k w calls.0 in (
        first.machine.reserved,
        all_map (λ x. x.reserved ≡ k.reserved) (λ x. x.reserved ≡ old.reserved) (λ x is. is ∙ first.machine.reserved) states (calls_reserve k states new first.well_formed calls.1),
      )

  left_there : (n : NodeState) → Known m n → AreLeft m (left_in n.kernel n.containers)
  left_there n h = all_left n.kernel h.all (h.node.machine.reserved ∙ ap (λ (x : Layout). x.reserved) h.machine) n h.node h.machine h.node.holds.safe

  module _ (single : RebalancesAreWrites) (place_calls : PlacesAreCalls) (place_safe : PlacesStaySafe) (update_calls : UpdatesAreCalls) (update_safe : UpdatesStaySafe) where
    in_place : (old new : NodeState) (cpus : Ids) (id bundle config : List ℕ) (r : Result ℕ (OrMemory NodeFault)) (made : Places cpus old id bundle config r new) (k : KernelState)
        → Known m old → IsAmong (place_states cpus old id bundle config r new made) k → AreLeft m (left_in k new.containers)
    in_place old new cpus id bundle config r made k h among =
        let states : List KernelState = place_states cpus old id bundle config r new made in
        let node : IsNode new = kept old new (Adopt id bundle config cpus r) h made in
        let after : Known m new = place_known old new cpus id bundle config r h node made in
        let reserved : k.reserved ≡ old.kernel.reserved =
        all_among (λ x. x.reserved ≡ old.kernel.reserved) states k
        (calls_reserve old.kernel states new.kernel h.node.holds.kernel (place_calls cpus old id bundle config r new made)) among in
        all_left k (all_among (AllThere m) states k (place_states_known old new cpus id bundle config r h made) among)
        (reserved ∙ h.node.machine.reserved ∙ ap (λ (x : Layout). x.reserved) h.machine) new node after.machine
        (all_among (λ x. IsSafe x x.reserved (map (λ o. o.holder) (owners_of new.containers))) states k (place_safe cpus old id bundle config r new made h.node) among)

    in_update : (old new : NodeState) (id bundle config : List ℕ) (r : Result (Unit {0}) (OrMemory NodeFault)) (made : Updates old id bundle config r new) (k : KernelState)
        → Known m old → IsAmong (update_states old id bundle config r new made) k → AreLeft m (left_in k new.containers)
    in_update old new id bundle config r made k h among =
        let states : List KernelState = update_states old id bundle config r new made in
        let node : IsNode new = kept old new (Update id bundle config r) h made in
        let after : Known m new = update_known old new id bundle config r h node made in
        let reserved : k.reserved ≡ old.kernel.reserved =
        all_among (λ x. x.reserved ≡ old.kernel.reserved) states k
        (calls_reserve old.kernel states new.kernel h.node.holds.kernel (update_calls old id bundle config r new made)) among in
        all_left k (all_among (AllThere m) states k (update_states_known old new id bundle config r h made) among)
        (reserved ∙ h.node.machine.reserved ∙ ap (λ (x : Layout). x.reserved) h.machine) new node after.machine
        (all_among (λ x. IsSafe x x.reserved (map (λ o. o.holder) (owners_of new.containers))) states k (update_safe old id bundle config r new made h.node) among)

    pub known_ends : (first : NodeState) (k : KernelState) (containers : Entries) → Known m first → MayEnd first k containers → AreLeft m (left_in k containers)
    known_ends first k containers h (Between events n run at are) =
        subst (λ (es : Entries). AreLeft m (left_in k es)) (sym are)
        (subst (λ (x : KernelState). AreLeft m (left_in x n.containers)) (sym at) (left_there n (run_known single events first n h run)))
    known_ends first k containers h (InPlace events old cpus id bundle config r new made run among are) =
        subst (λ (es : Entries). AreLeft m (left_in k es)) (sym are) (in_place old new cpus id bundle config r made k (run_known single events first old h run) among)
    known_ends first k containers h (InUpdate events old id bundle config r new made run among are) =
        subst (λ (es : Entries). AreLeft m (left_in k es)) (sym are) (in_update old new id bundle config r made k (run_known single events first old h run) among)

    pub any_leave : BootsNodes → (left : List Left) → Leaves m left → AreLeft m left
    any_leave nodes left (Once first k containers boots ends) = known_ends first k containers (first_known nodes first boots) ends
    any_leave nodes left (Halfway same tries taken earlier t) = any_leave nodes same earlier
    any_leave nodes left (Again before tries taken k containers earlier t ends) =
        known_ends taken k containers (run_known single tries t.first taken (first_known nodes t.first t.boots) t.run) ends

-- the laws
module _ (keep : RunsKeep) (single : RebalancesAreWrites) (place_calls : PlacesAreCalls) (place_safe : PlacesStaySafe) (update_calls : UpdatesAreCalls)
    (update_safe : UpdatesStaySafe) (nodes : BootsNodes) where
  pub ends_are_left : EndsAreLeft
  ends_are_left m first k containers layout boots ends =
      known_ends m layout keep single place_calls place_safe update_calls update_safe first k containers (first_known m layout keep nodes first boots) ends

  pub restarts_go_on : RestartsGoOn
  restarts_go_on m left layout leaves = any_leave m layout keep single place_calls place_safe update_calls update_safe nodes left leaves
