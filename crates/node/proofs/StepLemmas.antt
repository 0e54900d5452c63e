-- What a step of the hand-over that is open leaves of what holds of a node.
use Rattle.std.proofs.Common.{◌≡◌, inl, inr, ◌<◌, ◌≤◌, ◌+◌, ◌*◌, length, false, List, Option, Some, None, refl, sym, ap, ◌∙◌, subst, arith}
use Rattle.std.proofs.lemmas.Option.{none-some, same_Some}
use Rattle.std.specs.Prelude.{is_none, map, Result, Ok, Err, OnErr}
use Rattle.std.specs.List.{AllByRecursion}
use Rattle.cpuset_tree.specs.declared.Group.{Group}
use Rattle.cpuset_tree.specs.Groups.{same_group, is_root_entry, cpus_in, mems_in}
use Rattle.kernel_model.specs.declared.KernelFault.{KernelFault}
use Rattle.kernel_model.specs.KernelState.{KernelState, writes}
use Rattle.kernel_model.specs.Laws.{StepKeeps}
use Rattle.apply_plan.specs.declared.Progress.{Progress}
use Rattle.apply_plan.specs.declared.Progress.TheVariants.{More, Done}
use Rattle.apply_plan.specs.Holders.{IsSafe}
use Rattle.apply_plan.specs.Targets.{holders_of}
use Rattle.apply_plan.specs.Targets as plan
use Rattle.apply_plan.specs.DueWrite.{HaveTargets}
use Rattle.apply_plan.specs.Leaves.{KeepsRest}
use Rattle.apply_plan.specs.Runs.{IsOpen}
use Rattle.apply_plan.specs.Directed.{Serves}
use Rattle.apply_plan.specs.OnWay.{AreOnWay}
use Rattle.apply_plan.specs.Squeezes.{SqueezesOnlyStuck}
use Rattle.machine.specs.Layout.{Layout}
use Rattle.node.specs.declared.fault.NodeFault.{NodeFault}
use Rattle.node.specs.declared.fault.NodeFault.TheVariants.{Busy, BadId, IdInUse, TooManyContainers, NoContainer, NotCreated, NotRunnable, BadSignal, NotLive, NotStopped, NoHandover, NoAnswer, NotFree, Config, Demand, Kernel}
use Rattle.node.specs.declared.order.Order.{Order}
use Rattle.node.specs.declared.order.Order.TheVariants.{InTurn, Directly}
use Rattle.node.specs.declared.phase.Phase.{Phase}
use Rattle.node.specs.declared.phase.Phase.TheVariants.{Settled, Unsettled}
use Rattle.node.specs.NodeState.{Ongoing, NodeState, is_underway}
use Rattle.node.specs.Owners.{Owner, owners_of}
use Rattle.node.specs.Ongoing.{AreOf, AreSince, IsOngoing, Stands, IsBroken}
use Rattle.node.specs.LeastCores.{least_cores}
use Rattle.node.specs.Orders.{directed_of, StepsBy, WritesBy, MissesBy, left_of, FallsBy, made_by}
use Rattle.node.specs.IsNode.{IsHome, IsShallow, IsPlaced, IsFirst, Holds, IsNode}
use Rattle.node.specs.Leaves.{rise_of}
use Rattle.node.specs.Rebalance.{Stepped, StepsOn, Writes, Misses}
use Rattle.node.proofs.ListLemmas.{all_map}
use Rattle.node.proofs.OrderLemmas.{StepLeft, WriteLeft, OrdersLeave, serves_it}
use Rattle.node.proofs.HoldsLemmas.{same_owned}
use Rattle.node.proofs.OngoingLemmas.{of_entries, entries_safe, owners_safe, same_of, none_open}
use Rattle.node.proofs.LaunchLemmas.{Stays, child_differs, is_there}
use Rattle.node.proofs.NodeLemmas.{kernel_node}

module _ (parent : Group) (owners : List Owner) where
  -- what steps leave of the containers, of the hand-over and of the rest of the kernel
  pub record Moved (o : Ongoing) (old new : KernelState) : Type 0 where
    pub stays : Stays old new parent owners
    pub ongoing : IsOngoing new owners o
    pub rest : KeepsRest o.targets old new

  -- the hand-over of a node's containers may go on
  pub is_open : (k : KernelState) → Holds k parent owners → (o : Ongoing) → IsOngoing k owners o → IsOpen o.targets k
  is_open k h o g = record {
    handover = g.handover;
    well_formed = h.kernel;
    placed = of_entries k (λ x. plan.IsPlaced k x.group) o.targets.entries owners g.of
        (all_map (IsPlaced k.tree parent) (λ w. plan.IsPlaced k w.holder.group)
        (λ w c. record { there = is_there k.tree w.holder.group c.entry c.there; below = ap is_root_entry c.there ∙ ap is_none c.below }) owners h.placed);
    given = of_entries k (λ x. x.pid < k.table.next_pid) o.targets.entries owners g.of
        (all_map (λ w. IsFirst k.table w.holder) (λ w. w.holder.pid < k.table.next_pid) (λ w f. f.given) owners h.first);
  }

  -- where this is what a step or a write leaves
  module _ (o : Ongoing) (old new : KernelState) (h : Holds old parent owners) (g : IsOngoing old owners o) (rest : KeepsRest o.targets old new)
      (keeps_safe : IsSafe old o.targets.reserved (holders_of o.targets.entries) → IsSafe new o.targets.reserved (holders_of o.targets.entries))
      (keeps_since : o.targets.reserved ≡ old.reserved → AreSince o.order old o → AreSince o.order new o) (kernel : StepKeeps old new) where
    -- the containers' parent is no entry's group
    apart : AllByRecursion (λ e. same_group e.group parent ≡ false) o.targets.entries
    apart =
        of_entries old (λ x. same_group x.group parent ≡ false) o.targets.entries owners g.of
        (all_map (IsPlaced old.tree parent) (λ w. same_group w.holder.group parent ≡ false)
        (λ w c. child_differs old.tree w.holder.group parent c.entry h.kernel.tree c.there c.below) owners h.placed)

    home : IsHome new.tree parent
    home =
        let now = rest.alike.after parent h.home.entry h.home.there in
        record {
          entry = now.entry;
          root = h.home.root;
          there = now.there;
          top = rest.alike.root ∙ h.home.top;
          below = sym now.place.parent ∙ h.home.below;
          name = sym now.place.name ∙ h.home.name;
          free_cpus = sym (ap cpus_in now.there) ∙ rest.others parent apart ∙ ap cpus_in h.home.there ∙ h.home.free_cpus;
          free_mems = sym (ap mems_in now.there) ∙ rest.mems parent ∙ ap mems_in h.home.there ∙ h.home.free_mems;
        }

    shallow : IsShallow new.tree parent
    shallow p q e there below =
        let was = rest.alike.before p e there in
        elim (h.shallow p q was.entry was.there (sym was.place.parent ∙ below)) [ inl home ↦ inl home | inr root ↦ inr (rest.alike.root ∙ root) ]

    placed : (w : Owner) → IsPlaced old.tree parent w → IsPlaced new.tree parent w
    placed w c =
        let now = rest.alike.after w.holder.group c.entry c.there in
        record { entry = now.entry; there = now.there; below = sym now.place.parent ∙ c.below; named = sym now.place.name ∙ c.named }

    of : AreOf new o.targets.entries owners
    of = same_of old new rest.table o.targets.entries owners g.of

    -- the reserved CPUs are the hand-over's
    reserve : o.targets.reserved ≡ new.reserved
    reserve = g.reserved ∙ sym rest.reserved

    safe : IsSafe new new.reserved (map (λ w. w.holder) owners)
    safe =
        owners_safe new new.reserved o.targets.entries owners of
        (subst (λ s. IsSafe new s (holders_of o.targets.entries)) reserve
        (keeps_safe (subst (λ s. IsSafe old s (holders_of o.targets.entries)) (sym g.reserved) (entries_safe old old.reserved o.targets.entries owners g.of h.safe))))

    since : AreSince o.order new o
    since = keeps_since g.reserved g.since

    pub moved : Moved o old new
    moved = record {
      stays = record {
        holds = record {
          kernel = kernel.well_formed;
          home = home;
          shallow = shallow;
          distinct = h.distinct;
          placed = all_map (IsPlaced old.tree parent) (IsPlaced new.tree parent) placed owners h.placed;
          first = all_map (λ w. IsFirst old.table w.holder) (λ w. IsFirst new.table w.holder) (λ w f. subst (λ t. IsFirst t w.holder) (sym rest.table) f) owners h.first;
          owned = same_owned old.table new.table owners h.owned rest.table;
          safe = safe;
        };
        machine = kernel.machine;
      };
      ongoing = record { handover = g.handover; reserved = reserve; of = of; ranged = g.ranged; since = since };
      rest = rest;
    }

-- what a step is of the hand-over that is open
pub its_steps : (old : NodeState) (o : Ongoing) → old.ongoing ≡ Some o → (new : NodeState) (r : Result Progress KernelFault) (phase : Phase) (ongoing : Option Ongoing)
    → Stepped old r phase ongoing new → StepsBy o.order old.machine o old.kernel r new.kernel
its_steps old o was new r phase ongoing s = subst (λ (x : Ongoing). StepsBy x.order old.machine x old.kernel r new.kernel) (same_Some s.handover o (sym s.was ∙ was)) s.steps

-- what one of the writes is of it
pub its_writes : (old : NodeState) (o : Ongoing) → old.ongoing ≡ Some o → (new : NodeState) → Writes old new → WritesBy o.order old.machine o old.kernel new.kernel
its_writes old o was new s = subst (λ (x : Ongoing). WritesBy x.order old.machine x old.kernel new.kernel) (same_Some s.handover o (sym s.was ∙ was)) s.writes

-- and one that fails
pub its_misses : (old : NodeState) (o : Ongoing) → old.ongoing ≡ Some o → (fault : KernelFault) (new : NodeState) → Misses old fault new
    → MissesBy o.order old.machine o old.kernel fault new.kernel
its_misses old o was fault new s =
    subst (λ (x : Ongoing). MissesBy x.order old.machine x old.kernel fault new.kernel) (same_Some s.handover o (sym s.was ∙ was)) s.misses

-- in turn one that fails is a step
pub turn_miss : (order : Order) → order ≡ InTurn → (m : Layout) (o : Ongoing) (old : KernelState) (fault : KernelFault) (new : KernelState)
    → MissesBy order m o old fault new → StepsBy order m o old (Err fault) new
turn_miss InTurn is m o old fault new s = s
turn_miss Directly is m o old fault new s = absurd (let no : ⊥ = cc is in no)

-- in turn it is a step after which more are to come
pub turn_step : (order : Order) → order ≡ InTurn → (m : Layout) (o : Ongoing) (old new : KernelState) → WritesBy order m o old new → StepsBy order m o old (Ok More) new
turn_step InTurn is m o old new s = s
turn_step Directly is m o old new s = absurd (let no : ⊥ = cc is in no)

-- the same of what it answered
pub answered : (order : Order) (m : Layout) (o : Ongoing) (old new : KernelState) (p q : Progress) → p ≡ q → StepsBy order m o old (Ok p) new
    → StepsBy order m o old (Ok q) new
answered order m o old new p q is s = subst (λ (x : Progress). StepsBy order m o old (Ok x) new) is s

-- how many writes are to come of the hand-over that is open, and of none where none is
pub few_to_come : (n now : NodeState) → n ≡ now → (o : Ongoing) → n.ongoing ≡ Some o → left_of o n.kernel ≤ 2 * length o.targets.entries
    → (x : Ongoing) → now.ongoing ≡ Some x → left_of x now.kernel ≤ 2 * length x.targets.entries
few_to_come n now is o was few x now_is =
    subst (λ (m : NodeState). left_of x m.kernel ≤ 2 * length x.targets.entries) is
    (subst (λ (y : Ongoing). left_of y n.kernel ≤ 2 * length y.targets.entries) (same_Some o x (sym was ∙ ap (λ (m : NodeState). m.ongoing) is ∙ now_is)) few)

-- a node whose hand-over is open
module _ (law : OrdersLeave) (n : NodeState) (h : IsNode n) (o : Ongoing) (was : n.ongoing ≡ Some o) where
  abbrev Owners : List Owner
  Owners = owners_of n.containers

  stands : Stands n.kernel Owners (is_underway n.phase) (Some o)
  stands = subst (Stands n.kernel Owners (is_underway n.phase)) was h.stands

  pub open_now : IsOpen o.targets n.kernel
  open_now = is_open n.parent Owners n.kernel h.holds o stands.1

  -- what its containers request is safe
  pub safe_now : IsSafe n.kernel o.targets.reserved (holders_of o.targets.entries)
  safe_now =
      subst (λ s. IsSafe n.kernel s (holders_of o.targets.entries)) (sym stands.1.reserved)
      (entries_safe n.kernel n.kernel.reserved o.targets.entries Owners stands.1.of h.holds.safe)

  -- the machine's places serve it
  pub served_now : Serves (directed_of o) (least_cores n.machine)
  served_now = serves_it n.machine o h.layout.sound stands.1.ranged

  -- the hand-over stays open
  node_at : (new : KernelState) → Moved n.parent Owners o n.kernel new → IsNode (record n { kernel = new })
  node_at new moved_on = kernel_node n h new moved_on.stays (subst (Stands new Owners (is_underway n.phase)) (sym was) (stands.0, moved_on.ongoing))

  -- and the same once it is over
  over_at : (new : KernelState) → Moved n.parent Owners o n.kernel new → (phase : Phase) → is_underway phase ≡ false
      → IsNode (record n { kernel = new; phase = phase; ongoing = None })
  over_at new moved_on phase settled =
      let still = node_at new moved_on in
      record {
        layout = still.layout;
        machine = still.machine;
        holds = still.holds;
        few = still.few;
        asked = still.asked;
        stands = settled;
        proved = still.proved;
      }

  -- one of the writes that are made all at once, which fails
  module _ (fault : KernelFault) (new : KernelState) (s : MissesBy o.order n.machine o n.kernel fault new) where
    pub missed : StepLeft o.order n.machine o n.kernel (Err fault) new
    missed = law.miss o.order n.machine o n.kernel fault new h.layout.sound stands.1.ranged open_now s

    pub missed_on : Moved n.parent Owners o n.kernel new
    missed_on = moved n.parent Owners o n.kernel new h.holds stands.1 missed.rest missed.safe missed.since missed.kernel

    pub missed_node : IsNode (record n { kernel = new; phase = Unsettled; ongoing = None })
    missed_node = over_at new missed_on Unsettled refl

  -- one of the writes that are made all at once
  module _ (new : KernelState) (s : WritesBy o.order n.machine o n.kernel new) where
    pub wrote : WriteLeft o.order n.machine o n.kernel new
    wrote = law.write o.order n.machine o n.kernel new h.layout.sound stands.1.ranged open_now s

    pub wrote_node : IsNode (record n { kernel = new })
    wrote_node = node_at new (moved n.parent Owners o n.kernel new h.holds stands.1 wrote.rest wrote.safe wrote.since wrote.kernel)

  module _ (new : KernelState) (r : Result Progress KernelFault) (s : StepsBy o.order n.machine o n.kernel r new) where
    pub leaves : StepLeft o.order n.machine o n.kernel r new
    leaves = law.step o.order n.machine o n.kernel r new h.layout.sound stands.1.ranged open_now s

    pub moved_on : Moved n.parent Owners o n.kernel new
    moved_on = moved n.parent Owners o n.kernel new h.holds stands.1 leaves.rest leaves.safe leaves.since leaves.kernel

    -- a step after which more are to come, and one that ends the hand-over
    pub more_node : IsNode (record n { kernel = new })
    more_node = node_at new moved_on

    pub ended_node : (phase : Phase) → is_underway phase ≡ false → IsNode (record n { kernel = new; phase = phase; ongoing = None })
    ended_node = over_at new moved_on

    pub broken : IsBroken o n.kernel new
    broken = record { since = moved_on.ongoing.since; rest = moved_on.rest }

    -- the same of the node as the program keeps it
    pub kept_open : (x : Ongoing) → x ≡ o → IsNode (record n { kernel = new; ongoing = Some x })
    kept_open x same = subst (λ (y : Option Ongoing). IsNode (record n { kernel = new; ongoing = y })) (was ∙ ap (λ (y : Ongoing). Some y) (sym same)) more_node

    pub closed : (phase : Phase) → is_underway phase ≡ false → (x : Option Ongoing) → x ≡ None → IsNode (record n { kernel = new; phase = phase; ongoing = x })
    closed phase settled x none = subst (λ (y : Option Ongoing). IsNode (record n { kernel = new; phase = phase; ongoing = y })) (sym none) (ended_node phase settled)

    module _ (now : NodeState) (is : n ≡ now) where
      pub went_on : (x : Ongoing) → x ≡ o → Stepped now r now.phase now.ongoing (record n { kernel = new; ongoing = Some x })
      went_on x same = subst (λ (m : NodeState). Stepped m r m.phase m.ongoing (record n { kernel = new; ongoing = Some x })) is (record {
        handover = o;
        was = was;
        steps = s;
        is = ap (λ (y : Option Ongoing). record n { kernel = new; ongoing = y }) (ap (λ (y : Ongoing). Some y) same ∙ sym was);
      })

      pub came_to_end : (phase : Phase) (x : Option Ongoing) → x ≡ None → Stepped now r phase None (record n { kernel = new; phase = phase; ongoing = x })
      came_to_end phase x none = subst (λ (m : NodeState). Stepped m r phase None (record n { kernel = new; phase = phase; ongoing = x })) is (record {
        handover = o;
        was = was;
        steps = s;
        is = ap (λ (y : Option Ongoing). record n { kernel = new; phase = phase; ongoing = y }) none;
      })

-- what is said of a step, by what it answers
module _ (old : NodeState) (P : Result Progress NodeFault → NodeState → Type 0)
    (more : (new : NodeState) → Stepped old (Ok More) old.phase old.ongoing new → P (Ok More) new)
    (done : (new : NodeState) → Stepped old (Ok Done) Settled None new → P (Ok Done) new)
    (failed : (fault : KernelFault) (new : NodeState) → Stepped old (Err fault) Unsettled None new → P (Err (Kernel fault)) new)
    (none : (new : NodeState) → is_underway old.phase ≡ false → new ≡ old → P (Err NoHandover) new) where
  by_answer : (r : Result Progress NodeFault) (new : NodeState) → StepsOn old r new → P r new
  by_answer (Ok More) new s = more new s
  by_answer (Ok Done) new s = done new s
  by_answer (Err (Kernel fault)) new s = failed fault new s
  by_answer (Err NoHandover) new s = none new s.0 s.1
  by_answer (Err Busy) new s = absurd s
  by_answer (Err BadId) new s = absurd s
  by_answer (Err IdInUse) new s = absurd s
  by_answer (Err TooManyContainers) new s = absurd s
  by_answer (Err NoContainer) new s = absurd s
  by_answer (Err NotCreated) new s = absurd s
  by_answer (Err NotRunnable) new s = absurd s
  by_answer (Err BadSignal) new s = absurd s
  by_answer (Err NotLive) new s = absurd s
  by_answer (Err NotStopped) new s = absurd s
  by_answer (Err NoAnswer) new s = absurd s
  by_answer (Err (NotFree cpu)) new s = absurd s
  by_answer (Err (Config fault)) new s = absurd s
  by_answer (Err (Demand fault)) new s = absurd s

-- what a step says of the hand-over that was open
pub record Says (old : NodeState) (o : Ongoing) (r : Result Progress NodeFault) (new : NodeState) : Type 0 where
  pub falls : r ≡ Ok More → FallsBy o.order o.targets old.kernel new.kernel
  pub done : r ≡ Ok Done → HaveTargets new.kernel o.targets.entries
  pub broken : OnErr r (IsBroken o old.kernel new.kernel)
  pub made : writes new.kernel ≡ writes old.kernel + made_by o.order old.machine o old.kernel
  pub squeezes : o.order ≡ Directly → SqueezesOnlyStuck (directed_of o) (least_cores old.machine) old.kernel new.kernel
  pub way : o.order ≡ Directly → AreOnWay (directed_of o) old.kernel new.kernel

module _ (law : OrdersLeave) (old : NodeState) (h : IsNode old) where
  -- where none was open, nothing is said
  pub says : (o : Ongoing) → old.ongoing ≡ Some o → (r : Result Progress NodeFault) (new : NodeState) → StepsOn old r new → Says old o r new
  says o was =
      by_answer old (Says old o)
      (λ new s.
      let left = leaves law old h o was new.kernel (Ok More) (its_steps old o was new (Ok More) old.phase old.ongoing s) in
      record { falls = λ _. left.falls refl; done = λ e. absurd (let x : ⊥ = cc e in x); broken = tt; made = left.made; squeezes = left.squeezes; way = left.way })
      (λ new s.
      let left = leaves law old h o was new.kernel (Ok Done) (its_steps old o was new (Ok Done) Settled None s) in
      record { falls = λ e. absurd (let x : ⊥ = cc e in x); done = λ _. left.done refl; broken = tt; made = left.made; squeezes = left.squeezes; way = left.way })
      (λ fault new s.
      let steps = its_steps old o was new (Err fault) Unsettled None s in
      let left = leaves law old h o was new.kernel (Err fault) steps in
      record {
        falls = λ e. absurd (let x : ⊥ = cc e in x);
        done = λ e. absurd (let x : ⊥ = cc e in x);
        broken = broken law old h o was new.kernel (Err fault) steps;
        made = left.made;
        squeezes = left.squeezes;
        way = left.way;
      })
      (λ new settled same. absurd (none-some o (sym (none_open old.kernel (owners_of old.containers) (is_underway old.phase) settled old.ongoing h.stands) ∙ was)))

  pub counts : (r : Result Progress NodeFault) (new : NodeState) → StepsOn old r new → new.kernel.failures ≡ old.kernel.failures + rise_of r
  counts =
      by_answer old (λ r new. new.kernel.failures ≡ old.kernel.failures + rise_of r)
      (λ new s. (leaves law old h s.handover s.was new.kernel (Ok More) s.steps).counted)
      (λ new s. (leaves law old h s.handover s.was new.kernel (Ok Done) s.steps).counted)
      (λ fault new s. (leaves law old h s.handover s.was new.kernel (Err fault) s.steps).counted)
      (λ new settled same. let e : new.kernel.failures ≡ old.kernel.failures = ap (λ (n : NodeState). n.kernel.failures) same in omega (arith, e))

  pub broken_off : (r : Result Progress NodeFault) (new : NodeState) → StepsOn old r new → OnErr r ((o : Ongoing) → old.ongoing ≡ Some o → IsBroken o old.kernel new.kernel)
  broken_off (Ok progress) new s = tt
  broken_off (Err fault) new s = λ o was. (says o was (Err fault) new s).broken
