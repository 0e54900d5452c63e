-- What a rebalance leaves: the headline, what the certificate tells of it, and what a failed write leaves.
use Rattle.std.proofs.Common.{◌≡◌, ℕ, ◌+◌, ◌*◌, ◌≤◌, length, true, false, not, cond, ◌&&◌, ◌||◌, List, [], ◌∷◌, Option, Some, refl, sym, ap, ◌∙◌, subst, arith}
use Rattle.std.proofs.lemmas.Bool.{false≢true, and_from, and_left, and_right}
use Rattle.std.proofs.lemmas.List.Elements.{recursion_from_All}
use Rattle.std.specs.Prelude.{Result, Ok, Err}
use Rattle.std.specs.List.{AllByRecursion}
use Rattle.std.specs.FinSet as set
use Rattle.cpu_set.specs.Ids.{Ids, IsDisjoint}
use Rattle.cpuset_tree.specs.declared.Group.{Group}
use Rattle.cpuset_tree.specs.Effective.{effective_cpus}
use Rattle.proctable.specs.Processes.{is_alive}
use Rattle.kernel_model.specs.KernelState.{KernelState, writes}
use Rattle.demand.specs.declared.Kind.{Kind}
use Rattle.demand.specs.declared.Kind.TheVariants.{Pinned, Shared}
use Rattle.demand.specs.declared.Demand.{Demand}
use Rattle.machine.specs.Layout.{Layout}
use Rattle.certificate.specs.IsLeast.{IsLeast}
use Rattle.certificate.specs.Cost.{cost}
use Rattle.certificate.specs.declared.certificates.Certificate.{Certificate}
use Rattle.rows.specs.Scaled.{ScaledRowsWeigh}
use Rattle.rows.specs.Weighs.{RowsWeigh}
use Rattle.faults.specs.declared.OrMemory.{OrMemory}
use Rattle.faults.specs.declared.OrMemory.TheVariants.{Memory, Fault}
use Rattle.kernel_model.specs.declared.KernelFault.{KernelFault}
use Rattle.apply_plan.specs.Holders.{Pairwise}
use Rattle.apply_plan.specs.DueWrite.{writes_to_come}
use Rattle.apply_plan.specs.MayWrite.{left_directly}
use Rattle.apply_plan.specs.Effects.{HasFreeParent, TargetsTakeEffect}
use Rattle.node.specs.declared.fault.NodeFault.{NodeFault}
use Rattle.node.specs.declared.fault.NodeFault.TheVariants.{Busy, Kernel}
use Rattle.node.specs.declared.order.Order.{Order}
use Rattle.node.specs.declared.order.Order.TheVariants.{InTurn, Directly}
use Rattle.node.specs.declared.outcome.Outcome.{Outcome}
use Rattle.node.specs.declared.outcome.Outcome.TheVariants.{Plan, Short}
use Rattle.node.specs.declared.phase.Phase.TheVariants.{Underway}
use Rattle.node.specs.NodeState.{ContainerState, NodeState}
use Rattle.node.specs.Owners.{Owner, is_pinned, owner_of, owners_of}
use Rattle.node.specs.Status.{is_live}
use Rattle.node.specs.IsNode.{IsHome, IsPlaced, Holds, IsKept, IsNode}
use Rattle.node.specs.Rows.{as_cores, as_cpus, rows_of, planned}
use Rattle.node.specs.Best.{is_asking, CouldHave, IsBest}
use Rattle.node.specs.Entries.{Target, entry_of, plan_pool, plan_targets, plan_entries, opened}
use Rattle.node.specs.Rebalance.{Begun, Lacks, Begins, Moves, Finishes, Rebalances}
use Rattle.node.specs.Leaves.{fault_rise, rise_or_memory}
use Rattle.node.specs.Headline.{effective, HasItsCpus, IsServed, AreAlone, effective_sets, IsRebalanced, Headline}
use Rattle.node.specs.Tells.{IsTold, TellsPlan, Tells}
use Rattle.node.specs.BreaksOff.{IsBrokenOff, BreaksOff}
use Rattle.node.specs.RebalanceLeaves.{RebalanceLeaves}
use Rattle.node.proofs.ListLemmas.{all_map, all_map2, pairs_map, all_of_map, of_all_map}
use Rattle.node.proofs.AskingLemmas.{home, rows_are_weighed, short_stands}
use Rattle.node.proofs.DistanceLemmas.{plan_back}
use Rattle.node.specs.Orders.{left_of}
use Rattle.node.specs.Written.{live_count, MakesThose, RebalanceWrites}
use Rattle.node.proofs.EntryCount.{entries_live}
use Rattle.node.proofs.BestLemmas.{best_costs, best_least}
use Rattle.node.proofs.FinishLemmas.{Settles, Breaks, settles, breaks}
use Rattle.node.proofs.OrderLemmas.{OrdersLeave, FewBy}
use Rattle.node.proofs.PlanLemmas.{IsDealt, over_targets, pool_has_rest, plan_serves, plan_parts, plan_effects, opened_ongoing, effects_later}
use Rattle.certificate.specs.PlanFault.{is_held}

abbrev Container : Type 0
Container = List ℕ × ContainerState

-- the parent of a container's group requests nothing
free_parent : (k : KernelState) (parent : Group) → IsHome k.tree parent → (o : Owner) → IsPlaced k.tree parent o → HasFreeParent k o.holder.group
free_parent k parent home o placed = record {
  entry = placed.entry;
  above = home.entry;
  below = record {
    root = home.root;
    parent = parent;
    top = home.top;
    there = placed.there;
    below = placed.below;
    parent_there = home.there;
    parent_below = home.below;
  };
  free = home.free_cpus;
}

pub free_parents : (k : KernelState) (parent : Group) (owners : List Owner) → Holds k parent owners → AllByRecursion (λ o. HasFreeParent k o.holder.group) owners
free_parents k parent owners h = all_map (IsPlaced k.tree parent) (λ o. HasFreeParent k o.holder.group) (free_parent k parent h.home) owners h.placed

-- what a container has while the same CPUs are online
still_its : (k new : KernelState) → new.tree.online ≡ k.tree.online → (m : Layout) (pool : Ids) (d : Demand) (kind : Kind) (cpus : Ids)
    → HasItsCpus k m pool d kind cpus → HasItsCpus new m pool d kind cpus
still_its k new same m pool d (Pinned count) cpus h = record {
  size = h.size;
  each = λ cpu c. ((h.each cpu c).0, ap (λ s. set.contains s cpu) same ∙ (h.each cpu c).1);
  whole = h.whole;
}
still_its k new same m pool d Shared cpus h = h

-- once the hand-over to a plan is open
abbrev underway : Order → NodeState → List Ids → Option Certificate → NodeState
underway order old sets last = record old { pool = plan_pool old sets; phase = Underway; ongoing = Some (opened order old sets); last = last }

-- and once it has ended
module _ (order : Order) (old : NodeState) (h : IsNode old) (effects : TargetsTakeEffect) (sets : List Ids) (plan_could : CouldHave old sets)
    (last : Option Certificate) (new : NodeState) (s : Settles (opened order old sets) (underway order old sets last) new) where
  still_live : (c : ContainerState) → is_live new.kernel c ≡ is_live old.kernel c
  still_live c = ap (λ t. is_alive t c.pid) s.table

  -- a fact on the containers, the sets and the targets, from the last container to the first
  over_plan : (P : List Container → List Ids → List Target → Type 0) → P [] [] []
      → ((e : Container) (later : List Container) (ss : List Ids) (ts : List Target) → is_live old.kernel e.1 ≡ false → P later ss ts → P (e ∷ later) ss ts)
      → ((e : Container) (later : List Container) (ss : List Ids) (ts : List Target) → is_live old.kernel e.1 ≡ true → e.1.demand.kind ≡ Shared → P later ss ts
      → P (e ∷ later) ss ((e, plan_pool old sets) ∷ ts))
      → ((e : Container) (later : List Container) (c : Ids) (ss : List Ids) (ts : List Target) → IsDealt old.kernel old.machine e c → P later ss ts
      → P (e ∷ later) (c ∷ ss) ((e, c) ∷ ts)) → P old.containers sets (plan_targets old sets)
  over_plan P none dead shared pinned =
      over_targets old.kernel old.machine (plan_pool old sets) P none dead shared pinned old.containers h.asked sets plan_could.own

  -- what holds of each container holds of those that get something
  targets_all : (P : Container → Type 0) → AllByRecursion P old.containers → AllByRecursion (λ p. P p.0) (plan_targets old sets)
  targets_all P = over_plan (λ es ss ts. AllByRecursion P es → AllByRecursion (λ p. P p.0) ts) (λ all. tt) (λ e later ss ts dead on all. on all.1)
      (λ e later ss ts live kind on all. (all.0, on all.1)) (λ e later c ss ts dealt on all. (all.0, on all.1))

  targets_live : AllByRecursion (λ p. is_live old.kernel p.0.1 ≡ true) (plan_targets old sets)
  targets_live = over_plan (λ es ss ts. AllByRecursion (λ p. is_live old.kernel p.0.1 ≡ true) ts) tt (λ e later ss ts dead on. on)
      (λ e later ss ts live kind on. (live, on)) (λ e later c ss ts dealt on. (dealt.live, on))

  -- what holds of those that get something holds of each live container
  live_all : (P : Container → Type 0) → AllByRecursion (λ p. P p.0) (plan_targets old sets) → AllByRecursion (λ e. is_live new.kernel e.1 ≡ true → P e) old.containers
  live_all P = over_plan (λ es ss ts. AllByRecursion (λ p. P p.0) ts → AllByRecursion (λ e. is_live new.kernel e.1 ≡ true → P e) es) (λ all. tt)
      (λ e later ss ts dead on all. (λ live. absurd (false≢true (sym dead ∙ sym (still_live e.1) ∙ live)), on all))
      (λ e later ss ts live kind on all. (λ _. all.0, on all.1)) (λ e later c ss ts dealt on all. (λ _. all.0, on all.1))

  -- each that gets something has it in effect
  parents : AllByRecursion (λ e. HasFreeParent new.kernel e.1.group) old.containers
  parents =
      of_all_map owner_of (λ o. HasFreeParent new.kernel o.holder.group) old.containers
      (subst (λ (es : List Container). AllByRecursion (λ o. HasFreeParent new.kernel o.holder.group) (owners_of es)) s.containers
      (free_parents new.kernel new.parent (owners_of new.containers) s.node.holds))

  take_effect : AllByRecursion (λ e. is_alive new.kernel.table e.pid ≡ true → effective_cpus new.kernel.tree e.group ≡ e.target) (plan_entries old sets)
  take_effect =
      effects new.kernel (plan_entries old sets) s.node.holds.kernel
      (all_of_map entry_of (λ e. HasFreeParent new.kernel e.group) (plan_targets old sets) (targets_all (λ e. HasFreeParent new.kernel e.1.group) parents))
      (effects_later old.kernel new.kernel s.online (plan_entries old sets) (plan_effects old h sets plan_could)) s.targets

  abbrev HasIt : Target → Type 0
  HasIt p = effective new.kernel p.0 ≡ p.1

  in_effect : AllByRecursion HasIt (plan_targets old sets)
  in_effect =
      all_map2 (λ p. is_live old.kernel p.0.1 ≡ true) (λ p. is_live new.kernel p.0.1 ≡ true → HasIt p) HasIt (λ p live has. has (still_live p.0.1 ∙ live))
      (plan_targets old sets) targets_live
      (of_all_map entry_of (λ e. is_alive new.kernel.table e.pid ≡ true → effective_cpus new.kernel.tree e.group ≡ e.target) (plan_targets old sets) take_effect)

  -- which is what it asked for
  abbrev HasIts : Container → Type 0
  HasIts e = HasItsCpus new.kernel old.machine new.pool e.1.demand e.1.demand.kind (effective new.kernel e)

  its : (p : Target) → HasIt p → HasItsCpus old.kernel old.machine (plan_pool old sets) p.0.1.demand p.0.1.demand.kind p.1 → HasIts p.0
  its p is has =
      subst (λ cpus. HasItsCpus new.kernel old.machine new.pool p.0.1.demand p.0.1.demand.kind cpus) (sym is)
      (subst (λ pool. HasItsCpus new.kernel old.machine pool p.0.1.demand p.0.1.demand.kind p.1) (sym s.pool)
      (still_its old.kernel new.kernel s.online old.machine (plan_pool old sets) p.0.1.demand p.0.1.demand.kind p.1 has))

  served : AllByRecursion (IsServed new.kernel old.machine new.pool) old.containers
  served = live_all HasIts
      (all_map2 HasIt (λ p. HasItsCpus old.kernel old.machine (plan_pool old sets) p.0.1.demand p.0.1.demand.kind p.1) (λ p. HasIts p.0) its (plan_targets old sets) in_effect
      (plan_serves old h sets plan_could))

  -- and nobody else has
  abbrev AreDisjoint : Container → Container → Type 0
  AreDisjoint a b = (is_pinned a.1.demand.kind || is_pinned b.1.demand.kind) ≡ true → IsDisjoint (effective new.kernel a) (effective new.kernel b)

  disjoint : Pairwise (λ p q. AreDisjoint p.0 q.0) (plan_targets old sets)
  disjoint =
      pairs_map HasIt (λ p q. (is_pinned p.0.1.demand.kind || is_pinned q.0.1.demand.kind) ≡ true → IsDisjoint p.1 q.1) (λ p q. AreDisjoint p.0 q.0)
      (λ p q p_is q_is apart pinned cpu in_p in_q.
      apart pinned cpu (ap (λ t. set.contains t cpu) (sym p_is) ∙ in_p) (ap (λ t. set.contains t cpu) (sym q_is) ∙ in_q))
      (plan_targets old sets) in_effect (plan_parts old h sets plan_could)

  -- what holds of each of those that get something with this one holds of each live container with it
  record Beside (es : List Container) (ts : List Target) : Type 0 where
    pairs : Pairwise (AreAlone new.kernel) es
    with_one : (a : Container) → AllByRecursion (λ q. AreDisjoint a q.0) ts → AllByRecursion (AreAlone new.kernel a) es

  beside : Pairwise (λ p q. AreDisjoint p.0 q.0) (plan_targets old sets) → Beside old.containers (plan_targets old sets)
  beside = over_plan (λ es ss ts. Pairwise (λ p q. AreDisjoint p.0 q.0) ts → Beside es ts) (λ all. record { pairs = tt; with_one = λ a one. tt })
      (λ e later ss ts dead on all.
      let rest : Beside later ts = on all in
      record {
        pairs = (
          recursion_from_All (AreAlone new.kernel e) later (λ i d below live. absurd (false≢true (sym dead ∙ sym (still_live e.1) ∙ live))),
          rest.pairs,
        );
        with_one = λ a one. (λ live_a live_e. absurd (false≢true (sym dead ∙ sym (still_live e.1) ∙ live_e)), rest.with_one a one);
      })
      (λ e later ss ts live kind on all. more e (plan_pool old sets) later ts (on all.1) all.0)
      (λ e later c ss ts dealt on all. more e c later ts (on all.1) all.0) where
        more : (e : Container) (c : Ids) (later : List Container) (ts : List Target) → Beside later ts → AllByRecursion (λ q. AreDisjoint e q.0) ts
            → Beside (e ∷ later) ((e, c) ∷ ts)
        more e c later ts rest one = record {
          pairs = (rest.with_one e one, rest.pairs);
          with_one = λ a others. (λ live_a live_e. others.0, rest.with_one a others.1);
        }

  alone : Pairwise (AreAlone new.kernel) old.containers
  alone = (beside disjoint).pairs

  -- what the pinned ones have is the plan
  skipped : (e : Container) (later : List Container) (ss : List Ids) → is_asking new.kernel e ≡ false → effective_sets new.kernel later ≡ ss
      → effective_sets new.kernel (e ∷ later) ≡ ss
  skipped e later ss asks on = ap (λ b. cond b (effective new.kernel e ∷ effective_sets new.kernel later) (effective_sets new.kernel later)) asks ∙ on

  taken : (e : Container) (later : List Container) (c : Ids) (ss : List Ids) → IsDealt old.kernel old.machine e c → effective new.kernel e ≡ c
      → effective_sets new.kernel later ≡ ss → effective_sets new.kernel (e ∷ later) ≡ c ∷ ss
  taken e later c ss dealt is on =
      ap (λ b. cond b (effective new.kernel e ∷ effective_sets new.kernel later) (effective_sets new.kernel later))
      (and_from (is_live new.kernel e.1) (is_pinned e.1.demand.kind) (still_live e.1 ∙ dealt.live) (ap is_pinned dealt.kind))
      ∙ ap (λ x. x ∷ effective_sets new.kernel later) is ∙ ap (λ xs. c ∷ xs) on

  sets_in_effect : AllByRecursion HasIt (plan_targets old sets) → effective_sets new.kernel old.containers ≡ sets
  sets_in_effect = over_plan (λ es ss ts. AllByRecursion HasIt ts → effective_sets new.kernel es ≡ ss) (λ all. refl)
      (λ e later ss ts dead on all. skipped e later ss (and_left (is_live new.kernel e.1) (is_pinned e.1.demand.kind) (still_live e.1 ∙ dead)) (on all))
      (λ e later ss ts live kind on all. skipped e later ss (and_right (is_live new.kernel e.1) (is_pinned e.1.demand.kind) (ap is_pinned kind)) (on all.1))
      (λ e later c ss ts dealt on all. taken e later c ss dealt all.0 (on all.1))

  same_sets : effective_sets new.kernel new.containers ≡ sets
  same_sets = ap (λ (es : List Container). effective_sets new.kernel es) s.containers ∙ sets_in_effect in_effect

  -- and the pool is what the plan leaves
  pool_rest : (cpu : ℕ) → set.contains new.pool cpu ≡ (set.contains new.kernel.tree.online cpu && not (is_held (effective_sets new.kernel new.containers) cpu))
  pool_rest cpu =
      ap (λ pool. set.contains pool cpu) s.pool ∙ pool_has_rest old.kernel.tree.online sets cpu
      ∙ ap (λ online. set.contains online cpu && not (is_held sets cpu)) (sym s.online)
      ∙ ap (λ ss. set.contains new.kernel.tree.online cpu && not (is_held ss cpu)) (sym same_sets)

  -- which is the best that they could have
  pub settled : (total : ℕ) → IsBest old total sets → IsRebalanced old total new
  settled total best = record {
    served = subst (λ (m : Layout). AllByRecursion (IsServed new.kernel m new.pool) new.containers) (sym s.machine)
        (subst (λ (es : List Container). AllByRecursion (IsServed new.kernel old.machine new.pool) es) (sym s.containers) served);
    alone = subst (λ (es : List Container). Pairwise (AreAlone new.kernel) es) (sym s.containers) alone;
    best = subst (λ (ss : List Ids). IsBest old total ss) (sym same_sets) best;
    pool = pool_rest;
    same = s.containers;
    lives = s.table;
  }

  -- and the certificate tells it
  pub told_settled : RowsWeigh → (total : ℕ) → IsBest old total sets → IsTold old sets total last → TellsPlan old total new
  told_settled weigh total best told = record {
    told = subst (λ (ss : List Ids). IsTold old ss total new.last) (sym same_sets) (subst (λ (c : Option Certificate). IsTold old sets total c) (sym s.last) told);
    least = subst (λ (ss : List Ids). IsLeast (rows_of old) (as_cores old.machine ss)) (sym same_sets) (best_least old h weigh total sets best);
    costs = best_costs old h weigh total sets best ∙ ap (λ (ss : List Ids). cost (rows_of old) (as_cores old.machine ss) * old.machine.threads) (sym same_sets);
  }

-- how many writes a hand-over to these sets made
made_those : (order : Order) (old : NodeState) (sets : List Ids) (new : NodeState)
    → (order ≡ InTurn → writes new.kernel ≡ writes old.kernel + writes_to_come (opened order old sets).targets old.kernel)
    → writes new.kernel ≤ writes old.kernel + left_of (opened order old sets) old.kernel → sets ≡ effective_sets new.kernel new.containers → MakesThose order old new
made_those InTurn old sets new exact most same = exact refl ∙ ap (λ (ss : List Ids). writes old.kernel + writes_to_come (opened InTurn old ss).targets old.kernel) same
made_those Directly old sets new exact most same =
    subst (λ (ss : List Ids). writes new.kernel ≤ writes old.kernel + left_directly (opened Directly old ss).targets old.kernel) same most

-- after each of the calls, whatever it answers
module _ (order : Order) (old : NodeState) (h : IsNode old) where
  -- the CPUs that a plan gives
  abbrev begun_sets : {total : ℕ} {mid : NodeState} → Begun order old total mid → List Ids
  begun_sets b = as_cpus old.machine b.plan

  begun_as : (sets : List Ids) → CouldHave old sets → (c : Certificate) → IsKept c → IsNode (underway order old sets (Some c))
  begun_as sets could c kept = record {
    layout = h.layout;
    machine = h.machine;
    holds = h.holds;
    few = h.few;
    asked = h.asked;
    stands = (refl, opened_ongoing old h sets could order);
    proved = kept;
  }

  begun_is : (total : ℕ) (mid : NodeState) (b : Begun order old total mid) → IsNode (underway order old (begun_sets b) (Some (planned old b.plan b.prices b.whole)))
  begun_is total mid b = begun_as (begun_sets b) b.best.could (planned old b.plan b.prices b.whole) b.kept

  pub begun_node : (total : ℕ) (new : NodeState) → Begun order old total new → IsNode new
  begun_node total new b = subst (λ (n : NodeState). IsNode n) (sym b.is) (begun_is total new b)

  pub lacks_node : (wanted : ℕ) (allowed : Ids) (new : NodeState) → Lacks old wanted allowed new → IsNode new
  lacks_node wanted allowed new l = subst (λ (n : NodeState). IsNode n) (sym l.is) (record {
    layout = h.layout;
    machine = h.machine;
    holds = h.holds;
    few = h.few;
    asked = h.asked;
    stands = h.stands;
    proved = l.kept;
  })

  pub begins_node : (r : Result Outcome (OrMemory NodeFault)) (new : NodeState) → Begins order old r new → IsNode new
  begins_node (Ok (Plan total)) new b = begun_node total new b
  begins_node (Ok (Short wanted allowed)) new l = lacks_node wanted allowed new l
  begins_node (Err Memory) new e = subst (λ (n : NodeState). IsNode n) (sym e.1) h
  begins_node (Err (Fault Busy)) new e = subst (λ (n : NodeState). IsNode n) (sym e.1) h
  begins_node (Err (Fault fault)) new e = absurd e

  -- and after its steps
  module _ (law : OrdersLeave) where
    abbrev after_begin : (total : ℕ) (mid : NodeState) → Begun order old total mid → NodeState
    after_begin total mid b = underway order old (begun_sets b) (Some (planned old b.plan b.prices b.whole))

    moved_settles : (total : ℕ) (new : NodeState) (m : Moves order old total (Ok tt) new) → Settles (opened order old (begun_sets m.begun)) (after_begin total m.mid m.begun) new
    moved_settles total new m =
        let b = m.begun in
        settles law (opened order old (begun_sets b)) (after_begin total m.mid b) new (begun_is total m.mid b) refl
        (subst (λ (n : NodeState). Finishes n (Ok tt) new) b.is m.finishes)

    moved_breaks : (total : ℕ) (fault : KernelFault) (new : NodeState) (m : Moves order old total (Err fault) new)
        → Breaks (opened order old (begun_sets m.begun)) fault (after_begin total m.mid m.begun) new
    moved_breaks total fault new m =
        let b = m.begun in
        breaks law (opened order old (begun_sets b)) fault (after_begin total m.mid b) new (begun_is total m.mid b) refl
        (subst (λ (n : NodeState). Finishes n (Err fault) new) b.is m.finishes)

    pub rebalances_node : (r : Result Outcome (OrMemory NodeFault)) (new : NodeState) → Rebalances order old r new → IsNode new
    rebalances_node (Ok (Plan total)) new m = (moved_settles total new m).node
    rebalances_node (Ok (Short wanted allowed)) new l = lacks_node wanted allowed new l
    rebalances_node (Err Memory) new e = begins_node (Err Memory) new e
    rebalances_node (Err (Fault (Kernel fault))) new m = (moved_breaks m.0 fault new m.1).node
    rebalances_node (Err (Fault Busy)) new e = begins_node (Err (Fault Busy)) new e
    rebalances_node (Err (Fault fault)) new e = absurd e

    -- what it told of the cores
    begun_told : RowsWeigh → (total : ℕ) (mid : NodeState) (b : Begun order old total mid) → IsTold old (begun_sets b) total (Some (planned old b.plan b.prices b.whole))
    begun_told weigh total mid b = record {
      prices = b.prices;
      whole = b.whole;
      distance = b.distance;
      parts = b.parts;
      counts = b.counts;
      is = ap (λ (cs : List Ids). Some (planned old cs b.prices b.whole))
          (sym (plan_back old h (home old.machine) (rows_of old) (rows_are_weighed old h weigh) b.plan b.least.plan));
    }

    pub broken_off : RowsWeigh → (total : ℕ) (fault : KernelFault) (new : NodeState) → Moves order old total (Err fault) new → IsBrokenOff order old new
    broken_off weigh total fault new m =
        let b = moved_breaks total fault new m in
        record {
          sets = begun_sets m.begun;
          total = total;
          least = best_least old h weigh total (begun_sets m.begun) m.begun.best;
          best = m.begun.best;
          told = subst (λ (c : Option Certificate). IsTold old (begun_sets m.begun) total c) (sym b.last) (begun_told weigh total m.mid m.begun);
          broken = b.broken;
          counted = b.failures;
          safe = b.node.holds.safe;
          phase = b.phase;
          ongoing = b.ongoing;
          same = b.containers;
        }

    pub breaks_off : RowsWeigh → (r : Result Outcome (OrMemory NodeFault)) (new : NodeState) → Rebalances order old r new → BreaksOff order old r new
    breaks_off weigh (Ok outcome) new m = tt
    breaks_off weigh (Err (Fault (Kernel fault))) new m = broken_off weigh m.0 fault new m.1
    breaks_off weigh (Err (Fault fault)) new e = tt
    breaks_off weigh (Err Memory) new e = tt

    -- a failure is counted, and nothing else is
    pub rebalance_counts : (r : Result Outcome (OrMemory NodeFault)) (new : NodeState) → Rebalances order old r new → new.kernel.failures ≡ old.kernel.failures + rise_or_memory r
    rebalance_counts (Ok (Plan total)) new m = let same : new.kernel.failures ≡ old.kernel.failures = (moved_settles total new m).failures in omega (arith, same)
    rebalance_counts (Ok (Short wanted allowed)) new l = let same : new.kernel.failures ≡ old.kernel.failures = ap (λ (n : NodeState). n.kernel.failures) l.is in omega (arith, same)
    rebalance_counts (Err Memory) new e = let same : new.kernel.failures ≡ old.kernel.failures = ap (λ (n : NodeState). n.kernel.failures) e.1 in omega (arith, same)
    rebalance_counts (Err (Fault (Kernel fault))) new m =
        let left = moved_breaks m.0 fault new m.1 in
        left.failures ∙ ap (λ f. old.kernel.failures + fault_rise (Kernel f)) (sym left.failed)
    rebalance_counts (Err (Fault Busy)) new e = let same : new.kernel.failures ≡ old.kernel.failures = ap (λ (n : NodeState). n.kernel.failures) e.1 in omega (arith, same)
    rebalance_counts (Err (Fault fault)) new e = absurd e

    -- at most two writes for each live container succeed
    module _ (effects : TargetsTakeEffect) (few : FewBy) where
      opened_few : (sets : List Ids) → left_of (opened order old sets) old.kernel ≤ 2 * live_count old
      opened_few sets =
          let most : left_of (opened order old sets) old.kernel ≤ 2 * length (plan_entries old sets) = few order (opened order old sets).targets old.kernel in
          let live : length (plan_entries old sets) ≡ live_count old = entries_live old.kernel (plan_pool old sets) old.containers sets in
          omega (arith, most, live)

      pub rebalance_makes : (r : Result Outcome (OrMemory NodeFault)) (new : NodeState) → Rebalances order old r new → RebalanceWrites order old r new
      rebalance_makes (Ok (Plan total)) new m =
          let b = m.begun in
          let s = moved_settles total new m in
          let most : writes new.kernel ≤ writes old.kernel + left_of (opened order old (begun_sets b)) old.kernel = s.few in
          record {
            exact = made_those order old (begun_sets b) new s.made most
                (sym (same_sets order old h effects (begun_sets b) b.best.could (Some (planned old b.plan b.prices b.whole)) new s));
            few = omega (arith, most, opened_few (begun_sets b));
          }
      rebalance_makes (Ok (Short wanted allowed)) new l = ap (λ (n : NodeState). writes n.kernel) l.is
      rebalance_makes (Err Memory) new e = ap (λ (n : NodeState). writes n.kernel) e.1
      rebalance_makes (Err (Fault (Kernel fault))) new m =
          let most : writes new.kernel ≤ writes old.kernel + left_of (opened order old (begun_sets m.1.begun)) old.kernel + 1 = (moved_breaks m.0 fault new m.1).few in
          omega (arith, most, opened_few (begun_sets m.1.begun))
      rebalance_makes (Err (Fault Busy)) new e = ap (λ (n : NodeState). writes n.kernel) e.1
      rebalance_makes (Err (Fault fault)) new e = absurd e

    module _ (effects : TargetsTakeEffect) where
      pub rebalanced : (total : ℕ) (new : NodeState) → Moves order old total (Ok tt) new → IsRebalanced old total new
      rebalanced total new m =
          let b = m.begun in
          settled order old h effects (begun_sets b) b.best.could (Some (planned old b.plan b.prices b.whole)) new (moved_settles total new m) total b.best

      plan_told : RowsWeigh → (total : ℕ) (new : NodeState) → Moves order old total (Ok tt) new → TellsPlan old total new
      plan_told weigh total new m =
          let b = m.begun in
          told_settled order old h effects (begun_sets b) b.best.could (Some (planned old b.plan b.prices b.whole)) new (moved_settles total new m) weigh total b.best
          (begun_told weigh total m.mid b)

      pub headline : RowsWeigh → ScaledRowsWeigh → (r : Result Outcome (OrMemory NodeFault)) (new : NodeState) → Rebalances order old r new → Headline old r new
      headline weigh parts (Ok (Plan total)) new m = rebalanced total new m
      headline weigh parts (Ok (Short wanted allowed)) new l = (short_stands old h weigh parts wanted allowed new l).0
      headline weigh parts (Err (Fault (Kernel fault))) new m = (moved_breaks m.0 fault new m.1).failed
      headline weigh parts (Err (Fault Busy)) new e = e
      headline weigh parts (Err (Fault fault)) new e = absurd e
      headline weigh parts (Err Memory) new e = e.1

      pub tells : RowsWeigh → ScaledRowsWeigh → (r : Result Outcome (OrMemory NodeFault)) (new : NodeState) → Rebalances order old r new → Tells old r new
      tells weigh parts (Ok (Plan total)) new m = plan_told weigh total new m
      tells weigh parts (Ok (Short wanted allowed)) new l = (short_stands old h weigh parts wanted allowed new l).1
      tells weigh parts (Err error) new e = tt

      pub rebalance_leaves : RowsWeigh → ScaledRowsWeigh → (r : Result Outcome (OrMemory NodeFault)) (new : NodeState) → Rebalances order old r new → RebalanceLeaves order old r new
      rebalance_leaves weigh parts r new m =
          record { headline = headline weigh parts r new m; told = tells weigh parts r new m; broken = breaks_off weigh r new m }
