-- A plan that stands is kept.
use Rattle.std.proofs.Common.{◌≡◌, ℕ, zero, suc, ◌≤◌, true, false, cond, List, [], ◌∷◌, refl, sym, ap, ◌∙◌, subst, sum_by, arith}
use Rattle.std.proofs.lemmas.Bool.{false≢true, and_from, and_left, and_right}
use Rattle.std.proofs.lemmas.List.Sums.{sum_by-cons}
use Rattle.std.specs.Prelude.{filter, map, zip, Option, Some, None, Result, Ok, Err}
use Rattle.std.specs.List.{AllByRecursion, AllZip}
use Rattle.std.specs.FinSet as set
use Rattle.cpu_set.specs.Ids.{Ids}
use Rattle.cpu_set.specs.PointwiseLaws.{is_subset-contains, is_same_decides}
use Rattle.cpu_set.specs.SetLaws.{is_subset-Decides}
use Rattle.machine.specs.Cores.{cores_in, cpus_of_cores}
use Rattle.machine.specs.Layout.{Layout}
use Rattle.machine.specs.WholeLaws.{cpus_of_cores-cores_in, cpus_of_cores-within, whole_in-whole}
use Rattle.demand.specs.declared.Kind.TheVariants.{Pinned, Shared}
use Rattle.demand.specs.declared.Demand.{Demand}
use Rattle.faults.specs.declared.OrMemory.{OrMemory}
use Rattle.faults.specs.declared.OrMemory.TheVariants.{Memory, Fault}
use Rattle.kernel_model.specs.declared.KernelFault.{KernelFault}
use Rattle.kernel_model.specs.KernelState.{KernelState}
use Rattle.certificate.specs.declared.certificates.Certificate.{Certificate}
use Rattle.rows.specs.Scaled.{ScaledRowsWeigh}
use Rattle.rows.specs.Weighs.{RowsWeigh}
use Rattle.apply_plan.specs.declared.Progress.{Progress}
use Rattle.apply_plan.specs.declared.Progress.TheVariants.{Done}
use Rattle.apply_plan.specs.DueLemmas.{holds_its_target}
use Rattle.apply_plan.specs.DueWrite.{must_move, HasTarget}
use Rattle.node.specs.declared.fault.NodeFault.{NodeFault}
use Rattle.node.specs.declared.fault.NodeFault.TheVariants.{Busy, Kernel}
use Rattle.node.specs.declared.order.Order.{Order}
use Rattle.node.specs.declared.outcome.Outcome.{Outcome}
use Rattle.node.specs.declared.outcome.Outcome.TheVariants.{Plan, Short}
use Rattle.node.specs.declared.phase.Phase.TheVariants.{Settled, Underway}
use Rattle.node.specs.NodeState.{ContainerState, Ongoing, NodeState, is_underway}
use Rattle.node.specs.Owners.{is_pinned}
use Rattle.node.specs.Status.{is_live}
use Rattle.node.specs.IsNode.{IsNode}
use Rattle.node.specs.Rows.{as_cpus, requested_by, planned}
use Rattle.node.specs.Best.{AreOwn, is_asking, asking, wanted_by, CouldHave, distance, total_distance, moved_by, moved, IsBest}
use Rattle.node.specs.Entries.{pool_of, Target, entry_of, plan_pool, plan_targets, plan_entries, opened}
use Rattle.node.specs.Orders.{StepsBy, WritesBy, MissesBy}
use Rattle.node.specs.Rebalance.{Begun, StepsOn, Writes, Misses, Moves, Finishes, Rebalances}
use Rattle.node.specs.Standing.{requested_sets, HasPool, PlanStands, KeepsPlan, StandingPlansAreKept, AnsweredPlansStand, SecondsKeepPlans}
use Rattle.node.proofs.ListLemmas.{all_of, all_of_map, of_all_map, all_map, zip_map}
use Rattle.node.proofs.AskingLemmas.{short_stands}
use Rattle.node.proofs.DistanceLemmas.{there_in_range, online_there}
use Rattle.node.proofs.FinishLemmas.{WritesMany, Goes, goes_of, Settles, settles}
use Rattle.node.proofs.HeadlineLemmas.{begun_node, rebalances_node}
use Rattle.node.proofs.OrderLemmas.{OrdersLeave, it_rests, none_misses, none_writes}
use Rattle.node.proofs.PlanLemmas.{IsDealt, over_targets, opened_ongoing, plan_placed}
use Rattle.node.proofs.SizeLemmas.{same_size, none_left_of}
use Rattle.node.proofs.StepLemmas.{its_steps, its_writes, its_misses}

abbrev Container : Type 0
Container = List ℕ × ContainerState

-- ---- two best plans of which one is requested are one

-- what is requested moves no core
none_moved : (k : KernelState) (m : Layout) (es : List Container) → sum_by (λ p. moved_by k m p.0 p.1) (zip es (map (requested_by k) es)) ≡ 0
none_moved k m [] = refl
none_moved k m (e ∷ es) =
    omega (
      arith,
      sum_by-cons (λ p. moved_by k m p.0 p.1) (e, requested_by k e) (zip es (map (requested_by k) es)),
      none_left_of (cores_in m (requested_by k e)),
      none_moved k m es,
    )

module _ (n : NodeState) (h : IsNode n) where
  abbrev Own : Container → Ids → Type 0
  Own e s = AreOwn n.kernel n.machine e.1.demand (wanted_by e.1.demand.kind) s

  -- of two sets that a container could have, the one is the other where no core of it moves from that
  one_unmoved : (e : Container) (s t : Ids) → Own e s → Own e t → set.len (set.difference (cores_in n.machine s) (cores_in n.machine t)) ≡ 0 → s ≡ t
  one_unmoved e s t own other none = same_size s t (there_in_range n.machine h.layout t (λ c has. online_there n h c (other.each c has).1)) within (own.size ∙ sym other.size) where
    back : cpus_of_cores n.machine (cores_in n.machine s) ≡ s
    back =
        cpus_of_cores-cores_in n.machine s h.layout.sound.cores (there_in_range n.machine h.layout s (λ c has. online_there n h c (own.each c has).1))
        ∙ whole_in-whole n.machine s h.layout.sound.cores own.whole

    cores_within : set.is_subset (cores_in n.machine s) (cores_in n.machine t) ≡ true
    cores_within = (is_subset-Decides (cores_in n.machine s) (cores_in n.machine t)).1 (set.empty_of_len _ none)

    within : (c : ℕ) → set.contains s c ≡ true → set.contains t c ≡ true
    within c has =
        is_subset-contains (cpus_of_cores n.machine (cores_in n.machine s)) t
        (cpus_of_cores-within n.machine (cores_in n.machine s) t h.layout.sound.cores cores_within) c
        (ap (λ x. set.contains x c) back ∙ has)

  unmoved : (es : List Container) (sets : List Ids) → AllZip Own es sets → AllZip Own es (map (requested_by n.kernel) es)
      → sum_by (λ p. moved_by n.kernel n.machine p.0 p.1) (zip es sets) ≡ 0 → sets ≡ map (requested_by n.kernel) es
  unmoved [] [] own held none = refl
  unmoved [] (s ∷ sets) own held none = absurd own
  unmoved (e ∷ es) [] own held none = absurd own
  unmoved (e ∷ es) (s ∷ sets) own held none =
      let sum = sum_by-cons (λ p. moved_by n.kernel n.machine p.0 p.1) (e, s) (zip es sets) in
      let first : moved_by n.kernel n.machine e s ≡ 0 = omega (arith, sum, none) in
      let rest : sum_by (λ p. moved_by n.kernel n.machine p.0 p.1) (zip es sets) ≡ 0 = omega (arith, sum, none) in
      ap (λ x. x ∷ sets) (one_unmoved e s (requested_by n.kernel e) own.0 held.0 first)
      ∙ ap (λ xs. requested_by n.kernel e ∷ xs) (unmoved es sets own.1 held.1 rest)

  module _ (total found : ℕ) (sets : List Ids) (held : IsBest n total (requested_sets n)) (best : IsBest n found sets) where
    pub same_total : found ≡ total
    same_total =
        let below : total ≤ total_distance n sets = held.nearest sets best.could in
        let above : found ≤ total_distance n (requested_sets n) = best.nearest (requested_sets n) held.could in
        omega (arith, below, above, held.far, best.far)

    pub same_plan : sets ≡ requested_sets n
    same_plan =
        let fewest : moved n sets ≤ moved n (requested_sets n) = best.fewest (requested_sets n) held.could (sym held.far ∙ sym same_total) in
        let none : moved n (requested_sets n) ≡ 0 = none_moved n.kernel n.machine (asking n) in
        unmoved (asking n) sets best.could.own held.could.own (omega (arith, fewest, none))

-- ---- where each requests what it gets, none must move

module _ (n : NodeState) (h : IsNode n) (could : CouldHave n (requested_sets n)) (pools : AllByRecursion (HasPool n) n.containers) where
  abbrev k : KernelState
  k = n.kernel

  abbrev IsKept : Target → Type 0
  IsKept p = requested_by k p.0 ≡ p.1

  abbrev AreKept : List Container → List Ids → List Target → Type 0
  AreKept es ss ts = ss ≡ map (requested_by k) (filter (is_asking k) es) → AllByRecursion (HasPool n) es → AllByRecursion IsKept ts

  passed : (e : Container) (later : List Container) (ss : List Ids) (ts : List Target) → is_asking k e ≡ false → AreKept later ss ts
      → ss ≡ map (requested_by k) (filter (is_asking k) (e ∷ later)) → AllByRecursion (HasPool n) later → AllByRecursion IsKept ts
  passed e later ss ts asks on is all =
      on (is ∙ ap (λ b. map (requested_by k) (cond b (e ∷ filter (is_asking k) later) (filter (is_asking k) later))) asks) all

  taken : (e : Container) (later : List Container) (s : Ids) (ss : List Ids) (ts : List Target) → IsDealt k n.machine e s → AreKept later ss ts
      → AreKept (e ∷ later) (s ∷ ss) ((e, s) ∷ ts)
  taken e later s ss ts d on is all =
      let asks : is_asking k e ≡ true = and_from (is_live k e.1) (is_pinned e.1.demand.kind) d.live (ap is_pinned d.kind) in
      let same : s ∷ ss ≡ requested_by k e ∷ map (requested_by k) (filter (is_asking k) later) =
      is ∙ ap (λ b. map (requested_by k) (cond b (e ∷ filter (is_asking k) later) (filter (is_asking k) later))) asks in
      (cc same, on (cc same) all.1)

  are_kept : AllByRecursion IsKept (plan_targets n (requested_sets n))
  are_kept =
      over_targets k n.machine (plan_pool n (requested_sets n)) AreKept (λ is all. tt)
      (λ e later ss ts dead on is all. passed e later ss ts (and_left (is_live k e.1) (is_pinned e.1.demand.kind) dead) on is all.1)
      (λ e later ss ts live kind on is all.
      (all.0 live kind, passed e later ss ts (and_right (is_live k e.1) (is_pinned e.1.demand.kind) (ap is_pinned kind)) on is all.1))
      (λ e later s ss ts d on. taken e later s ss ts d on)
      n.containers h.asked (requested_sets n) could.own refl pools

  pub none_moves : AllByRecursion (λ e. must_move k e ≡ false) (plan_entries n (requested_sets n))
  none_moves =
      all_of_map entry_of (λ e. must_move k e ≡ false) (plan_targets n (requested_sets n))
      (all_map IsKept (λ p. must_move k (entry_of p) ≡ false) (λ p is. holds_its_target k (entry_of p) ((is_same_decides _ _).1 is))
      (plan_targets n (requested_sets n)) are_kept)

-- ---- and the first step ends the hand-over

module _ (o : Ongoing) (n : NodeState) (was : n.ongoing ≡ Some o)
    (rests : (r : Result Progress KernelFault) (new : KernelState) → StepsBy o.order n.machine o n.kernel r new → (r ≡ Ok Done) × (new ≡ n.kernel))
    (holds : (new : KernelState) → WritesBy o.order n.machine o n.kernel new → ⊥)
    (lasts : (fault : KernelFault) (new : KernelState) → MissesBy o.order n.machine o n.kernel fault new → ⊥) where
  no_more : (mid : NodeState) → Writes n mid → ⊥
  no_more mid s = holds mid.kernel (its_writes n o was mid s)

  abbrev settled : NodeState
  settled = record n { phase = Settled; ongoing = None }

  ends_here : (new : NodeState) → StepsOn n (Ok Done) new → new ≡ settled
  ends_here new s =
      s.is
      ∙ ap (λ (x : KernelState). record n { kernel = x; phase = Settled; ongoing = None })
      (rests (Ok Done) new.kernel (its_steps n o was new (Ok Done) Settled None s)).1

  none_fails : (fault : KernelFault) (new : NodeState) → Misses n fault new → ⊥
  none_fails fault new s = lasts fault new.kernel (its_misses n o was fault new s)

  first_ends : (count : ℕ) (mid new : NodeState) → WritesMany count n mid → StepsOn mid (Ok Done) new → new ≡ settled
  first_ends zero mid new more ends = ends_here new (subst (λ (x : NodeState). StepsOn x (Ok Done) new) more ends)
  first_ends (suc count) mid new more ends = absurd (no_more more.0 more.1)

  first_holds : (count : ℕ) (fault : KernelFault) (mid new : NodeState) → WritesMany count n mid → Misses mid fault new → ⊥
  first_holds zero fault mid new more ends = none_fails fault new (subst (λ (x : NodeState). Misses x fault new) more ends)
  first_holds (suc count) fault mid new more ends = no_more more.0 more.1

module _ (law : OrdersLeave) (order : Order) (old : NodeState) (h : IsNode old) (total : ℕ) (stands : PlanStands old total) where
  -- the hand-over to the plan that stands
  abbrev begun : Option Certificate → NodeState
  begun last = record old { pool = plan_pool old (requested_sets old); phase = Underway; ongoing = Some (opened order old (requested_sets old)); last = last }

  abbrev sets_of : {found : ℕ} {mid : NodeState} → Begun order old found mid → List Ids
  sets_of b = as_cpus old.machine b.plan

  its_plan : (found : ℕ) (mid : NodeState) (b : Begun order old found mid) → sets_of b ≡ requested_sets old
  its_plan found mid b = same_plan old h total found (sets_of b) stands.best b.best

  begun_as : (found : ℕ) (mid : NodeState) (b : Begun order old found mid) → mid ≡ begun (Some (planned old b.plan b.prices b.whole))
  begun_as found mid b =
      b.is
      ∙ ap (λ (ss : List Ids). record old {
        pool = plan_pool old ss;
        phase = Underway;
        ongoing = Some (opened order old ss);
        last = Some (planned old b.plan b.prices b.whole);
      }) (its_plan found mid b)

  rests_then : (r : Result Progress KernelFault) (new : KernelState) → StepsBy order old.machine (opened order old (requested_sets old)) old.kernel r new
      → (r ≡ Ok Done) × (new ≡ old.kernel)
  rests_then r new s =
      let ongoing = opened_ongoing old h (requested_sets old) stands.best.could order in
      it_rests old.machine (opened order old (requested_sets old)) old.kernel ongoing.handover (none_moves old h stands.best.could stands.pool) h.layout.sound ongoing.ranged
      (plan_placed old h (requested_sets old) stands.best.could) order r new s

  holds_then : (new : KernelState) → WritesBy order old.machine (opened order old (requested_sets old)) old.kernel new → ⊥
  holds_then new s =
      let ongoing = opened_ongoing old h (requested_sets old) stands.best.could order in
      none_writes old.machine (opened order old (requested_sets old)) old.kernel ongoing.handover (none_moves old h stands.best.could stands.pool) h.layout.sound ongoing.ranged
      (plan_placed old h (requested_sets old) stands.best.could) order new s

  lasts_then : (fault : KernelFault) (new : KernelState) → MissesBy order old.machine (opened order old (requested_sets old)) old.kernel fault new → ⊥
  lasts_then fault new s =
      let ongoing = opened_ongoing old h (requested_sets old) stands.best.could order in
      none_misses old.machine (opened order old (requested_sets old)) old.kernel ongoing.handover (none_moves old h stands.best.could stands.pool) h.layout.sound ongoing.ranged
      (plan_placed old h (requested_sets old) stands.best.could) order fault new s

  -- the certificate that is left is its
  as_left : (last : Option Certificate) (new : NodeState) → new ≡ record (begun last) { phase = Settled; ongoing = None }
      → new ≡ record old { pool = plan_pool old (requested_sets old); phase = Settled; ongoing = None; last = new.last }
  as_left last new is =
      is
      ∙ ap (λ (c : Option Certificate). record old { pool = plan_pool old (requested_sets old); phase = Settled; ongoing = None; last = c })
      (sym (ap (λ (n : NodeState). n.last) is))

  begun_is_node : (found : ℕ) (mid : NodeState) (b : Begun order old found mid) → IsNode (begun (Some (planned old b.plan b.prices b.whole)))
  begun_is_node found mid b = subst (λ (n : NodeState). IsNode n) (begun_as found mid b) (begun_node order old h found mid b)

  plan_kept : (found : ℕ) (new : NodeState) (m : Moves order old found (Ok tt) new) → KeepsPlan old total (Ok (Plan found)) new
  plan_kept found new m =
      let b = m.begun in
      let last : Option Certificate = Some (planned old b.plan b.prices b.whole) in
      let f : Goes (begun last) (Ok tt) new =
      goes_of law (begun last) (begun_is_node found m.mid b) (Ok tt) new (subst (λ (n : NodeState). Finishes n (Ok tt) new) (begun_as found m.mid b) m.finishes) in (
        same_total old h total found (sets_of b) stands.best b.best,
        as_left last new (first_ends (opened order old (requested_sets old)) (begun last) refl rests_then holds_then lasts_then f.count f.mid new f.writes f.ends),
      )

  none_breaks : (found : ℕ) (fault : KernelFault) (new : NodeState) → Moves order old found (Err fault) new → ⊥
  none_breaks found fault new m =
      let b = m.begun in
      let last : Option Certificate = Some (planned old b.plan b.prices b.whole) in
      let f : Goes (begun last) (Err fault) new =
      goes_of law (begun last) (begun_is_node found m.mid b) (Err fault) new (subst (λ (n : NodeState). Finishes n (Err fault) new) (begun_as found m.mid b) m.finishes) in
      first_holds (opened order old (requested_sets old)) (begun last) refl rests_then holds_then lasts_then f.count fault f.mid new f.writes f.ends

  pub plan_is_kept : RowsWeigh → ScaledRowsWeigh → (answer : Result Outcome (OrMemory NodeFault)) (new : NodeState) → Rebalances order old answer new
      → KeepsPlan old total answer new
  plan_is_kept weigh parts (Ok (Plan found)) new m = plan_kept found new m
  plan_is_kept weigh parts (Ok (Short wanted allowed)) new l =
      (short_stands old h weigh parts wanted allowed new l).0.could_not (requested_sets old) stands.best.could
  plan_is_kept weigh parts (Err Memory) new e = e.1
  plan_is_kept weigh parts (Err (Fault (Kernel fault))) new m = none_breaks m.0 fault new m.1
  plan_is_kept weigh parts (Err (Fault Busy)) new e = absurd (false≢true (sym stands.settled ∙ e.0))
  plan_is_kept weigh parts (Err (Fault fault)) new e = absurd e

-- ---- a plan that was answered stands

-- of nodes with the same containers, alive alike, on the same online CPUs
module _ (old new : NodeState) (containers : new.containers ≡ old.containers) (machine : new.machine ≡ old.machine)
    (table : new.kernel.table ≡ old.kernel.table) (online : new.kernel.tree.online ≡ old.kernel.tree.online) where
  own_alike : (m : Layout) (d : Demand) (count : ℕ) (s : Ids) → AreOwn old.kernel m d count s → AreOwn new.kernel m d count s
  own_alike m d count s own = record {
    size = own.size;
    each = λ cpu has. ((own.each cpu has).0, ap (λ x. set.contains x cpu) online ∙ (own.each cpu has).1);
    whole = own.whole;
  }

  asking_alike : asking new ≡ asking old
  asking_alike =
      ap (λ (es : List Container). filter (is_asking new.kernel) es) containers
      ∙ ap (λ t. filter (λ (e : Container). is_asking (record new.kernel { table = t }) e) old.containers) table

  could_alike : (sets : List Ids) → CouldHave old sets → CouldHave new sets
  could_alike sets could = record {
    numbers = could.numbers;
    own = subst (λ (es : List Container). AllZip (λ e s. AreOwn new.kernel new.machine e.1.demand (wanted_by e.1.demand.kind) s) es sets) (sym asking_alike)
        (subst (λ (m : Layout). AllZip (λ e s. AreOwn new.kernel m e.1.demand (wanted_by e.1.demand.kind) s) (asking old) sets) (sym machine)
        (zip_map (λ e. Unit {0}) (λ e s. AreOwn old.kernel old.machine e.1.demand (wanted_by e.1.demand.kind) s)
        (λ e s. AreOwn new.kernel old.machine e.1.demand (wanted_by e.1.demand.kind) s)
        (λ e s _ own. own_alike old.machine e.1.demand (wanted_by e.1.demand.kind) s own) (asking old) sets (all_of (λ e. Unit {0}) (λ e. tt) (asking old)) could.own));
    apart = could.apart;
  }

  far_alike : (sets : List Ids) → total_distance new sets ≡ total_distance old sets
  far_alike sets =
      ap (λ (es : List Container). sum_by (λ p. distance new.machine p.0 p.1) (zip es sets)) asking_alike
      ∙ ap (λ (m : Layout). sum_by (λ p. distance m p.0 p.1) (zip (asking old) sets)) machine

-- what was best and is requested is best
best_stands : (old new : NodeState) → new.containers ≡ old.containers → new.machine ≡ old.machine → new.kernel.table ≡ old.kernel.table
    → new.kernel.tree.online ≡ old.kernel.tree.online → (total : ℕ) (sets : List Ids) → requested_sets new ≡ sets → IsBest old total sets
    → IsBest new total (requested_sets new)
best_stands old new containers machine table online total sets requested best = record {
  could = could_alike old new containers machine table online (requested_sets new) (subst (λ (ss : List Ids). CouldHave old ss) (sym requested) best.could);
  far = best.far ∙ ap (λ (ss : List Ids). total_distance old ss) (sym requested) ∙ sym (far (requested_sets new));
  nearest = λ others could. subst (λ x. total ≤ x) (sym (far others)) (best.nearest others (back others could));
  fewest = λ others could near. (let none : moved new (requested_sets new) ≡ 0 = none_moved new.kernel new.machine (asking new) in omega (arith, none));
} where
  far : (others : List Ids) → total_distance new others ≡ total_distance old others
  far others = far_alike old new containers machine table online others

  back : (others : List Ids) → CouldHave new others → CouldHave old others
  back others could = could_alike new old (sym containers) (sym machine) (sym table) (sym online) others could

-- once a hand-over ended, each requests what the plan gives it
module _ (order : Order) (old : NodeState) (h : IsNode old) (sets : List Ids) (could : CouldHave old sets) (last : Option Certificate) (new : NodeState)
    (s : Settles (opened order old sets) (record old { pool = plan_pool old sets; phase = Underway; ongoing = Some (opened order old sets); last = last }) new) where
  still_live : (c : ContainerState) → is_live new.kernel c ≡ is_live old.kernel c
  still_live c = ap (λ t. is_live (record new.kernel { table = t }) c) s.table

  abbrev HasPlanned : Target → Type 0
  HasPlanned p = HasTarget new.kernel (entry_of p)

  abbrev HasRest : Container → Type 0
  HasRest e = is_live new.kernel e.1 ≡ true → e.1.demand.kind ≡ Shared → requested_by new.kernel e ≡ plan_pool old sets

  record Requests (es : List Container) (ss : List Ids) : Type 0 where
    own : map (requested_by new.kernel) (filter (is_asking new.kernel) es) ≡ ss
    rest : AllByRecursion HasRest es

  abbrev AreRequested : List Container → List Ids → List Target → Type 0
  AreRequested es ss ts = AllByRecursion HasPlanned ts → Requests es ss

  skipped : (e : Container) (later : List Container) (ss : List Ids) → is_asking new.kernel e ≡ false
      → map (requested_by new.kernel) (filter (is_asking new.kernel) later) ≡ ss → map (requested_by new.kernel) (filter (is_asking new.kernel) (e ∷ later)) ≡ ss
  skipped e later ss asks on =
      ap (λ b. map (requested_by new.kernel) (cond b (e ∷ filter (is_asking new.kernel) later) (filter (is_asking new.kernel) later))) asks ∙ on

  one_dead : (e : Container) (later : List Container) (ss : List Ids) (ts : List Target) → is_live old.kernel e.1 ≡ false → AreRequested later ss ts
      → AreRequested (e ∷ later) ss ts
  one_dead e later ss ts dead on all = record {
    own = skipped e later ss (and_left (is_live new.kernel e.1) (is_pinned e.1.demand.kind) (still_live e.1 ∙ dead)) (on all).own;
    rest = (λ live kind. absurd (false≢true (sym dead ∙ sym (still_live e.1) ∙ live)), (on all).rest);
  }

  one_shared : (e : Container) (later : List Container) (ss : List Ids) (ts : List Target) → is_live old.kernel e.1 ≡ true → e.1.demand.kind ≡ Shared
      → AreRequested later ss ts → AreRequested (e ∷ later) ss ((e, plan_pool old sets) ∷ ts)
  one_shared e later ss ts live kind on all = record {
    own = skipped e later ss (and_right (is_live new.kernel e.1) (is_pinned e.1.demand.kind) (ap is_pinned kind)) (on all.1).own;
    rest = (λ lives is. all.0 lives, (on all.1).rest);
  }

  one_pinned : (e : Container) (later : List Container) (c : Ids) (ss : List Ids) (ts : List Target) → IsDealt old.kernel old.machine e c
      → AreRequested later ss ts → AreRequested (e ∷ later) (c ∷ ss) ((e, c) ∷ ts)
  one_pinned e later c ss ts d on all =
      let live : is_live new.kernel e.1 ≡ true = still_live e.1 ∙ d.live in
      let asks : is_asking new.kernel e ≡ true = and_from (is_live new.kernel e.1) (is_pinned e.1.demand.kind) live (ap is_pinned d.kind) in
      record {
        own = ap (λ b. map (requested_by new.kernel) (cond b (e ∷ filter (is_asking new.kernel) later) (filter (is_asking new.kernel) later))) asks
            ∙ ap (λ x. x ∷ map (requested_by new.kernel) (filter (is_asking new.kernel) later)) (all.0 live) ∙ ap (λ xs. c ∷ xs) (on all.1).own;
        rest = (λ lives kind. absurd (let is : Shared ≡ Pinned d.count = sym kind ∙ d.kind in let no : ⊥ = cc is in no), (on all.1).rest);
      }

  requests : Requests old.containers sets
  requests =
      over_targets old.kernel old.machine (plan_pool old sets) AreRequested (λ all. record { own = refl; rest = tt }) one_dead one_shared one_pinned
      old.containers h.asked sets could.own (of_all_map entry_of (HasTarget new.kernel) (plan_targets old sets) s.targets)

  requested_are : requested_sets new ≡ sets
  requested_are = ap (λ (es : List Container). map (requested_by new.kernel) (filter (is_asking new.kernel) es)) s.containers ∙ requests.own

  pool_is : plan_pool new (requested_sets new) ≡ plan_pool old sets
  pool_is = ap (plan_pool new) requested_are ∙ ap (λ online. pool_of online sets) s.online

  pub plan_stands : (total : ℕ) → IsBest old total sets → PlanStands new total
  plan_stands total best = record {
    settled = ap is_underway s.phase;
    best = best_stands old new s.containers s.machine s.table s.online total sets requested_are best;
    pool = subst (λ (es : List Container). AllByRecursion (HasPool new) es) (sym s.containers)
        (all_map HasRest (HasPool new) (λ e has live kind. has live kind ∙ sym pool_is) old.containers requests.rest);
  }

module _ (law : OrdersLeave) where
  pub answered_plans_stand : AnsweredPlansStand
  answered_plans_stand order old total new h m =
      let b = m.begun in
      let sets : List Ids = as_cpus old.machine b.plan in
      let last : Option Certificate = Some (planned old b.plan b.prices b.whole) in
      plan_stands order old h sets b.best.could last new
      (settles law (opened order old sets) (record old { pool = plan_pool old sets; phase = Underway; ongoing = Some (opened order old sets); last = last }) new
      (subst (λ (n : NodeState). IsNode n) b.is (begun_node order old h total m.mid b)) refl (subst (λ (n : NodeState). Finishes n (Ok tt) new) b.is m.finishes))
      total b.best

  pub standing_plans_are_kept : RowsWeigh → ScaledRowsWeigh → StandingPlansAreKept
  standing_plans_are_kept weigh parts order old total answer new h stands r = plan_is_kept law order old h total stands weigh parts answer new r

  pub seconds_keep_plans : RowsWeigh → ScaledRowsWeigh → SecondsKeepPlans
  seconds_keep_plans weigh parts before after first total old answer new h m r =
      plan_is_kept law after old (rebalances_node before first h law (Ok (Plan total)) old m) total (answered_plans_stand before first total old h m) weigh parts answer new r
