-- What a plan gives to the live containers, and the hand-over to it.
use Rattle.std.proofs.Common.{◌≡◌, inl, inr, ℕ, ◌≤◌, Bool, true, false, cond, not, ◌&&◌, ◌||◌, List, [], ◌∷◌, refl, sym, ap, ◌∙◌, subst, arith}
use Rattle.std.proofs.lemmas.Bool.{false≢true, ne_eqb, eqb-true}
use Rattle.std.specs.Prelude.{map, drop, filter, slice_index_or, is_none}
use Rattle.std.specs.List.{AllByRecursion, AllZip}
use Rattle.std.specs.FinSet as set
use Rattle.cpu_set.specs.Ids.{Ids, IsDisjoint, is_empty}
use Rattle.cpu_set.specs.PointwiseLaws.{contains-difference, is_subset-contains, contains-is_subset}
use Rattle.cpu_set.specs.SetLaws.{empty_of_none, none_of_empty, is_empty-empty, is_empty-some}
use Rattle.cpuset_tree.specs.declared.Group.{Group}
use Rattle.cpuset_tree.specs.Groups.{same_group, is_root_entry}
use Rattle.kernel_model.specs.KernelState.{KernelState}
use Rattle.machine.specs.Cores.{IsWhole}
use Rattle.machine.specs.Layout.{Layout}
use Rattle.demand.specs.declared.Kind.{Kind}
use Rattle.demand.specs.declared.Kind.TheVariants.{Pinned, Shared}
use Rattle.demand.specs.FitsMachine.{FitsKind}
use Rattle.apply_plan.specs.declared.Entry.{Entry}
use Rattle.apply_plan.specs.Holders.{Pairwise}
use Rattle.apply_plan.specs.Targets.{IsPlaced as IsPlacedIn, ArePlaced, HaveOtherGroups, AreTargetsApart, IsHandover}
use Rattle.apply_plan.specs.DueWrite.{held}
use Rattle.apply_plan.specs.Effects.{CanTakeEffect}
use Rattle.node.specs.NodeState.{ContainerState, Ongoing, NodeState}
use Rattle.node.specs.Owners.{Owner, is_pinned, owner_of, owners_of}
use Rattle.node.specs.Status.{is_live}
use Rattle.node.specs.Best.{AreOwn, CouldHave, is_asking, wanted_by}
use Rattle.node.specs.declared.order.Order.{Order}
use Rattle.node.specs.declared.order.Order.TheVariants.{InTurn, Directly}
use Rattle.node.specs.Entries.{pool_of, Target, targets_in, entry_of, entries_in, plan_pool, plan_targets, plan_entries, allowed_in, allowed_by, opened}
use Rattle.node.specs.Headline.{HasItsCpus}
use Rattle.node.specs.IsNode.{IsAsked, IsNode, HaveOtherIds, IsPlaced}
use Rattle.node.specs.Ongoing.{AreOf, IsSince, IsOnWay, AreSince, IsOngoing}
use Rattle.node.specs.Orders.{directed_of}
use Rattle.apply_plan.specs.Directed.{allowed_of, IsDirected}
use Rattle.cpu_set.specs.Members.{InRange}
use Rattle.node.proofs.DistanceLemmas.{pairs_by_recursion}
use Rattle.node.proofs.ListLemmas.{all_map, all_of, pairs_map, all_of_map, of_all_map, pairs_of_map, of_pairs_map}
use Rattle.node.proofs.LaunchLemmas.{names_apart, is_there}
use Rattle.faults.specs.TestLaws.{without_parts, without_two, without_none}
use Rattle.certificate.specs.PlanFault.{is_held}

abbrev Container : Type 0
Container = List ℕ × ContainerState

-- what a pinned container gets: as many CPUs as it asks for, of whole cores, each allowed, online and not reserved
pub record IsDealt (k : KernelState) (m : Layout) (e : Container) (s : Ids) : Type 0 where
  pub count : ℕ
  pub live : is_live k e.1 ≡ true
  pub kind : e.1.demand.kind ≡ Pinned count
  pub some : 1 ≤ count
  pub size : set.len s ≡ count
  pub cpus : (cpu : ℕ) → set.contains s cpu ≡ true → (set.contains e.1.demand.allowed cpu ≡ true) × (set.contains k.tree.online cpu ≡ true)
  pub whole : IsWhole m s
  pub unreserved : IsDisjoint s m.reserved

-- a set that a pinned container could have
abbrev Own : KernelState → Layout → Container → Ids → Type 0
Own k m e s = AreOwn k m e.1.demand (wanted_by e.1.demand.kind) s

dealt : (k : KernelState) (m : Layout) (e : Container) → IsAsked m e → (count : ℕ) → is_live k e.1 ≡ true → e.1.demand.kind ≡ Pinned count
    → (s : Ids) → Own k m e s → IsDealt k m e s
dealt k m e asked count live kind s own =
    let some_of : FitsKind (Pinned count) e.1.demand.allowed = subst (λ x. FitsKind x e.1.demand.allowed) kind asked.fits.kind in
    record {
      count = count;
      live = live;
      kind = kind;
      some = some_of.0;
      size = own.size ∙ ap wanted_by kind;
      cpus = own.each;
      whole = own.whole;
      unreserved = λ cpu has reserved. asked.fits.unreserved cpu (own.each cpu has).0 reserved;
    }

-- what holds of containers, sets and targets side by side, if it holds of none and of one more of each case
module _ (k : KernelState) (m : Layout) (pool : Ids) (P : List Container → List Ids → List Target → Type 0)
    (start : P [] [] [])
    (dead : (e : Container) (later : List Container) (sets : List Ids) (ts : List Target) → is_live k e.1 ≡ false → P later sets ts → P (e ∷ later) sets ts)
    (shared : (e : Container) (later : List Container) (sets : List Ids) (ts : List Target) → is_live k e.1 ≡ true → e.1.demand.kind ≡ Shared
    → P later sets ts → P (e ∷ later) sets ((e, pool) ∷ ts))
    (pinned : (e : Container) (later : List Container) (s : Ids) (sets : List Ids) (ts : List Target) → IsDealt k m e s
    → P later sets ts → P (e ∷ later) (s ∷ sets) ((e, s) ∷ ts)) where
  over : (e : Container) (later : List Container) → IsAsked m e
      → ((sets : List Ids) → AllZip (Own k m) (filter (is_asking k) later) sets → P later sets (targets_in k pool later sets))
      → (live : Bool) (kind : Kind) → is_live k e.1 ≡ live → e.1.demand.kind ≡ kind → (sets : List Ids)
      → AllZip (Own k m) (cond (live && is_pinned kind) (e ∷ filter (is_asking k) later) (filter (is_asking k) later)) sets
      → P (e ∷ later) sets (cond live (cond (is_pinned kind) ((e, slice_index_or sets 0 set.empty) ∷ targets_in k pool later (drop 1 sets)) ((e, pool) ∷ targets_in k pool later sets)) (targets_in k pool later sets))
  over e later asked on false kind l q sets zip = dead e later sets _ l (on sets zip)
  over e later asked on true Shared l q sets zip = shared e later sets _ l q (on sets zip)
  over e later asked on true (Pinned count) l q [] zip = absurd zip
  over e later asked on true (Pinned count) l q (s ∷ sets) zip =
      pinned e later s sets _ (dealt k m e asked count l q s zip.0) (on sets zip.1)

  pub over_targets : (containers : List Container) → AllByRecursion (IsAsked m) containers → (sets : List Ids)
      → AllZip (Own k m) (filter (is_asking k) containers) sets → P containers sets (targets_in k pool containers sets)
  over_targets [] asked [] zip = start
  over_targets [] asked (s ∷ sets) zip = absurd zip
  over_targets (e ∷ later) asked sets zip = over e later asked.0 (over_targets later asked.1) (is_live k e.1) e.1.demand.kind refl refl sets zip

-- facts on lists
swapped : {X : Type 0} (C : ℕ → Type 0) (P : ℕ → X → Type 0) (xs : List X) → ((c : ℕ) → C c → AllByRecursion (P c) xs) → AllByRecursion (λ x. (c : ℕ) → C c → P c x) xs
swapped C P [] h = tt
swapped C P (x ∷ xs) h = (λ c in_c. (h c in_c).0, swapped C P xs (λ c in_c. (h c in_c).1))

-- the pool: the online CPUs without those of all sets
of_difference : (s t : Ids) (c : ℕ) → set.contains (set.difference s t) c ≡ true → (set.contains s c ≡ true) × (set.contains t c ≡ false)
of_difference s t c e = without_parts _ _ (sym (contains-difference s t c) ∙ e)

pub pool_online : (online : Ids) (sets : List Ids) (c : ℕ) → set.contains (pool_of online sets) c ≡ true → set.contains online c ≡ true
pool_online online [] c e = e
pool_online online (s ∷ sets) c e = (of_difference online s c (pool_online (set.difference online s) sets c e)).0

pub pool_apart : (online : Ids) (sets : List Ids) (c : ℕ) → set.contains (pool_of online sets) c ≡ true → AllByRecursion (λ s. set.contains s c ≡ false) sets
pool_apart online [] c e = tt
pool_apart online (s ∷ sets) c e = ((of_difference online s c (pool_online (set.difference online s) sets c e)).1, pool_apart (set.difference online s) sets c e)

pub pool_has : (online : Ids) (sets : List Ids) (c : ℕ) → set.contains online c ≡ true → AllByRecursion (λ s. set.contains s c ≡ false) sets
    → set.contains (pool_of online sets) c ≡ true
pool_has online [] c e all = e
pool_has online (s ∷ sets) c e all =
    pool_has (set.difference online s) sets c (contains-difference online s c ∙ ap (λ b. b && not (set.contains s c)) e ∙ ap not all.0) all.1

-- a CPU is in the pool where it is online and in none of the sets
pub pool_has_rest : (online : Ids) (sets : List Ids) (c : ℕ) → set.contains (pool_of online sets) c ≡ (set.contains online c && not (is_held sets c))
pool_has_rest online [] c = without_none (set.contains online c)
pool_has_rest online (s ∷ sets) c =
    pool_has_rest (set.difference online s) sets c ∙ ap (λ b. b && not (is_held sets c)) (contains-difference online s c)
    ∙ without_two (set.contains online c) (set.contains s c) (is_held sets c)

-- no set meets the pool
pool_disjoint : (online : Ids) (sets : List Ids) → AllByRecursion (IsDisjoint (pool_of online sets)) sets
pool_disjoint online sets =
    all_map (λ s. (c : ℕ) → set.contains (pool_of online sets) c ≡ true → set.contains s c ≡ false) (IsDisjoint (pool_of online sets))
    (λ s out c in_pool in_s. false≢true (sym (out c in_pool) ∙ in_s)) sets
    (swapped (λ c. set.contains (pool_of online sets) c ≡ true) (λ c s. set.contains s c ≡ false) sets (pool_apart online sets))

-- what has all CPUs of a set that is not empty is not empty
not_empty_above : (s t : Ids) → is_empty s ≡ false → ((c : ℕ) → set.contains s c ≡ true → set.contains t c ≡ true) → is_empty t ≡ false
not_empty_above s t some within = by (is_empty t) refl where
  none : is_empty t ≡ true → (c : ℕ) (b : Bool) → set.contains s c ≡ b → set.contains s c ≡ false
  none empty c false is = is
  none empty c true is = absurd (false≢true (sym (none_of_empty t (set.empty_of_len t (eqb-true (set.len t) 0 empty)) c) ∙ within c is))

  by : (b : Bool) → is_empty t ≡ b → is_empty t ≡ false
  by false is = is
  by true is =
      let nothing : s ≡ set.empty = empty_of_none s (λ c _. none is c (set.contains s c) refl) in
      absurd (false≢true (sym some ∙ is_empty-empty s nothing))

-- what containers are allowed is such as a set may have
module _ (n : NodeState) (h : IsNode n) where
  one_range : (e : Container) → IsAsked n.machine e → InRange e.1.demand.allowed
  one_range e asked cpu has = h.layout.in_range cpu (asked.fits.present cpu has)

  live_range : (es : List Container) → AllByRecursion (IsAsked n.machine) es → AllByRecursion InRange (allowed_in n.kernel es)
  live_range [] asked = tt
  live_range (e ∷ es) asked = by (live_range es asked.1) (is_live n.kernel e.1) where
    by : AllByRecursion InRange (allowed_in n.kernel es) → (b : Bool)
        → AllByRecursion InRange (map (λ x. x.1.demand.allowed) (cond b (e ∷ filter (λ x. is_live n.kernel x.1) es) (filter (λ x. is_live n.kernel x.1) es)))
    by later true = (one_range e asked.0, later)
    by later false = later

  pub allowed_range : (order : Order) → AllByRecursion InRange (allowed_by order n)
  allowed_range InTurn = tt
  allowed_range Directly = live_range n.containers h.asked

-- what holds of sets that a node's containers could have
module _ (n : NodeState) (h : IsNode n) where
  abbrev AreOther : Container → Container → Type 0
  AreOther a b = same_group a.1.group b.1.group ≡ false

  groups_apart : Pairwise AreOther n.containers
  groups_apart =
      of_pairs_map owner_of (λ a b. same_group a.holder.group b.holder.group ≡ false) n.containers
      (pairs_map (IsPlaced n.kernel.tree n.parent) HaveOtherIds (λ a b. same_group a.holder.group b.holder.group ≡ false)
      (λ a b pa pb other. names_apart n.kernel.tree n.parent a.id a.holder.group pa b other pb) (owners_of n.containers) h.holds.placed h.holds.distinct)

  module _ (sets : List Ids) (could : CouldHave n sets) where
    abbrev k : KernelState
    k = n.kernel

    abbrev pool : Ids
    pool = plan_pool n sets

    -- no set of the plan has a reserved CPU, so that the pool has all of them
    unreserved : AllByRecursion (λ s. IsDisjoint s n.machine.reserved) sets
    unreserved = over_targets k n.machine pool (λ es ss ts. AllByRecursion (λ s. IsDisjoint s n.machine.reserved) ss) tt
        (λ e later ss ts live on. on) (λ e later ss ts live kind on. on) (λ e later s ss ts d on. (d.unreserved, on)) n.containers h.asked sets could.own

    reserved_in_pool : (c : ℕ) → set.contains n.machine.reserved c ≡ true → set.contains pool c ≡ true
    reserved_in_pool c r =
        let in_kernel : set.contains k.reserved c ≡ true = ap (λ s. set.contains s c) h.machine.reserved ∙ r in
        pool_has k.tree.online sets c (is_subset-contains k.reserved k.tree.online h.holds.kernel.reserved_online c in_kernel)
        (all_map (λ s. IsDisjoint s n.machine.reserved) (λ s. set.contains s c ≡ false) (λ s apart. not_in (set.contains s c) (λ e. apart c e r)) sets unreserved)
      where
        not_in : (b : Bool) → (b ≡ true → ⊥) → b ≡ false
        not_in true f = absurd (f refl)
        not_in false f = refl

    reserved_some : is_empty n.machine.reserved ≡ false
    reserved_some = ap is_empty (sym h.machine.reserved) ∙ is_empty-some k.reserved h.holds.kernel.some_reserved

    pub plan_pool_some : is_empty pool ≡ false
    plan_pool_some = not_empty_above n.machine.reserved pool reserved_some reserved_in_pool

    pub plan_pool_online : set.is_subset pool k.tree.online ≡ true
    plan_pool_online = contains-is_subset pool k.tree.online (pool_online k.tree.online sets)

    -- each live container gets what it asks for
    abbrev Serves : Target → Type 0
    Serves p = HasItsCpus k n.machine pool p.0.1.demand p.0.1.demand.kind p.1

    pub plan_serves : AllByRecursion Serves (plan_targets n sets)
    plan_serves = over_targets k n.machine pool (λ es ss ts. AllByRecursion Serves ts) tt
        (λ e later ss ts live on. on)
        (λ e later ss ts live kind on. (subst (λ x. HasItsCpus k n.machine pool e.1.demand x pool) (sym kind) (refl, plan_pool_some), on))
        (λ e later s ss ts d on. (subst (λ x. HasItsCpus k n.machine pool e.1.demand x s) (sym d.kind) (record { size = d.size; each = d.cpus; whole = d.whole }), on)) n.containers h.asked sets could.own

    -- two of which one is pinned have no CPU in common
    abbrev AreParted : Target → Target → Type 0
    AreParted p q = (is_pinned p.0.1.demand.kind || is_pinned q.0.1.demand.kind) ≡ true → IsDisjoint p.1 q.1

    record Parts (ss : List Ids) (ts : List Target) : Type 0 where
      pairs : Pairwise AreParted ts
      from : (s : Ids) → IsDisjoint s pool → AllByRecursion (IsDisjoint s) ss → AllByRecursion (λ p. IsDisjoint s p.1) ts
      pinned : AllByRecursion (λ p. is_pinned p.0.1.demand.kind ≡ true → IsDisjoint pool p.1) ts

    abbrev Parted : List Container → List Ids → List Target → Type 0
    Parted es ss ts = AllByRecursion (IsDisjoint pool) ss → Pairwise IsDisjoint ss → Parts ss ts

    parts_none : Parted [] [] []
    parts_none out apart = record { pairs = tt; from = λ s d all. tt; pinned = tt }

    parts_shared : (e : Container) (later : List Container) (ss : List Ids) (ts : List Target) → is_live k e.1 ≡ true → e.1.demand.kind ≡ Shared
        → Parted later ss ts → Parted (e ∷ later) ss ((e, pool) ∷ ts)
    parts_shared e later ss ts live kind on out apart =
        let rest : Parts ss ts = on out apart in
        let not_pinned : is_pinned e.1.demand.kind ≡ false = ap is_pinned kind in
        record {
          pairs = (
            all_map (λ p. is_pinned p.0.1.demand.kind ≡ true → IsDisjoint pool p.1) (AreParted (e, pool))
                (λ q other either. other (ap (λ b. b || is_pinned q.0.1.demand.kind) (sym not_pinned) ∙ either)) ts rest.pinned,
            rest.pairs,
          );
          from = λ s d all. (d, rest.from s d all);
          pinned = (λ t. absurd (false≢true (sym not_pinned ∙ t)), rest.pinned);
        }

    parts_pinned : (e : Container) (later : List Container) (s : Ids) (ss : List Ids) (ts : List Target) → IsDealt k n.machine e s
        → Parted later ss ts → Parted (e ∷ later) (s ∷ ss) ((e, s) ∷ ts)
    parts_pinned e later s ss ts d on out apart =
        let rest : Parts ss ts = on out.1 apart.1 in
        record {
          pairs = (
            all_map (λ p. IsDisjoint s p.1) (AreParted (e, s)) (λ q other either. other) ts (rest.from s (λ c in_s in_pool. out.0 c in_pool in_s) apart.0),
            rest.pairs,
          );
          from = λ t d all. (all.0, rest.from t d all.1);
          pinned = (λ _. out.0, rest.pinned);
        }

    pub plan_parts : Pairwise AreParted (plan_targets n sets)
    plan_parts =
        let parts : Parts sets (plan_targets n sets) =
        over_targets k n.machine pool Parted parts_none (λ e later ss ts live on. on) parts_shared parts_pinned n.containers h.asked sets could.own
        (pool_disjoint k.tree.online sets) (pairs_by_recursion IsDisjoint sets could.apart) in
        parts.pairs

    -- each target can take effect
    abbrev TakesEffect : Target → Type 0
    TakesEffect p = CanTakeEffect k (entry_of p)

    pinned_takes : (e : Container) (s : Ids) → IsDealt k n.machine e s → TakesEffect (e, s)
    pinned_takes e s d =
        let size : set.len s ≡ d.count = d.size in
        let some : 1 ≤ d.count = d.some in
        record { some = ne_eqb (set.len s) 0 (λ none. absurd (omega (arith, size, some, none))); online = contains-is_subset s k.tree.online (λ c in_s. (d.cpus c in_s).1) }

    pub plan_effects : AllByRecursion (CanTakeEffect k) (plan_entries n sets)
    plan_effects = all_of_map entry_of (CanTakeEffect k) (plan_targets n sets)
        (over_targets k n.machine pool (λ es ss ts. AllByRecursion TakesEffect ts) tt
        (λ e later ss ts live on. on)
        (λ e later ss ts live kind on. (record { some = plan_pool_some; online = plan_pool_online }, on))
        (λ e later s ss ts d on. (pinned_takes e s d, on)) n.containers h.asked sets could.own)

    -- the entries' groups are two by two others, and each is the group of a container
    record Groups (es : List Container) (ts : List Target) : Type 0 where
      pairs : Pairwise (λ p q. AreOther p.0 q.0) ts
      from : (P : Group → Bool) → AllByRecursion (λ e. P e.1.group ≡ false) es → AllByRecursion (λ p. P p.0.1.group ≡ false) ts

    abbrev Grouped : List Container → List Ids → List Target → Type 0
    Grouped es ss ts = Pairwise AreOther es → Groups es ts

    groups_dead : (e : Container) (later : List Container) (ss : List Ids) (ts : List Target) → is_live k e.1 ≡ false → Grouped later ss ts → Grouped (e ∷ later) ss ts
    groups_dead e later ss ts live on apart =
        let rest : Groups later ts = on apart.1 in
        record { pairs = rest.pairs; from = λ P all. rest.from P all.1 }

    groups_more : (e : Container) (later : List Container) (s : Ids) (ts : List Target) → (Pairwise AreOther later → Groups later ts) → Pairwise AreOther (e ∷ later)
        → Groups (e ∷ later) ((e, s) ∷ ts)
    groups_more e later s ts on apart =
        let rest : Groups later ts = on apart.1 in
        record { pairs = (rest.from (same_group e.1.group) apart.0, rest.pairs); from = λ P all. (all.0, rest.from P all.1) }

    plan_groups : Groups n.containers (plan_targets n sets)
    plan_groups = over_targets k n.machine pool Grouped (λ apart. record { pairs = tt; from = λ P all. tt }) groups_dead
        (λ e later ss ts live kind on. groups_more e later pool ts on) (λ e later s ss ts d on. groups_more e later s ts on)
        n.containers h.asked sets could.own groups_apart

    -- each entry's group is in the tree, and is not the root
    placed_in : (o : Owner) → IsPlaced k.tree n.parent o → IsPlacedIn k o.holder.group
    placed_in o p = record { there = is_there k.tree o.holder.group p.entry p.there; below = ap is_root_entry p.there ∙ ap is_none p.below }

    pub plan_placed : ArePlaced k (plan_entries n sets)
    plan_placed = all_of_map entry_of (λ e. IsPlacedIn k e.group) (plan_targets n sets)
        (over_targets k n.machine pool (λ es ss ts. AllByRecursion (λ e. IsPlacedIn k e.1.group) es → AllByRecursion (λ p. IsPlacedIn k p.0.1.group) ts) (λ all. tt)
        (λ e later ss ts live on all. on all.1) (λ e later ss ts live kind on all. (all.0, on all.1)) (λ e later s ss ts d on all. (all.0, on all.1))
        n.containers h.asked sets could.own
        (of_all_map owner_of (λ o. IsPlacedIn k o.holder.group) n.containers
        (all_map (IsPlaced k.tree n.parent) (λ o. IsPlacedIn k o.holder.group) placed_in (owners_of n.containers) h.holds.placed)))

    -- each container that lives has its entry
    plan_of : AreOf k (plan_entries n sets) (owners_of n.containers)
    plan_of = over_targets k n.machine pool (λ es ss ts. AreOf k (map entry_of ts) (owners_of es)) refl
        (λ e later ss ts live on. inr (live, on))
        (λ e later ss ts live kind on. inl (record { entry = entry_of (e, pool); later = map entry_of ts; is = refl; of = refl; rest = on }))
        (λ e later s ss ts d on. inl (record { entry = entry_of (e, s); later = map entry_of ts; is = refl; of = refl; rest = on }))
        n.containers h.asked sets could.own

    plan_handover : IsHandover (record { entries = plan_entries n sets; reserved = n.machine.reserved })
    plan_handover = record {
      groups = pairs_of_map entry_of HaveOtherGroups (plan_targets n sets) plan_groups.pairs;
      apart = pairs_of_map entry_of (AreTargetsApart n.machine.reserved) (plan_targets n sets)
          (pairs_map (λ p. Unit {0}) AreParted (λ p q. AreTargetsApart n.machine.reserved (entry_of p) (entry_of q))
          (λ p q _ _ parted either c in_p in_q. absurd (parted either c in_p in_q)) (plan_targets n sets) (all_of (λ p. Unit {0}) (λ p. tt) (plan_targets n sets)) plan_parts);
      some = all_map (CanTakeEffect k) (λ e. is_empty e.target ≡ false) (λ e takes. takes.some) (plan_entries n sets) plan_effects;
      reserve = reserved_some;
    }

    pub opened_ongoing : (order : Order) → IsOngoing k (owners_of n.containers) (opened order n sets)
    opened_ongoing order = record {
      handover = plan_handover;
      reserved = sym h.machine.reserved;
      of = plan_of;
      ranged = allowed_range n h order;
      since = since order;
    } where
      still_held : (es : List Entry) → AllZip (IsSince k k.reserved) es (map (held k) es)
      still_held [] = tt
      still_held (e ∷ es) = (inl refl, still_held es)

      on_way : (allowed : Entry → Ids) (es : List Entry) → AllZip (λ e found. IsOnWay k k.reserved (allowed e) e found) es (map (held k) es)
      on_way allowed [] = tt
      on_way allowed (e ∷ es) = (record { keeps = λ q f t. f; within = λ q x. inl x }, on_way allowed es)

      since : (by : Order) → AreSince by k (opened order n sets)
      since InTurn = still_held (plan_entries n sets)
      since Directly = on_way (allowed_of (directed_of (opened order n sets))) (plan_entries n sets)

-- what can take effect can as long as the same CPUs are online
pub effects_later : (old new : KernelState) → new.tree.online ≡ old.tree.online → (es : List Entry) → AllByRecursion (CanTakeEffect old) es → AllByRecursion (CanTakeEffect new) es
effects_later old new same es h =
    all_map (CanTakeEffect old) (CanTakeEffect new) (λ e c. record { some = c.some; online = ap (λ s. set.is_subset e.target s) same ∙ c.online }) es h

-- the same of the values that the program has
module _ (n now : NodeState) (is : n ≡ now) (h : IsNode n) (sets : List Ids) (could : CouldHave now sets) (pool : Ids)
    (pool_is : pool ≡ plan_pool n sets) (es : List Entry) (es_are : es ≡ entries_in n.kernel pool n.containers sets) where
  could_before : CouldHave n sets
  could_before = subst (λ (m : NodeState). CouldHave m sets) (sym is) could

  entries_are : es ≡ plan_entries n sets
  entries_are = es_are ∙ ap (λ s. entries_in n.kernel s n.containers sets) pool_is

  pub entries_placed : ArePlaced n.kernel es
  entries_placed = subst (ArePlaced n.kernel) (sym entries_are) (plan_placed n h sets could_before)

  -- the hand-over of these entries, of which the groups request this, is the one that is opened
  abbrev pub handover_of : Order → List Entry → List Ids → Ongoing
  handover_of order xs found =
      record { targets = record { entries = xs; reserved = now.machine.reserved }; requested_at_begin = found; order = order; allowed = allowed_by order now }

  pub opened_is : (order : Order) (found : List Ids) → found ≡ map (held n.kernel) es → (o : Ongoing) → o ≡ handover_of order es found → o ≡ opened order now sets
  opened_is order found found_are o o_is =
      let all : es ≡ plan_entries now sets = entries_are ∙ ap (λ (m : NodeState). plan_entries m sets) is in
      let were : found ≡ map (held now.kernel) (plan_entries now sets) = found_are ∙ ap (λ (m : NodeState). map (held m.kernel) es) is ∙ ap (map (held now.kernel)) all in
      o_is ∙ ap (λ (xs : List Entry). handover_of order xs found) all ∙ ap (handover_of order (plan_entries now sets)) were

  pub entries_handed : (reserved : Ids) → reserved ≡ n.machine.reserved → IsHandover (record { entries = es; reserved = reserved })
  entries_handed reserved same =
      subst (λ (s : Ids). IsHandover (record { entries = es; reserved = s })) (sym same)
      (subst (λ (xs : List Entry). IsHandover (record { entries = xs; reserved = n.machine.reserved })) (sym entries_are) (plan_handover n h sets could_before))

-- such entries may begin in the direct order, with what the containers are allowed
pub course_begins : (n now : NodeState) → n ≡ now → IsNode n → (es : List Entry) → IsHandover (record { entries = es; reserved = now.machine.reserved })
    → (reserved : Ids) → reserved ≡ n.machine.reserved → (allowed : List Ids) → allowed ≡ allowed_in n.kernel n.containers
    → IsDirected (record { targets = record { entries = es; reserved = reserved }; allowed = allowed })
course_begins n now is h es valid reserved reserve allowed all = record {
  handover = subst (λ (s : Ids). IsHandover (record { entries = es; reserved = s })) (sym (reserve ∙ ap (λ (m : NodeState). m.machine.reserved) is)) valid;
  ranged = subst (AllByRecursion InRange) (sym all) (allowed_range n h Directly);
}

pub opened_stands : (n now : NodeState) → n ≡ now → IsNode n → (sets : List Ids) → CouldHave now sets → (order : Order) (o : Ongoing) → o ≡ opened order now sets
    → IsOngoing now.kernel (owners_of now.containers) o
opened_stands n now is h sets could order o o_is =
    let there : IsNode now = subst (λ (m : NodeState). IsNode m) is h in
    subst (λ (x : Ongoing). IsOngoing now.kernel (owners_of now.containers) x) (sym o_is) (opened_ongoing now there sets could order)
