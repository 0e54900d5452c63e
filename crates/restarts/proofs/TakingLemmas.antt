-- What a new run has after it tried to take up what was left.
use Rattle.std.proofs.Common.{◌≡◌, inl, inr, ℕ, ◌<◌, ◌≤◌, Bool, true, false, not, ◌&&◌, ◌||◌, List, [], ◌∷◌, ◌++◌, length, refl, sym, ap, ◌∙◌, subst, arith}
use Rattle.std.proofs.lemmas.Bool.{false≢true}
use Rattle.std.proofs.lemmas.Option.{none-some}
use Rattle.std.proofs.lemmas.Slice.Eq.{bytes_eq-Decides}
use Rattle.std.specs.Prelude.{◌⊎◌, Option, Some, None, Result, Ok, Err, is_some}
use Rattle.std.specs.List.{AllByRecursion, list_any}
use Rattle.std.specs.FinSet as set
use Rattle.std.specs.Map.{lookup}
use Rattle.std.specs.Str.{bytes_eq}
use Rattle.faults.specs.declared.OrMemory.{OrMemory}
use Rattle.faults.specs.declared.OrMemory.TheVariants.{Memory, Fault}
use Rattle.cpu_set.specs.Ids.{Ids, is_empty}
use Rattle.cpuset_tree.specs.declared.Group.{Group}
use Rattle.cpuset_tree.specs.Groups.{requested_cpus}
use Rattle.kernel_model.specs.declared.KernelFault.{KernelFault}
use Rattle.kernel_model.specs.declared.KernelFault.TheVariants.{NoPids}
use Rattle.kernel_model.specs.KernelState.{KernelState}
use Rattle.machine.specs.Layout.{Layout}
use Rattle.machine.specs.Present.{present}
use Rattle.config_json.specs.declared.Config.{Config as Said}
use Rattle.config_json.specs.SectionOf.{Section}
use Rattle.config_json.specs.ConfigOf.{config_of}
use Rattle.demand.specs.declared.Kind.{Kind}
use Rattle.demand.specs.declared.Kind.TheVariants.{Pinned, Shared}
use Rattle.demand.specs.declared.Demand.{Demand as Asked}
use Rattle.demand.specs.DemandFaultOf.{demand_fault, is_pinned as asks_own}
use Rattle.demand.specs.Quota.{limit_of, period_of}
use Rattle.demand.specs.Named.{named}
use Rattle.demand.specs.Allowed.{allowed_of}
use Rattle.demand.specs.IsDemand.{IsDemand, IsKind}
use Rattle.apply_plan.specs.ListLemmas.{all_map2, of_all_map, of_pairs_map}
use Rattle.apply_plan.specs.Holders.{Pairwise}
use Rattle.node.specs.declared.TheConstants.{CONTAINER_LIMIT}
use Rattle.node.specs.declared.fault.NodeFault.{NodeFault}
use Rattle.node.specs.declared.fault.NodeFault.TheVariants.{Busy, BadId, IdInUse, TooManyContainers, NotFree, Config, Demand, Kernel}
use Rattle.node.specs.NodeState.{ContainerState, NodeState, container_of, is_underway}
use Rattle.node.specs.Owners.{is_pinned, owner_of}
use Rattle.node.specs.Rows.{requested_by}
use Rattle.node.specs.Status.{is_live}
use Rattle.node.specs.IsNode.{IsPlaced, HaveOtherIds, IsMachine, IsNode}
use Rattle.node.specs.Launch.{Launches}
use Rattle.node.specs.MayRequest.{keeps, is_free_cpu}
use Rattle.node.specs.Calls.{new_container, Created, NotLaunched, Places, Adopts}
use Rattle.node.specs.Making.{PlacesFailLate}
use Rattle.node.specs.Machine.{Event, Adopt, Run, RunsKeep, RunsRebalance}
use Rattle.runtime.specs.Boots.{Boots, BootsNodes}
use Rattle.restarts.specs.Left.{Left, IsLeft, AreApart, AreLeft, IsAmong}
use Rattle.restarts.specs.Taking.{AsksAsBefore, TakesUp, IsTaken, HasTaken, StaysTaken, IsTakenOrLate, Tries, TriesRestart, NoneIsRefused, IsPinnedSince, OnlyPinnedSince, RebalancesGoOn}
use Rattle.restarts.proofs.AmongLemmas.{all_among, pairs_among, all_push, swapped_ids, HasOne, no_more_ids, Entries, ids_of, long_ids, other_ids, found, found_last, found_still}
use Rattle.restarts.proofs.LaunchLemmas.{launch_keeps, launched}

and_left : (a b : Bool) → (a && b) ≡ true → a ≡ true
and_left true b e = refl
and_left false b e = e

and_right : (a b : Bool) → (a && b) ≡ true → b ≡ true
and_right true b e = e
and_right false b e = absurd (false≢true e)

both_true : (a b : Bool) → a ≡ true → b ≡ true → (a && b) ≡ true
both_true true b p q = q
both_true false b p q = p

or_true : (a : Bool) → (a || true) ≡ true
or_true true = refl
or_true false = refl

same_bytes : (a : List ℕ) → bytes_eq a a ≡ true
same_bytes a = (bytes_eq-Decides a a).1 refl

-- a config asks for CPUs of its own where what is read of it does
kind_of_limit : (threads : ℕ) (limit : Option ℕ) (period : ℕ) (allowed : Ids) (s : Section) (kind : Kind) → limit_of s.quota ≡ limit
    → IsKind threads limit period allowed s kind → is_pinned kind ≡ true → asks_own s ≡ true
kind_of_limit threads (Some limit) period allowed s (Pinned count) is asks pinned = ap (λ (o : Option ℕ). is_some o || not (is_empty (named s.cpus))) is
kind_of_limit threads (Some limit) period allowed s Shared is asks pinned = absurd asks
kind_of_limit threads None period allowed s (Pinned count) is asks pinned = asks.0
kind_of_limit threads None period allowed s Shared is asks pinned = absurd (false≢true pinned)

asks_its_own : (m : Layout) (s : Section) (d : Asked) → IsDemand m s d → is_pinned d.kind ≡ true → asks_own s ≡ true
asks_its_own m s d demand pinned = kind_of_limit m.threads (limit_of s.quota) (period_of s.period) (allowed_of m s) s d.kind refl demand.kind pinned

-- two readings of one config say the same
one_reading : (config : List ℕ) (a b : Said) → config_of config ≡ Ok a → config_of config ≡ Ok b → a ≡ b
one_reading config a b first second = let both : Ok a ≡ Ok b = sym first ∙ second in cc

-- what stays of a container in a step
pub record EachStays (old new : KernelState) (e : List ℕ × ContainerState) : Type 0 where
  pub requests : requested_by new e ≡ requested_by old e
  pub live : is_live old e.1 ≡ true → is_live new e.1 ≡ true

-- one more container, which lives and requests these CPUs
pub record OneMore (old new : NodeState) (id config : List ℕ) (cpus : Ids) : Type 0 where
  pub container : ContainerState
  pub said : Said
  pub is : new.containers ≡ old.containers ++ (id, container) ∷ []
  pub free : container_of old id ≡ None
  pub read : config_of config ≡ Ok said
  pub asks : is_pinned container.demand.kind ≡ true → asks_own said.cpu ≡ true
  pub live : is_live new.kernel container ≡ true
  pub requests : requested_cpus new.kernel.tree container.group ≡ cpus

-- what a try leaves, whatever it was answered: the containers that were there, with what they request, and at most one more
pub record Passed (old new : NodeState) (id config : List ℕ) (cpus : Ids) : Type 0 where
  pub machine : new.machine ≡ old.machine
  pub phase : is_underway new.phase ≡ is_underway old.phase
  pub stays : AllByRecursion (EachStays old.kernel new.kernel) old.containers
  pub now : (new.containers ≡ old.containers) ⊎ OneMore old new id config cpus

module _ (old : NodeState) (h : IsNode old) (id config : List ℕ) (cpus : Ids) where
  -- a refusal
  same_stays : (e : List ℕ × ContainerState) → EachStays old.kernel old.kernel e
  same_stays e = record { requests = refl; live = λ live. live }

  each_same : (xs : Entries) → AllByRecursion (EachStays old.kernel old.kernel) xs
  each_same [] = tt
  each_same (x ∷ xs) = (same_stays x, each_same xs)

  unchanged : Passed old old id config cpus
  unchanged = record { machine = refl; phase = refl; stays = each_same old.containers; now = inl refl }

  as_before : (new : NodeState) → new ≡ old → Passed old new id config cpus
  as_before new is = subst (λ (n : NodeState). Passed old n id config cpus) (sym is) unchanged

  -- a launch, of a new id
  each_stays : (mems : Ids) (r : Result (Group × ℕ) (OrMemory KernelFault)) (new : KernelState) → Launches old.kernel old.parent id cpus mems r new
      → container_of old id ≡ None → AllByRecursion (EachStays old.kernel new) old.containers
  each_stays mems r new l none =
      all_map2 (λ e. bytes_eq id e.0 ≡ false) (λ e. IsPlaced old.kernel.tree old.parent (owner_of e)) (EachStays old.kernel new)
      (λ e other placed.
      let kept = launch_keeps old.parent id old.kernel h.holds.kernel e.1.group e.0 placed other cpus mems r new l in
      record { requests = kept.0; live = kept.1 e.1.pid })
      old.containers (other_ids id old.containers none) (of_all_map owner_of (IsPlaced old.kernel.tree old.parent) old.containers h.holds.placed)

  not_made : (e : OrMemory KernelFault) (new : NodeState) → NotLaunched cpus old id config e new → Passed old new id config cpus
  not_made e new n = record {
    machine = ap (λ (x : NodeState). x.machine) n.is;
    phase = ap (λ (x : NodeState). is_underway x.phase) n.is;
    stays = each_stays n.asked.homes (Err e) new.kernel n.refused n.free.new;
    now = inl (ap (λ (x : NodeState). x.containers) n.is);
  }

  made : (bundle : List ℕ) (pid : ℕ) (new : NodeState) → Created cpus old id bundle config pid new → Passed old new id config cpus
  made bundle pid new c =
      let own = launched old.parent id old.kernel cpus c.asked.homes c.group pid new.kernel c.launched in
      record {
        machine = ap (λ (x : NodeState). x.machine) c.is;
        phase = ap (λ (x : NodeState). is_underway x.phase) c.is;
        stays = each_stays c.asked.homes (Ok (c.group, pid)) new.kernel c.launched c.free.new;
        now = inr (record {
          container = new_container bundle c.said c.asked c.group pid;
          said = c.said;
          is = ap (λ (x : NodeState). x.containers) c.is;
          free = c.free.new;
          read = c.says.said_so;
          asks = asks_its_own old.machine c.said.cpu c.asked c.says.asked_so;
          live = own.1;
          requests = own.0;
        });
      }

  pub passes : (bundle : List ℕ) (r : Result ℕ (OrMemory NodeFault)) (new : NodeState) → Places cpus old id bundle config r new → Passed old new id config cpus
  passes bundle (Ok pid) new c = made bundle pid new c
  passes bundle (Err Memory) new (inl n) = not_made Memory new n
  passes bundle (Err Memory) new (inr same) = as_before new same.2
  passes bundle (Err (Fault (Kernel NoPids))) new same = as_before new same.is
  passes bundle (Err (Fault (Kernel fault))) new n = not_made (Fault fault) new n
  passes bundle (Err (Fault fault)) new same = as_before new same.1

-- what holds of a node in the midst of a restart
pub record Going (m : Layout) (left : List Left) (n : NodeState) : Type 0 where
  pub node : IsNode n
  pub machine : n.machine ≡ m
  pub settled : is_underway n.phase ≡ false
  pub taken : AllByRecursion (IsTaken left n.kernel) n.containers

still_taken : (left : List Left) (old new : KernelState) (e : List ℕ × ContainerState) → IsTaken left old e → EachStays old new e → IsTaken left new e
still_taken left old new e t s = record {
  its = t.its;
  among = t.among;
  id = t.id;
  kind = t.kind;
  live = s.live t.live;
  requests = s.requests ∙ t.requests;
}

module _ (m : Layout) (left : List Left) (keep : RunsKeep) where
  -- one try
  module _ (old new : NodeState) (a : Left) (bundle config : List ℕ) (r : Result ℕ (OrMemory NodeFault)) (among : IsAmong left a) (asks : AsksAsBefore m config a)
      (h : Going m left old) (call : Adopts old a.id bundle config a.cpus r new) where
    passed : Passed old new a.id config a.cpus
    passed = passes old h.node a.id config a.cpus bundle r new call

    stay : AllByRecursion (IsTaken left new.kernel) old.containers
    stay = all_map2 (IsTaken left old.kernel) (EachStays old.kernel new.kernel) (IsTaken left new.kernel) (λ e t s. still_taken left old.kernel new.kernel e t s)
        old.containers h.taken passed.stays

    its_own : (o : OneMore old new a.id config a.cpus) → IsTaken left new.kernel (a.id, o.container)
    its_own o = record {
      its = a;
      among = among;
      id = refl;
      kind = λ pinned. asks.kind (subst (λ (s : Said). asks_own s.cpu ≡ true) (one_reading config o.said asks.said o.read asks.read) (o.asks pinned));
      live = o.live;
      requests = o.requests;
    }

    all_taken : (new.containers ≡ old.containers) ⊎ OneMore old new a.id config a.cpus → AllByRecursion (IsTaken left new.kernel) new.containers
    all_taken (inl same) = subst (AllByRecursion (IsTaken left new.kernel)) (sym same) stay
    all_taken (inr o) =
        subst (AllByRecursion (IsTaken left new.kernel)) (sym o.is)
        (all_push (IsTaken left new.kernel) old.containers (a.id, o.container) stay (its_own o))

    pub goes : Going m left new
    goes = record {
      node = keep old (Adopt a.id bundle config a.cpus r ∷ []) new h.node (new, call, refl);
      machine = passed.machine ∙ h.machine;
      settled = passed.phase ∙ h.settled;
      taken = all_taken passed.now;
    }

    -- what was taken before stays taken
    still_there : (id : List ℕ) (c : ContainerState) → container_of old id ≡ Some c → (new.containers ≡ old.containers) ⊎ OneMore old new a.id config a.cpus → container_of new id ≡ Some c
    still_there id c there (inl same) = ap (λ (es : Entries). lookup (bytes_eq id) es) same ∙ there
    still_there id c there (inr o) = ap (λ (es : Entries). lookup (bytes_eq id) es) o.is ∙ found_still id old.containers c (a.id, o.container) there

    pub stays_taken : (id : List ℕ) (cpus : Ids) → HasTaken old id cpus → HasTaken new id cpus
    stays_taken id cpus t =
        let s = found id (EachStays old.kernel new.kernel) old.containers t.container t.there passed.stays in
        record {
          container = t.container;
          there = still_there id t.container t.there passed.now;
          live = s.live t.live;
          requests = s.requests ∙ t.requests;
        }

  -- the container of a try that was answered a pid
  pub is_there : (old new : NodeState) (id bundle config : List ℕ) (cpus : Ids) (pid : ℕ) → Adopts old id bundle config cpus (Ok pid) new → HasTaken new id cpus
  is_there old new id bundle config cpus pid c =
      let own = launched old.parent id old.kernel cpus c.asked.homes c.group pid new.kernel c.launched in
      record {
        container = new_container bundle c.said c.asked c.group pid;
        there = ap (λ (x : NodeState). container_of x id) c.is
            ∙ found_last id old.containers (new_container bundle c.said c.asked c.group pid) c.free.new;
        live = own.1;
        requests = own.0;
      }

  -- the tries of which this is the event, by their ids and CPUs
  module _ (left_so : AreLeft m left) where
    -- tries, one after another
    pub tried : (tries : List Event) (old n : NodeState) → Going m left old → AllByRecursion (TakesUp m left) tries → Run old tries n
        → Going m left n × ((id : List ℕ) (cpus : Ids) → HasTaken old id cpus → HasTaken n id cpus) × AllByRecursion (StaysTaken n) tries
    tried [] old n h of run = (
      subst (Going m left) (sym run) h,
      λ id cpus t. subst (λ (x : NodeState). HasTaken x id cpus) (sym run) t,
      tt,
    )
    tried (Adopt id bundle config cpus r ∷ tries) old n h of (mid, call, run) =
        let a = of.0.0 in
        let its : Adopts old a.id bundle config a.cpus r mid =
        subst (λ (c : Ids). Adopts old a.id bundle config c r mid) of.0.4 (subst (λ (i : List ℕ). Adopts old i bundle config cpus r mid) of.0.3 call) in
        let next = goes old mid a bundle config r of.0.1 of.0.2 h its in
        let rest = tried tries mid n next of.1 run in (
          rest.0,
          λ i c t. rest.1 i c (stays_taken old mid a bundle config r of.0.1 of.0.2 h its i c t),
          (its_there r call rest.1, rest.2),
        ) where
          its_there : (answer : Result ℕ (OrMemory NodeFault)) → Adopts old id bundle config cpus answer mid
              → ((i : List ℕ) (c : Ids) → HasTaken mid i c → HasTaken n i c) → StaysTaken n (Adopt id bundle config cpus answer)
          its_there (Ok pid) done later = later id cpus (is_there old mid id bundle config cpus pid done)
          its_there (Err error) done later = tt
    tried (event ∷ tries) old n h of run = absurd of.0

    -- a new run
    pub begins : (first : NodeState) → BootsNodes → IsMachine m → Boots m first → Going m left first
    begins first nodes layout boots = record {
      node = nodes m first layout boots;
      machine = ap (λ (x : NodeState). x.machine) boots.2.3;
      settled = ap (λ (x : NodeState). is_underway x.phase) boots.2.3;
      taken = subst (AllByRecursion (IsTaken left first.kernel)) (sym (ap (λ (x : NodeState). x.containers) boots.2.3)) tt;
    }

    turned : (x y : Left) → AreApart m x y → AreApart m y x
    turned x y apart = record {
      ids = swapped_ids x.id y.id apart.ids;
      cpus = λ one cpu a b. apart.cpus (either_way y.pinned x.pinned one) cpu b a;
    } where
      either_way : (p q : Bool) → (p || q) ≡ true → (q || p) ≡ true
      either_way true true e = refl
      either_way true false e = refl
      either_way false true e = refl
      either_way false false e = e

    -- whatever one of them keeps of another one's CPUs is reserved
    module _ (n : NodeState) (a : Left) (among : IsAmong left a) (pinned : Bool) (kind : pinned ≡ true → a.pinned ≡ true) (cpu : ℕ)
        (there : set.contains a.cpus cpu ≡ true) where
      one_pinned : (p q : Bool) (e : Left) → (p ≡ true → e.pinned ≡ true) → (q ≡ true → a.pinned ≡ true) → (p || q) ≡ true → (e.pinned || a.pinned) ≡ true
      one_pinned true q e own other either = ap (λ b. b || a.pinned) (own refl)
      one_pinned false true e own other either = right e.pinned a.pinned (other refl) where
        right : (x y : Bool) → y ≡ true → (x || y) ≡ true
        right true y is = refl
        right false y is = is
      one_pinned false false e own other either = absurd (false≢true either)

      kept_one : (e : List ℕ × ContainerState) → IsTaken left n.kernel e → bytes_eq a.id e.0 ≡ false → keeps n.kernel pinned cpu e ≡ true
          → set.contains m.reserved cpu ≡ true
      kept_one e t other kept =
          let live = and_left (is_live n.kernel e.1) _ kept in
          let rest = and_right (is_live n.kernel e.1) _ kept in
          let either = and_left (is_pinned e.1.demand.kind || pinned) _ rest in
          let has = and_right (is_pinned e.1.demand.kind || pinned) _ rest in
          by (pairs_among (AreApart m) turned left t.its a left_so.apart t.among among) either has where
            by : (t.its ≡ a) ⊎ AreApart m t.its a → (is_pinned e.1.demand.kind || pinned) ≡ true → set.contains (requested_by n.kernel e) cpu ≡ true → set.contains m.reserved cpu ≡ true
            by (inl same) either has =
                absurd (false≢true (sym other ∙ ap (bytes_eq a.id) (t.id ∙ ap (λ (x : Left). x.id) same) ∙ same_bytes a.id))
            by (inr apart) either has =
                apart.cpus (one_pinned (is_pinned e.1.demand.kind) pinned t.its t.kind kind either) cpu (ap (λ s. set.contains s cpu) (sym t.requests) ∙ has) there

      kept_any : (xs : Entries) → AllByRecursion (IsTaken left n.kernel) xs → AllByRecursion (λ e. bytes_eq a.id e.0 ≡ false) xs
          → list_any (keeps n.kernel pinned cpu) xs ≡ true → set.contains m.reserved cpu ≡ true
      kept_any [] taken others kept = absurd (false≢true kept)
      kept_any (e ∷ xs) taken others kept = by (λ any. kept_any xs taken.1 others.1 any) (keeps n.kernel pinned cpu e) refl kept where
        by : (list_any (keeps n.kernel pinned cpu) xs ≡ true → set.contains m.reserved cpu ≡ true) → (b : Bool) → keeps n.kernel pinned cpu e ≡ b → (b || list_any (keeps n.kernel pinned cpu) xs) ≡ true → set.contains m.reserved cpu ≡ true
        by rest true is any = kept_one e taken.0 others.0 is
        by rest false is any = rest any

      pub is_free : (h : Going m left n) → container_of n a.id ≡ None → is_free_cpu n pinned cpu ≡ true
      is_free h none =
          both_true (set.contains (present n.machine) cpu) _ (ap (λ (x : Layout). set.contains (present x) cpu) h.machine ∙ (all_among (IsLeft m) left a left_so.each among).there cpu there)
          (by (list_any (keeps n.kernel pinned cpu) n.containers) refl) where
            by : (b : Bool) → list_any (keeps n.kernel pinned cpu) n.containers ≡ b → (set.contains n.machine.reserved cpu || not b) ≡ true
            by true is =
                let reserved = kept_any n.containers h.taken (other_ids a.id n.containers none) is in
                ap (λ b. b || false) (ap (λ (x : Layout). set.contains x.reserved cpu) h.machine ∙ reserved)
            by false is = or_true (set.contains n.machine.reserved cpu)

    -- there may be one more
    has_its : (n : NodeState) → Going m left n → (a : Left) → IsAmong left a → container_of n a.id ≡ None → length n.containers < CONTAINER_LIMIT
    has_its n h a among none =
        let ids : List (List ℕ) = ids_of n.containers in
        let apart : Pairwise (λ x y. bytes_eq x y ≡ false) ids =
        apart_ids n.containers (of_pairs_map owner_of HaveOtherIds n.containers h.node.holds.distinct) in
        let few : length (a.id ∷ ids) ≤ length left = no_more_ids (a.id ∷ ids) left (to_ids n.containers (other_ids a.id n.containers none), apart)
        ((a, among, same_bytes a.id), have n.containers h.taken) in
        let long : length ids ≡ length n.containers = long_ids n.containers in
        let most = left_so.few in
        omega (arith, few, long, most) where
          apart_ids : (xs : Entries) → Pairwise (λ x y. HaveOtherIds (owner_of x) (owner_of y)) xs → Pairwise (λ x y. bytes_eq x y ≡ false) (ids_of xs)
          apart_ids [] p = tt
          apart_ids (x ∷ xs) p = (ones xs p.0, apart_ids xs p.1) where
            ones : (ys : Entries) → AllByRecursion (λ y. HaveOtherIds (owner_of x) (owner_of y)) ys → AllByRecursion (λ i. bytes_eq x.0 i ≡ false) (ids_of ys)
            ones [] q = tt
            ones (y ∷ ys) q = (q.0, ones ys q.1)

          to_ids : (xs : Entries) → AllByRecursion (λ e. bytes_eq a.id e.0 ≡ false) xs → AllByRecursion (λ i. bytes_eq a.id i ≡ false) (ids_of xs)
          to_ids [] q = tt
          to_ids (x ∷ xs) q = (q.0, to_ids xs q.1)

          have : (xs : Entries) → AllByRecursion (IsTaken left n.kernel) xs → AllByRecursion (HasOne left) (ids_of xs)
          have [] q = tt
          have (x ∷ xs) q = ((q.0.its, q.0.among, ap (λ i. bytes_eq i q.0.its.id) q.0.id ∙ same_bytes q.0.its.id), have xs q.1)

    -- what one more is answered
    module _ (late : PlacesFailLate) (n new : NodeState) (h : Going m left n) (a : Left) (among : IsAmong left a) (bundle config : List ℕ)
        (none : container_of n a.id ≡ None) where
      pub answered : AsksAsBefore m config a → (r : Result ℕ (OrMemory NodeFault)) → Adopts n a.id bundle config a.cpus r new → IsTakenOrLate n a r new
      answered asks (Ok pid) c = is_there n new a.id bundle config a.cpus pid c
      answered asks (Err Memory) (inl l) = ap (λ (x : NodeState). x.containers) l.is
      answered asks (Err Memory) (inr same) = ap (λ (x : NodeState). x.containers) same.2
      answered asks (Err (Fault (Kernel fault))) call = late a.cpus n a.id bundle config fault new h.node call
      answered asks (Err (Fault Busy)) (inl busy, same) = absurd (false≢true (sym h.settled ∙ busy))
      answered asks (Err (Fault Busy)) (inr never, same) = absurd never.1
      answered asks (Err (Fault BadId)) (inl bad, same) = absurd (bad.1 (all_among (IsLeft m) left a left_so.each among).id)
      answered asks (Err (Fault BadId)) (inr never, same) = absurd never.1
      answered asks (Err (Fault IdInUse)) (inl used, same) = absurd (false≢true (sym (ap is_some none) ∙ used.2))
      answered asks (Err (Fault IdInUse)) (inr never, same) = absurd never.1
      answered asks (Err (Fault TooManyContainers)) (inl many, same) =
          let room : length n.containers < CONTAINER_LIMIT = has_its n h a among none in
          let full : CONTAINER_LIMIT ≤ length n.containers = many.3 in
          absurd (omega (arith, room, full))
      answered asks (Err (Fault TooManyContainers)) (inr never, same) = absurd never.1
      answered asks (Err (Fault (NotFree cpu))) (taken, same) =
          absurd (false≢true (sym taken.taken.taken ∙ is_free n a among (is_pinned taken.asked.kind)
          (λ pinned. asks.kind (subst (λ (s : Said). asks_own s.cpu ≡ true) (one_reading config taken.said asks.said taken.says.said_so asks.read)
          (asks_its_own n.machine taken.said.cpu taken.asked taken.says.asked_so pinned))) cpu taken.taken.there h none))
      answered asks (Err (Fault (Config fault))) (inl never, same) = absurd never
      answered asks (Err (Fault (Config fault))) (inr wrong, same) = absurd (let both : Ok asks.said ≡ Err fault = sym asks.read ∙ wrong.1 in let no : ⊥ = cc both in no)
      answered asks (Err (Fault (Demand fault))) (inl never, same) = absurd never
      answered asks (Err (Fault (Demand fault))) (inr wrong, same) =
          let one : wrong.1.0 ≡ asks.said = one_reading config wrong.1.0 asks.said wrong.1.1 asks.read in
          let right : demand_fault n.machine wrong.1.0.cpu ≡ None =
          ap (λ (s : Said). demand_fault n.machine s.cpu) one ∙ ap (λ (x : Layout). demand_fault x asks.said.cpu) h.machine ∙ asks.right in
          absurd (none-some fault (sym right ∙ wrong.1.2))
      answered asks (Err (Fault fault)) (inl never, same) = absurd never
      answered asks (Err (Fault fault)) (inr never, same) = absurd never.1

    pub pinned_since : (n new : NodeState) → Going m left n → (a : Left) → IsAmong left a → (bundle config : List ℕ) (cpu : ℕ)
        → Adopts n a.id bundle config a.cpus (Err (Fault (NotFree cpu))) new → IsPinnedSince m config a n new
    pinned_since n new h a among bundle config cpu (taken, same) = by (asks_own taken.said.cpu) a.pinned refl refl where
      refused : (is_pinned taken.asked.kind ≡ true → a.pinned ≡ true) → ⊥
      refused kind = false≢true (sym taken.taken.taken ∙ is_free n a among (is_pinned taken.asked.kind) kind cpu taken.taken.there h taken.free.new)

      asking : is_pinned taken.asked.kind ≡ true → asks_own taken.said.cpu ≡ true
      asking pinned = asks_its_own n.machine taken.said.cpu taken.asked taken.says.asked_so pinned

      by : (now before : Bool) → asks_own taken.said.cpu ≡ now → a.pinned ≡ before → IsPinnedSince m config a n new
      by false before now was = absurd (refused (λ pinned. absurd (false≢true (sym now ∙ asking pinned))))
      by true true now was = absurd (refused (λ pinned. was))
      by true false now was = record { said = taken.said; read = taken.says.said_so; now = now; before = was; same = same }

-- the laws
module _ (keep : RunsKeep) (nodes : BootsNodes) where
  is_going : (m : Layout) (left : List Left) (tries : List Event) (n : NodeState) (t : Tries m left tries n) → Going m left n
  is_going m left tries n t = (tried m left keep t.left_so tries t.first n (begins m left keep t.left_so t.first nodes t.layout t.boots) t.of t.run).0

  pub tries_restart : TriesRestart
  tries_restart m left tries n t =
      let all = tried m left keep t.left_so tries t.first n (begins m left keep t.left_so t.first nodes t.layout t.boots) t.of t.run in
      record {
        node = all.0.node;
        safe = all.0.node.holds.safe;
        machine = all.0.machine;
        settled = all.0.settled;
        taken = all.0.taken;
        all = all.2;
      }

  pub none_is_refused : PlacesFailLate → NoneIsRefused
  none_is_refused late m left tries n a bundle config answer new t among asks none call =
      answered m left keep t.left_so late n new (is_going m left tries n t) a among bundle config none asks answer call

  pub only_pinned_since : OnlyPinnedSince
  only_pinned_since m left tries n a bundle config cpu new t among call =
      pinned_since m left keep t.left_so n new (is_going m left tries n t) a among bundle config cpu call

  pub rebalances_go_on : RunsRebalance → RebalancesGoOn
  rebalances_go_on rebalances m left tries order n answer new t run =
      rebalances t.first tries order n answer new (nodes m t.first t.layout t.boots) t.run run
