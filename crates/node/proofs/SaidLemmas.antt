-- What each container asks for is what the config says that was read for it last.
use Rattle.std.proofs.Common.{◌≡◌, ◌⊎◌, inl, inr, ℕ, false, cond, List, [], ◌∷◌, ◌++◌, Some, None, refl, sym, ap, ◌∙◌, subst, append_assoc, arith}
use Rattle.std.proofs.lemmas.List.{append-nil}
use Rattle.std.proofs.lemmas.List.Elements.{Contains-append_left, Contains-append_right}
use Rattle.std.proofs.lemmas.Option.{none-some}
use Rattle.std.proofs.lemmas.Slice.Eq.{bytes_eq-Decides}
use Rattle.std.specs.List.{Contains, AllByRecursion}
use Rattle.std.specs.Map.{lookup, set_value, remove_entry}
use Rattle.std.specs.Str.{bytes_eq}
use Rattle.std.specs.Prelude.{Result, Ok, Err}
use Rattle.faults.specs.declared.OrMemory.{OrMemory}
use Rattle.faults.specs.declared.OrMemory.TheVariants.{Memory, Fault}
use Rattle.cpu_set.specs.Ids.{Ids}
use Rattle.kernel_model.specs.declared.KernelFault.{KernelFault}
use Rattle.kernel_model.specs.declared.KernelFault.TheVariants.{NoPids}
use Rattle.apply_plan.specs.declared.Progress.{Progress}
use Rattle.apply_plan.specs.declared.Progress.TheVariants.{More, Done}
use Rattle.apply_plan.specs.Holders.{Pairwise}
use Rattle.machine.specs.Layout.{Layout}
use Rattle.node.specs.declared.fault.NodeFault.{NodeFault}
use Rattle.node.specs.declared.fault.NodeFault.TheVariants.{Busy, BadId, IdInUse, TooManyContainers, NoContainer, NotCreated, NotRunnable, BadSignal, NotLive, NotStopped, NoHandover, NoAnswer, NotFree, Config, Demand, Kernel}
use Rattle.node.specs.declared.order.Order.{Order}
use Rattle.node.specs.declared.outcome.Outcome.{Outcome}
use Rattle.node.specs.declared.outcome.Outcome.TheVariants.{Plan, Short}
use Rattle.node.specs.declared.phase.Phase.TheVariants.{Unsettled}
use Rattle.node.specs.NodeState.{ContainerState, NodeState}
use Rattle.node.specs.Updates.{Updates}
use Rattle.node.specs.Calls.{Places, Starts, Kills, Deletes}
use Rattle.node.specs.Rebalance.{Begins, StepsOn, Moves, Rebalances, phase_after}
use Rattle.node.specs.Machine.{Event, Step, Run}
use Rattle.node.specs.Machine.Event.{Create, Adopt, Update, Start, Kill, Delete, Rebalance, Begin, StepOn, WriteOn, MissOn, Ask, Fork, Exit, Offline, Online}
use Rattle.node.specs.Said.{IsMadeOf, reads_for, IsAskedIn, IsSaid, ContainersAreSaid}
use Rattle.node.proofs.ContainerLemmas.{split, all_started, each_left}
use Rattle.node.proofs.ListLemmas.{all_push, all_map, pairs_push}
use Rattle.node.proofs.LaunchLemmas.{swapped_ids}

abbrev Entries : Type 0
Entries = List (List ℕ × ContainerState)

-- what leaves the machine and the containers as they were keeps what is said of these
module _ (P : Layout → Entries → Type 0) where
  abbrev Of : NodeState → Type 0
  Of n = P n.machine n.containers

  moved : (other new : NodeState) → new ≡ other → Of other → Of new
  moved other new same h = subst Of (sym same) h

  kill_keeps : (old new : NodeState) (id signal : List ℕ) (r : Result (Unit {0}) NodeFault) → Kills old id signal r new → Of old → Of new
  kill_keeps old new id signal (Ok v) k h = moved (record old { kernel = new.kernel }) new k.is h
  kill_keeps old new id signal (Err (Kernel fault)) k h = moved (record old { kernel = new.kernel }) new k.1.is h
  kill_keeps old new id signal (Err Busy) k h = moved old new k.1 h
  kill_keeps old new id signal (Err BadId) k h = moved old new k.1 h
  kill_keeps old new id signal (Err IdInUse) k h = moved old new k.1 h
  kill_keeps old new id signal (Err TooManyContainers) k h = moved old new k.1 h
  kill_keeps old new id signal (Err NoContainer) k h = moved old new k.1 h
  kill_keeps old new id signal (Err NotCreated) k h = moved old new k.1 h
  kill_keeps old new id signal (Err NotRunnable) k h = moved old new k.1 h
  kill_keeps old new id signal (Err BadSignal) k h = moved old new k.1 h
  kill_keeps old new id signal (Err NotLive) k h = moved old new k.1 h
  kill_keeps old new id signal (Err NotStopped) k h = moved old new k.1 h
  kill_keeps old new id signal (Err NoHandover) k h = moved old new k.1 h
  kill_keeps old new id signal (Err NoAnswer) k h = moved old new k.1 h
  kill_keeps old new id signal (Err (NotFree cpu)) k h = moved old new k.1 h
  kill_keeps old new id signal (Err (Config fault)) k h = moved old new k.1 h
  kill_keeps old new id signal (Err (Demand fault)) k h = moved old new k.1 h

  begin_keeps : (order : Order) (old new : NodeState) (r : Result Outcome (OrMemory NodeFault)) → Begins order old r new → Of old → Of new
  begin_keeps order old new (Ok (Plan total)) b h = moved _ new b.is h
  begin_keeps order old new (Ok (Short wanted allowed)) b h = moved _ new b.is h
  begin_keeps order old new (Err Memory) b h = moved old new b.1 h
  begin_keeps order old new (Err (Fault Busy)) b h = moved old new b.1 h
  begin_keeps order old new (Err (Fault fault)) b h = absurd b

  step_keeps : (old new : NodeState) (r : Result Progress NodeFault) → StepsOn old r new → Of old → Of new
  step_keeps old new (Ok More) s h = moved _ new s.is h
  step_keeps old new (Ok Done) s h = moved _ new s.is h
  step_keeps old new (Err (Kernel fault)) s h = moved _ new s.is h
  step_keeps old new (Err NoHandover) s h = moved old new s.1 h
  step_keeps old new (Err fault) s h = absurd s

  moves_keep : (order : Order) (old new : NodeState) (total : ℕ) (r : Result (Unit {0}) KernelFault) → Moves order old total r new → Of old → Of new
  moves_keep order old new total r m h =
      moved (record m.mid { kernel = new.kernel; phase = phase_after r; ongoing = None }) new m.finishes.is (begin_keeps order old m.mid (Ok (Plan total)) m.begun h)

  pub rebalance_keeps : (order : Order) (old new : NodeState) (r : Result Outcome (OrMemory NodeFault)) → Rebalances order old r new → Of old → Of new
  rebalance_keeps order old new (Ok (Plan total)) b h = moves_keep order old new total (Ok tt) b h
  rebalance_keeps order old new (Ok (Short wanted allowed)) b h = moved _ new b.is h
  rebalance_keeps order old new (Err (Fault (Kernel fault))) b h = moves_keep order old new b.0 (Err fault) b.1 h
  rebalance_keeps order old new (Err Memory) b h = moved old new b.1 h
  rebalance_keeps order old new (Err (Fault Busy)) b h = moved old new b.1 h
  rebalance_keeps order old new (Err (Fault fault)) b h = absurd b

-- no two containers have one id
abbrev OtherIds : List ℕ × ContainerState → List ℕ × ContainerState → Type 0
OtherIds x y = bytes_eq x.0 y.0 ≡ false

abbrev Apart : Entries → Type 0
Apart xs = Pairwise OtherIds xs

module _ (id : List ℕ) where
  abbrev IsOther : List ℕ × ContainerState → Type 0
  IsOther x = bytes_eq id x.0 ≡ false

  -- where no container has the id each has another
  free_ids : (xs : Entries) → lookup (bytes_eq id) xs ≡ None → AllByRecursion IsOther xs
  free_ids [] e = tt
  free_ids (x ∷ xs) e = split id x
      (λ t. absurd (none-some x.1 (sym e ∙ ap (λ b. cond b (Some x.1) (lookup (bytes_eq id) xs)) t)))
      (λ t. (t, free_ids xs (sym (ap (λ b. cond b (Some x.1) (lookup (bytes_eq id) xs)) t) ∙ e)))

  apart_new : (xs : Entries) (c : ContainerState) → AllByRecursion IsOther xs → Apart xs → Apart (xs ++ (id, c) ∷ [])
  apart_new xs c others apart =
      pairs_push OtherIds xs (id, c) apart (all_map IsOther (λ x. OtherIds x (id, c)) (λ x other. swapped_ids id x.0 other) xs others)

  -- ids stay where a container is replaced
  all_set : (P : List ℕ → Type 0) (xs : Entries) (d : ContainerState) → AllByRecursion (λ x. P x.0) xs → AllByRecursion (λ x. P x.0) (set_value (bytes_eq id) xs d)
  all_set P [] d h = tt
  all_set P (x ∷ xs) d h = split id x
      (λ t. subst (λ b. AllByRecursion (λ y. P y.0) (cond b ((x.0, d) ∷ xs) (x ∷ set_value (bytes_eq id) xs d))) (sym t) h)
      (λ t. subst (λ b. AllByRecursion (λ y. P y.0) (cond b ((x.0, d) ∷ xs) (x ∷ set_value (bytes_eq id) xs d))) (sym t) (h.0, all_set P xs d h.1))

  apart_set : (xs : Entries) (d : ContainerState) → Apart xs → Apart (set_value (bytes_eq id) xs d)
  apart_set [] d apart = tt
  apart_set (x ∷ xs) d apart = split id x
      (λ t. subst (λ b. Apart (cond b ((x.0, d) ∷ xs) (x ∷ set_value (bytes_eq id) xs d))) (sym t) apart)
      (λ t. subst (λ b. Apart (cond b ((x.0, d) ∷ xs) (x ∷ set_value (bytes_eq id) xs d))) (sym t)
      (all_set (λ y. bytes_eq x.0 y ≡ false) xs d apart.0, apart_set xs d apart.1))

  apart_left : (xs : Entries) → Apart xs → Apart (remove_entry (bytes_eq id) xs)
  apart_left [] apart = tt
  apart_left (x ∷ xs) apart = split id x
      (λ t. subst (λ b. Apart (cond b xs (x ∷ remove_entry (bytes_eq id) xs))) (sym t) apart.1)
      (λ t. subst (λ b. Apart (cond b xs (x ∷ remove_entry (bytes_eq id) xs))) (sym t)
      (each_left id (OtherIds x) xs apart.0, apart_left xs apart.1))

-- once one more event is behind these
module _ (done : List Event) (event : Event) where
  abbrev more : List Event
  more = done ++ event ∷ []

  there : Contains more event
  there = Contains-append_right done (event ∷ []) event (0, omega arith, refl)

  still_made : (id : List ℕ) (pid : ℕ) (bundle config : List ℕ) → IsMadeOf done id pid bundle config → IsMadeOf more id pid bundle config
  still_made id pid bundle config (inl h) = inl (Contains-append_left done (event ∷ []) (Create id bundle config (Ok pid)) h)
  still_made id pid bundle config (inr (cpus, h)) = inr (cpus, Contains-append_left done (event ∷ []) (Adopt id bundle config cpus (Ok pid)) h)

  -- which reads nothing for the container, what was read last still was
  still_asked : (e : List ℕ × ContainerState) (config : List ℕ) → reads_for e.0 event ≡ false → IsAskedIn done e config → IsAskedIn more e config
  still_asked e config other a = record {
    earlier = a.earlier;
    its = a.its;
    later = a.later ++ event ∷ [];
    cut = ap (λ (es : List Event). es ++ event ∷ []) a.cut ∙ append_assoc a.earlier (a.its ∷ a.later) (event ∷ []);
    read = a.read;
    last = all_push (λ later. reads_for e.0 later ≡ false) a.later event a.last other;
  }

  still_said : (m : Layout) (e : List ℕ × ContainerState) → reads_for e.0 event ≡ false → IsSaid done m e → IsSaid more m e
  still_said m e other h = record {
    config = h.config;
    said = h.said;
    asked = still_asked e h.config other h.asked;
    says = h.says;
    first_bundle = h.first_bundle;
    first_config = h.first_config;
    first_said = h.first_said;
    made = still_made e.0 e.1.pid h.first_bundle h.first_config h.made;
    first_said_so = h.first_said_so;
    runnable = h.runnable;
  }

  -- so with all of those for which it reads nothing
  all_still : (m : Layout) (xs : Entries) → AllByRecursion (λ e. reads_for e.0 event ≡ false) xs → AllByRecursion (IsSaid done m) xs → AllByRecursion (IsSaid more m) xs
  all_still m [] others h = tt
  all_still m (x ∷ xs) others h = (still_said m x others.0 h.0, all_still m xs others.1 h.1)

  none_read : ((id : List ℕ) → reads_for id event ≡ false) → (xs : Entries) → AllByRecursion (λ e. reads_for e.0 event ≡ false) xs
  none_read none [] = tt
  none_read none (x ∷ xs) = (none x.0, none_read none xs)

  -- and where it is an `update`, the container that it names is said of what it read
  module _ (id : List ℕ) (m : Layout) (c d : ContainerState) (own : (key : List ℕ) → bytes_eq id key ≡ false → reads_for key event ≡ false)
      (change : (key : List ℕ) → id ≡ key → IsSaid done m (key, c) → IsSaid more m (key, d)) where
    others : (xs : Entries) → AllByRecursion (IsOther id) xs → AllByRecursion (λ e. reads_for e.0 event ≡ false) xs
    others xs h = all_map (IsOther id) (λ e. reads_for e.0 event ≡ false) (λ e other. own e.0 other) xs h

    replaced : (xs : Entries) → lookup (bytes_eq id) xs ≡ Some c → Apart xs → AllByRecursion (IsSaid done m) xs
        → AllByRecursion (IsSaid more m) (set_value (bytes_eq id) xs d)
    replaced [] e apart h = tt
    replaced (x ∷ xs) e apart h = split id x
        (λ t.
        let same : id ≡ x.0 = (bytes_eq-Decides id x.0).0 t in
        let here : x.1 ≡ c = cc (ap (λ b. cond b (Some x.1) (lookup (bytes_eq id) xs)) t, e) in
        let behind : AllByRecursion (IsOther id) xs = subst (λ (key : List ℕ). AllByRecursion (IsOther key) xs) (sym same) apart.0 in
        subst (λ b. AllByRecursion (IsSaid more m) (cond b ((x.0, d) ∷ xs) (x ∷ set_value (bytes_eq id) xs d))) (sym t)
        (change x.0 same (subst (λ (y : ContainerState). IsSaid done m (x.0, y)) here h.0), all_still m xs (others xs behind) h.1))
        (λ t.
        let next : lookup (bytes_eq id) xs ≡ Some c = sym (ap (λ b. cond b (Some x.1) (lookup (bytes_eq id) xs)) t) ∙ e in
        subst (λ b. AllByRecursion (IsSaid more m) (cond b ((x.0, d) ∷ xs) (x ∷ set_value (bytes_eq id) xs d))) (sym t)
        (still_said m x (own x.0 t) h.0, replaced xs next apart.1 h.1))

-- each container of the node is of a config that was read for it last, and no two have one id
abbrev SaidOf : List Event → Layout → Entries → Type 0
SaidOf events m xs = AllByRecursion (IsSaid events m) xs × Apart xs

abbrev AreSaid : List Event → NodeState → Type 0
AreSaid events n = SaidOf events n.machine n.containers

-- an event that reads nothing leaves what is said of them
none_more : (done : List Event) (event : Event) (old : NodeState) → ((id : List ℕ) → reads_for id event ≡ false) → AreSaid done old → AreSaid (done ++ event ∷ []) old
none_more done event old none h = (all_still done event old.machine old.containers (none_read done event none old.containers) h.0, h.1)

-- a container that is made
module _ (done : List Event) (cpus : Ids) (old new : NodeState) (id bundle config : List ℕ) where
  -- by this event
  abbrev Makes : Event → ℕ → Type 0
  Makes event pid = (event ≡ Create id bundle config (Ok pid)) ⊎ ((others : Ids) × (event ≡ Adopt id bundle config others (Ok pid)))

  made_by : (event : Event) (pid : ℕ) → Makes event pid → IsMadeOf (done ++ event ∷ []) id pid bundle config
  made_by event pid (inl is) = inl (subst (Contains (done ++ event ∷ [])) is (there done event))
  made_by event pid (inr (others, is)) = inr (others, subst (Contains (done ++ event ∷ [])) is (there done event))

  read_by : (e : List ℕ × ContainerState) → e.0 ≡ id → e.1.bundle ≡ bundle → (event : Event) → Makes event e.1.pid → IsAskedIn (done ++ event ∷ []) e config
  read_by e same_id same_bundle event makes = record {
    earlier = done;
    its = event;
    later = [];
    cut = refl;
    read = elim makes [
      | inl is ↦ inl (is ∙ ap (λ (x : List ℕ). Create x bundle config (Ok e.1.pid)) (sym same_id) ∙ ap (λ (x : List ℕ). Create e.0 x config (Ok e.1.pid)) (sym same_bundle))
      | inr by ↦ inr (inl (
        by.0,
        by.1 ∙ ap (λ (x : List ℕ). Adopt x bundle config by.0 (Ok e.1.pid)) (sym same_id) ∙ ap (λ (x : List ℕ). Adopt e.0 x config by.0 (Ok e.1.pid)) (sym same_bundle),
      ))
    ];
    last = tt;
  }

  made_said : (event : Event) (pid : ℕ) → Makes event pid → ((key : List ℕ) → bytes_eq id key ≡ false → reads_for key event ≡ false)
      → Places cpus old id bundle config (Ok pid) new → AreSaid done old → AreSaid (done ++ event ∷ []) new
  made_said event pid makes own c h =
      let free : AllByRecursion (IsOther id) old.containers = free_ids id old.containers c.free.new in
      moved (SaidOf (done ++ event ∷ [])) _ new c.is (
        all_push (IsSaid (done ++ event ∷ []) old.machine) old.containers _
            (all_still done event old.machine old.containers (all_map (IsOther id) (λ e. reads_for e.0 event ≡ false) (λ e other. own e.0 other) old.containers free) h.0)
            (record {
              config = config;
              said = c.said;
              asked = read_by _ refl refl event makes;
              says = c.says;
              first_bundle = bundle;
              first_config = config;
              first_said = c.said;
              made = made_by event pid makes;
              first_said_so = c.says.said_so;
              runnable = refl;
            }),
        apart_new id old.containers _ free h.1,
      )

-- calls that read nothing, as the events so far tell
module _ (events : List Event) where
  abbrev Keeps : NodeState → NodeState → Type 0
  Keeps old new = AreSaid events old → AreSaid events new

  place_refused : (cpus : Ids) (old new : NodeState) (id bundle config : List ℕ) (error : OrMemory NodeFault) → Places cpus old id bundle config (Err error) new → Keeps old new
  place_refused cpus old new id bundle config Memory c h =
      elim c [ inl n ↦ moved (SaidOf events) (record old { kernel = new.kernel }) new n.is h | inr e ↦ moved (SaidOf events) old new e.2 h ]
  place_refused cpus old new id bundle config (Fault (Kernel NoPids)) c h = moved (SaidOf events) old new c.is h
  place_refused cpus old new id bundle config (Fault (Kernel fault)) c h = moved (SaidOf events) (record old { kernel = new.kernel }) new c.is h
  place_refused cpus old new id bundle config (Fault Busy) c h = moved (SaidOf events) old new c.1 h
  place_refused cpus old new id bundle config (Fault BadId) c h = moved (SaidOf events) old new c.1 h
  place_refused cpus old new id bundle config (Fault IdInUse) c h = moved (SaidOf events) old new c.1 h
  place_refused cpus old new id bundle config (Fault TooManyContainers) c h = moved (SaidOf events) old new c.1 h
  place_refused cpus old new id bundle config (Fault NoContainer) c h = moved (SaidOf events) old new c.1 h
  place_refused cpus old new id bundle config (Fault NotCreated) c h = moved (SaidOf events) old new c.1 h
  place_refused cpus old new id bundle config (Fault NotRunnable) c h = moved (SaidOf events) old new c.1 h
  place_refused cpus old new id bundle config (Fault BadSignal) c h = moved (SaidOf events) old new c.1 h
  place_refused cpus old new id bundle config (Fault NotLive) c h = moved (SaidOf events) old new c.1 h
  place_refused cpus old new id bundle config (Fault NotStopped) c h = moved (SaidOf events) old new c.1 h
  place_refused cpus old new id bundle config (Fault NoHandover) c h = moved (SaidOf events) old new c.1 h
  place_refused cpus old new id bundle config (Fault NoAnswer) c h = moved (SaidOf events) old new c.1 h
  place_refused cpus old new id bundle config (Fault (NotFree cpu)) c h = moved (SaidOf events) old new c.1 h
  place_refused cpus old new id bundle config (Fault (Config fault)) c h = moved (SaidOf events) old new c.1 h
  place_refused cpus old new id bundle config (Fault (Demand fault)) c h = moved (SaidOf events) old new c.1 h

  update_refused : (old new : NodeState) (id bundle config : List ℕ) (error : OrMemory NodeFault) → Updates old id bundle config (Err error) new → Keeps old new
  update_refused old new id bundle config Memory u h = moved (SaidOf events) old new u.3 h
  update_refused old new id bundle config (Fault (Kernel fault)) u h = moved (SaidOf events) (record old { kernel = new.kernel }) new u.1.is h
  update_refused old new id bundle config (Fault fault) u h = moved (SaidOf events) old new u.1 h

  start_said : (old new : NodeState) (id : List ℕ) (r : Result (Unit {0}) NodeFault) → Starts old id r new → Keeps old new
  start_said old new id (Ok v) s h =
      moved (SaidOf events) _ new s.4 (
        all_started id (IsSaid events old.machine) old.containers s.0 s.1
            (λ key e. record {
              config = e.config;
              said = e.said;
              asked = record { earlier = e.asked.earlier; its = e.asked.its; later = e.asked.later; cut = e.asked.cut; read = e.asked.read; last = e.asked.last };
              says = e.says;
              first_bundle = e.first_bundle;
              first_config = e.first_config;
              first_said = e.first_said;
              made = e.made;
              first_said_so = e.first_said_so;
              runnable = e.runnable;
            }) h.0,
        apart_set id old.containers _ h.1,
      )
  start_said old new id (Err fault) s h = moved (SaidOf events) old new s.1 h

  delete_said : (old new : NodeState) (id : List ℕ) (r : Result (Unit {0}) NodeFault) → Deletes old id r new → Keeps old new
  delete_said old new id (Ok v) d h =
      moved (SaidOf events) _ new d.is (each_left id (IsSaid events old.machine) old.containers h.0, apart_left id old.containers h.1)
  delete_said old new id (Err (Kernel fault)) d h = moved (SaidOf events) (record old { kernel = new.kernel; containers = old.containers }) new d.1.is h
  delete_said old new id (Err Busy) d h = moved (SaidOf events) old new d.1 h
  delete_said old new id (Err BadId) d h = moved (SaidOf events) old new d.1 h
  delete_said old new id (Err IdInUse) d h = moved (SaidOf events) old new d.1 h
  delete_said old new id (Err TooManyContainers) d h = moved (SaidOf events) old new d.1 h
  delete_said old new id (Err NoContainer) d h = moved (SaidOf events) old new d.1 h
  delete_said old new id (Err NotCreated) d h = moved (SaidOf events) old new d.1 h
  delete_said old new id (Err NotRunnable) d h = moved (SaidOf events) old new d.1 h
  delete_said old new id (Err BadSignal) d h = moved (SaidOf events) old new d.1 h
  delete_said old new id (Err NotLive) d h = moved (SaidOf events) old new d.1 h
  delete_said old new id (Err NotStopped) d h = moved (SaidOf events) old new d.1 h
  delete_said old new id (Err NoHandover) d h = moved (SaidOf events) old new d.1 h
  delete_said old new id (Err NoAnswer) d h = moved (SaidOf events) old new d.1 h
  delete_said old new id (Err (NotFree cpu)) d h = moved (SaidOf events) old new d.1 h
  delete_said old new id (Err (Config fault)) d h = moved (SaidOf events) old new d.1 h
  delete_said old new id (Err (Demand fault)) d h = moved (SaidOf events) old new d.1 h

-- an `update` that is done
module _ (done : List Event) (old new : NodeState) (id bundle config : List ℕ) where
  abbrev Its : Event
  Its = Update id bundle config (Ok tt)

  update_said : Updates old id bundle config (Ok tt) new → AreSaid done old → AreSaid (done ++ Its ∷ []) new
  update_said u h =
      let d : ContainerState = record u.container { bundle = bundle; demand = u.asked } in
      moved (SaidOf (done ++ Its ∷ [])) _ new u.is (
        replaced done Its id old.machine u.container d (λ key other. other)
            (λ key same e. record {
              config = config;
              said = u.said;
              asked = record {
                earlier = done;
                its = Its;
                later = [];
                cut = refl;
                read = inr (inr (ap (λ (x : List ℕ). Update x bundle config (Ok tt)) same, (e.first_bundle, e.first_config, e.made)));
                last = tt;
              };
              says = u.says;
              first_bundle = e.first_bundle;
              first_config = e.first_config;
              first_said = e.first_said;
              made = still_made done Its key u.container.pid e.first_bundle e.first_config e.made;
              first_said_so = e.first_said_so;
              runnable = e.runnable;
            }) old.containers u.may.there h.1 h.0,
        apart_set id old.containers d h.1,
      )

-- each event
module _ (done : List Event) (old new : NodeState) where
  abbrev Extends : Event → Type 0
  Extends event = AreSaid done old → AreSaid (done ++ event ∷ []) new

  event_said : (event : Event) → Step old event new → Extends event
  event_said (Create id bundle config (Ok pid)) s h =
      made_said done old.machine.reserved old new id bundle config (Create id bundle config (Ok pid)) pid (inl refl) (λ key other. other) s h
  event_said (Create id bundle config (Err error)) s h =
      place_refused (done ++ Create id bundle config (Err error) ∷ []) old.machine.reserved old new id bundle config error s
      (none_more done (Create id bundle config (Err error)) old (λ key. refl) h)
  event_said (Adopt id bundle config cpus (Ok pid)) s h =
      made_said done cpus old new id bundle config (Adopt id bundle config cpus (Ok pid)) pid (inr (cpus, refl)) (λ key other. other) s h
  event_said (Adopt id bundle config cpus (Err error)) s h =
      place_refused (done ++ Adopt id bundle config cpus (Err error) ∷ []) cpus old new id bundle config error s
      (none_more done (Adopt id bundle config cpus (Err error)) old (λ key. refl) h)
  event_said (Update id bundle config (Ok v)) s h = update_said done old new id bundle config s h
  event_said (Update id bundle config (Err error)) s h =
      update_refused (done ++ Update id bundle config (Err error) ∷ []) old new id bundle config error s
      (none_more done (Update id bundle config (Err error)) old (λ key. refl) h)
  event_said (Start id answer) s h =
      start_said (done ++ Start id answer ∷ []) old new id answer s
      (none_more done (Start id answer) old (λ key. refl) h)
  event_said (Kill id signal answer) s h =
      kill_keeps (SaidOf (done ++ Kill id signal answer ∷ [])) old new id signal answer s
      (none_more done (Kill id signal answer) old (λ key. refl) h)
  event_said (Delete id answer) s h =
      delete_said (done ++ Delete id answer ∷ []) old new id answer s
      (none_more done (Delete id answer) old (λ key. refl) h)
  event_said (Rebalance order answer) s h =
      rebalance_keeps (SaidOf (done ++ Rebalance order answer ∷ [])) order old new answer s
      (none_more done (Rebalance order answer) old (λ key. refl) h)
  event_said (Begin order answer) s h =
      begin_keeps (SaidOf (done ++ Begin order answer ∷ [])) order old new answer s
      (none_more done (Begin order answer) old (λ key. refl) h)
  event_said (StepOn answer) s h =
      step_keeps (SaidOf (done ++ StepOn answer ∷ [])) old new answer s
      (none_more done (StepOn answer) old (λ key. refl) h)
  event_said WriteOn s h =
      moved (SaidOf (done ++ WriteOn ∷ [])) (record old { kernel = new.kernel }) new s.is
      (none_more done WriteOn old (λ key. refl) h)
  event_said (MissOn fault) s h =
      moved (SaidOf (done ++ MissOn fault ∷ [])) (record old { kernel = new.kernel; phase = Unsettled; ongoing = None }) new s.is
      (none_more done (MissOn fault) old (λ key. refl) h)
  event_said (Ask question) s h =
      moved (SaidOf (done ++ Ask question ∷ [])) old new s.1
      (none_more done (Ask question) old (λ key. refl) h)
  event_said (Fork parent answer) s h =
      moved (SaidOf (done ++ Fork parent answer ∷ [])) (record old { kernel = new.kernel }) new s.1
      (none_more done (Fork parent answer) old (λ key. refl) h)
  event_said (Exit pid answer) s h =
      moved (SaidOf (done ++ Exit pid answer ∷ [])) (record old { kernel = new.kernel }) new s.1
      (none_more done (Exit pid answer) old (λ key. refl) h)
  event_said (Offline cpu answer) s h =
      moved (SaidOf (done ++ Offline cpu answer ∷ [])) (record old { kernel = new.kernel }) new s.1
      (none_more done (Offline cpu answer) old (λ key. refl) h)
  event_said (Online cpu answer) s h =
      moved (SaidOf (done ++ Online cpu answer ∷ [])) (record old { kernel = new.kernel }) new s.1
      (none_more done (Online cpu answer) old (λ key. refl) h)

run_said : (done : List Event) (old : NodeState) (later : List Event) (new : NodeState) → Run old later new → AreSaid done old → AreSaid (done ++ later) new
run_said done old [] new r h = subst (λ (es : List Event). AreSaid es new) (sym (append-nil done)) (moved (SaidOf done) old new r h)
run_said done old (event ∷ later) new r h =
    subst (λ (es : List Event). AreSaid es new) (append_assoc done (event ∷ []) later)
    (run_said (done ++ event ∷ []) r.0 later new r.2 (event_said done old r.0 event r.1 h))

pub containers_are_said : ContainersAreSaid
containers_are_said first events new none r =
    (run_said [] first events new r (subst (λ (cs : Entries). SaidOf [] first.machine cs) (sym none) (tt, tt))).0
