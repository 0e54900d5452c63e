-- The calls of a node, each on what its parts found and did.
use Rattle.std.proofs.Common.{◌≡◌, inl, ℕ, Bool, true, false, List, [], ◌∷◌, ◌++◌, Some, None, refl, sym, ap, ◌∙◌, subst, string_bytes}
use Rattle.std.specs.Prelude.{map, String, Ok, Err}
use Rattle.std.specs.declared.alloc.Global.{Global}
use Rattle.serde_json.specs.Written.{compact_text}
use Rattle.std.specs.Map.{set_value, remove_entry}
use Rattle.std.specs.Str.{bytes_eq}
use Rattle.cpu_set.specs.Ids.{Ids}
use Rattle.cpuset_tree.specs.declared.Group.{Group}
use Rattle.cpuset_tree.specs.Groups.{has_group}
use Rattle.kernel_model.specs.declared.KernelFault.{KernelFault}
use Rattle.kernel_model.specs.declared.KernelFault.TheVariants.{NoPids}
use Rattle.kernel_model.specs.Trace.{EndedGroup}
use Rattle.kernel_model.specs.KernelState.{KernelState}
use Rattle.kernel_model.specs.Refusals.{end_refusal}
use Rattle.kernel_model.specs.RefusalLemmas.{calls_are_free}
use Rattle.kernel_model.specs.Cases.{EndsGroup, RemovesGroup, EndsGroupOf}
use Rattle.demand.specs.declared.Demand.{Demand as Asked}
use Rattle.faults.specs.declared.OrMemory.{OrMemory}
use Rattle.faults.specs.declared.OrMemory.TheVariants.{Memory, Fault}
use Rattle.node.specs.declared.fault.NodeFault.{NodeFault}
use Rattle.node.specs.declared.fault.NodeFault.TheVariants.{NotCreated, NotRunnable, NotLive, NotStopped, Kernel}
use Rattle.node.specs.declared.sets.Sets.{Sets}
use Rattle.node.specs.NodeState.{ContainerState, NodeState, container_of, is_underway}
use Rattle.node.specs.Status.{is_live}
use Rattle.node.specs.IsNode.{IsNode}
use Rattle.node.specs.Launch.{Launches, lacks_pid}
use Rattle.node.specs.Owners.{is_pinned, owners_of}
use Rattle.node.specs.MayRequest.{MayRequest, IsLeastTaken}
use Rattle.node.specs.Wanted.{Says, Reads}
use Rattle.node.specs.Refusals.{IsFree, IsTakenFrom}
use Rattle.node.specs.declared.container.Container.{Container}
use Rattle.node.specs.Viewed.{entry_seen, all_seen}
use Rattle.node.specs.Listed.{entry_listed, listing}
use Rattle.node.specs.Shown.{state_of, Shows}
use Rattle.node.specs.Sets.{sets_at, HasSets}
use Rattle.node.specs.Calls.{new_container, Created, NotLaunched, late_answer, Places, is_created, StartCause, Starts, is_ending, KillCause, Kills, DeleteCause, Deletes}
use Rattle.node.proofs.ContainerLemmas.{other_ids}
use Rattle.node.proofs.LateLemmas.{has_pid}
use Rattle.node.proofs.EventLemmas.{only_failed}
use Rattle.node.proofs.DeleteLemmas.{there, delete_failed}
use Rattle.node.proofs.NodeLemmas.{started_node, deleted_node, created_node, not_created_node}

abbrev Containers : Type 0
Containers = List (List ℕ × ContainerState)

-- a container's group is there
pub group_there : (n : NodeState) → IsNode n → (id : List ℕ) (c : ContainerState) → container_of n id ≡ Some c → has_group n.kernel.tree c.group ≡ true
group_there n h id c found = there n.parent id n.containers c found n.kernel h.holds

-- `list`
listed_seen : (k : KernelState) (es : List (String Global × Container)) → map (λ e. entry_listed k (entry_seen e)) es ≡ map (entry_listed k) (all_seen es)
listed_seen k [] = refl
listed_seen k (e ∷ es) = ap (λ later. entry_listed k (entry_seen e) ∷ later) (listed_seen k es)

pub list_seen : (n now : NodeState) → n ≡ now → (xs es : List (String Global × Container)) → xs ≡ es → n.containers ≡ all_seen es
    → map (λ e. entry_listed n.kernel (entry_seen e)) xs ≡ listing now
list_seen n now is xs es same seen =
    ap (map (λ e. entry_listed n.kernel (entry_seen e))) same ∙ listed_seen n.kernel es ∙ ap (map (entry_listed n.kernel)) (sym seen) ∙ ap listing is

module _ (n now : NodeState) (is : n ≡ now) (id : List ℕ) where
  pub sets_seen : (c : ContainerState) → container_of n id ≡ Some c → (sets : Sets) → sets ≡ sets_at n.kernel c.group → HasSets now id (Ok sets)
  sets_seen c found sets s = subst (λ (m : NodeState). HasSets m id (Ok sets)) is (c, found, s)

  pub state_seen : (c : ContainerState) → container_of n id ≡ Some c → (text : String Global) → string_bytes text ≡ compact_text (state_of n.kernel id c) → Shows now id (Ok text)
  state_seen c found text t = subst (λ (m : NodeState). Shows m id (Ok text)) is (c, found, t)

  -- `start`
  pub start_not_created : (c : ContainerState) → container_of n id ≡ Some c → is_created n.kernel c ≡ false → StartCause now id NotCreated × (now ≡ now)
  start_not_created c found made = (subst (λ (m : NodeState). StartCause m id NotCreated) is (c, found, made), refl)

  pub start_not_runnable : (c : ContainerState) → container_of n id ≡ Some c → is_created n.kernel c ≡ true → c.runnable ≡ false → StartCause now id NotRunnable × (now ≡ now)
  start_not_runnable c found made runnable = (subst (λ (m : NodeState). StartCause m id NotRunnable) is (c, found, made, runnable), refl)

  module _ (c : ContainerState) (found : container_of n id ≡ Some c) (cs : Containers) (marked : cs ≡ set_value (bytes_eq id) n.containers (record c { started = true })) where
    pub start_done : is_created n.kernel c ≡ true → c.runnable ≡ true → Starts now id (Ok tt) (record n { containers = cs })
    start_done made runnable =
        subst (λ (m : NodeState). Starts m id (Ok tt) (record n { containers = cs })) is (c, found, made, runnable, ap (λ (xs : Containers). record n { containers = xs }) marked)

    pub start_node : IsNode n → IsNode (record n { containers = cs })
    start_node h = subst (λ (xs : Containers). IsNode (record n { containers = xs })) (sym marked) (started_node n h id c found)

  -- `kill`
  module _ (signal : List ℕ) (ending : is_ending signal ≡ true) (c : ContainerState) (found : container_of n id ≡ Some c) where
    pub kill_dead : is_live n.kernel c ≡ false → KillCause now id signal NotLive × (now ≡ now)
    kill_dead dead = (subst (λ (m : NodeState). KillCause m id signal NotLive) is (c, ending, found, dead), refl)

    module _ (live : is_live n.kernel c ≡ true) (new : KernelState) where
      pub kill_refused : IsNode n → (fault : KernelFault) → EndsGroup n.kernel c.group (Err fault) new → Kills now id signal (Err (Kernel fault)) (record n { kernel = new })
      kill_refused h fault e =
          let free : end_refusal n.kernel c.group ≡ None = ((calls_are_free n.kernel).end c.group).1 (group_there n h id c found) in
          let failed = only_failed {A = Unit {0}} (EndedGroup c.group) (end_refusal n.kernel c.group) (EndsGroupOf n.kernel c.group) n.kernel new fault free e in
          subst (λ (m : NodeState). Kills m id signal (Err (Kernel fault)) (record n { kernel = new })) is
          (failed, record { container = c; ending = ending; there = found; live = live; ended = e; is = refl })

      pub kill_done : EndsGroup n.kernel c.group (Ok tt) new → Kills now id signal (Ok tt) (record n { kernel = new })
      kill_done e =
          subst (λ (m : NodeState). Kills m id signal (Ok tt) (record n { kernel = new })) is
          (record { container = c; ending = ending; there = found; live = live; ended = e; is = refl })

  -- `delete`
  module _ (settled : is_underway n.phase ≡ false) (c : ContainerState) (found : container_of n id ≡ Some c) where
    pub delete_live : is_live n.kernel c ≡ true → DeleteCause now id NotStopped × (now ≡ now)
    delete_live live = (subst (λ (m : NodeState). DeleteCause m id NotStopped) is (c, settled, found, live), refl)

    module _ (stopped : is_live n.kernel c ≡ false) (new : KernelState) where
      pub delete_refused : IsNode n → (fault : KernelFault) → RemovesGroup n.kernel c.group (Err fault) new → Deletes now id (Err (Kernel fault)) (record n { kernel = new })
      delete_refused h fault r =
          subst (λ (m : NodeState). Deletes m id (Err (Kernel fault)) (record n { kernel = new })) is (
            delete_failed n.parent id n.containers c found n.kernel h.holds stopped new fault r,
            record { container = c; settled = settled; there = found; stopped = stopped; removed = r; is = refl },
          )

      module _ (cs : Containers) (out : cs ≡ remove_entry (bytes_eq id) n.containers) (r : RemovesGroup n.kernel c.group (Ok tt) new) where
        pub delete_done : Deletes now id (Ok tt) (record n { kernel = new; containers = cs })
        delete_done =
            subst (λ (m : NodeState). Deletes m id (Ok tt) (record n { kernel = new; containers = cs })) is
            (record { container = c; settled = settled; there = found; stopped = stopped; removed = r; is = ap (λ (xs : Containers). record n { kernel = new; containers = xs }) out })

        pub delete_node : IsNode n → IsNode (record n { kernel = new; containers = cs })
        delete_node h =
            subst (λ (xs : Containers). IsNode (record n { kernel = new; containers = xs })) (sym out) (deleted_node n h new settled id c found stopped tt r)

  -- `create` and `adopt`
  free_then : IsFree now id → IsFree n id
  free_then = subst (λ (m : NodeState). IsFree m id) (sym is)

  pub place_taken : (config : List ℕ) → IsFree now id → (runnable : Bool) (asked : Asked) → Reads n.machine config (Ok (runnable, asked)) → (cpus : Ids) (pinned : Bool)
      → pinned ≡ is_pinned asked.kind → (cpu : ℕ) → IsLeastTaken now pinned cpus cpu → IsTakenFrom cpus now id config cpu × (now ≡ now)
  place_taken config free runnable asked reads cpus pinned same cpu taken = (
    record {
      said = reads.0;
      asked = asked;
      free = free;
      says = subst (λ (m : NodeState). Says m.machine config reads.0 asked) is reads.2;
      taken = subst (λ b. IsLeastTaken now b cpus cpu) same taken;
    },
    refl,
  )

  pub place_lacks : (bundle config : List ℕ) → IsFree now id → (runnable : Bool) (asked : Asked) → Reads n.machine config (Ok (runnable, asked)) → (cpus : Ids)
      → MayRequest now (is_pinned asked.kind) cpus → lacks_pid n.kernel n.parent id ≡ true
      → (answer : OrMemory NodeFault) → answer ≡ late_answer (Fault NoPids) → Places cpus now id bundle config (Err answer) now
  place_lacks bundle config free runnable asked reads cpus may lacks answer a =
      subst (λ (x : OrMemory NodeFault). Places cpus now id bundle config (Err x) now) (sym a) (record {
        said = reads.0;
        asked = asked;
        free = free;
        says = subst (λ (m : NodeState). Says m.machine config reads.0 asked) is reads.2;
        may = may;
        lacks = subst (λ (m : NodeState). lacks_pid m.kernel m.parent id ≡ true) is lacks;
        is = refl;
      })

  module _ (bundle config : List ℕ) (free : IsFree now id) (runnable : Bool) (asked : Asked) (reads : Reads n.machine config (Ok (runnable, asked))) (cpus : Ids)
      (may : MayRequest now (is_pinned asked.kind) cpus) (new : KernelState) (cs : Containers) where
    may_then : MayRequest n (is_pinned asked.kind) cpus
    may_then = subst (λ (m : NodeState). MayRequest m (is_pinned asked.kind) cpus) (sym is) may

    create_refused : lacks_pid n.kernel n.parent id ≡ false → (e : OrMemory KernelFault) → Launches n.kernel n.parent id cpus asked.homes (Err e) new → cs ≡ n.containers
        → NotLaunched cpus now id config e (record n { kernel = new; containers = cs })
    create_refused left e l same =
        subst (λ (m : NodeState). NotLaunched cpus m id config e (record n { kernel = new; containers = cs })) is
        (record {
          said = reads.0;
          asked = asked;
          free = free_then free;
          says = reads.2;
          may = may_then;
          left = left;
          refused = l;
          is = ap (λ (xs : Containers). record n { kernel = new; containers = xs }) same;
        })

    late : IsNode n → lacks_pid n.kernel n.parent id ≡ false → (e : OrMemory KernelFault)
        → Launches n.kernel n.parent id cpus asked.homes (Err e) new
        → NotLaunched cpus now id config e (record n { kernel = new; containers = cs })
        → Places cpus now id bundle config (Err (late_answer e)) (record n { kernel = new; containers = cs })
    late h left Memory l x = inl x
    late h left (Fault NoPids) l x =
        absurd
        (has_pid n.parent id (owners_of n.containers) (other_ids id n.containers (free_then free).new) cpus asked.homes n.kernel new h.holds left l)
    late h left (Fault fault) l x = x

    pub create_late : IsNode n → lacks_pid n.kernel n.parent id ≡ false → (e : OrMemory KernelFault) → Launches n.kernel n.parent id cpus asked.homes (Err e) new → cs ≡ n.containers
        → (answer : OrMemory NodeFault) → answer ≡ late_answer e
        → Places cpus now id bundle config (Err answer) (record n { kernel = new; containers = cs })
    create_late h left e l same answer a =
        subst (λ (x : OrMemory NodeFault). Places cpus now id bundle config (Err x) (record n { kernel = new; containers = cs })) (sym a)
        (late h left e l (create_refused left e l same))

    pub refused_node : IsNode n → (e : OrMemory KernelFault) → Launches n.kernel n.parent id cpus asked.homes (Err e) new → cs ≡ n.containers
        → IsNode (record n { kernel = new; containers = cs })
    refused_node h e l same =
        subst (λ (xs : Containers). IsNode (record n { kernel = new; containers = xs })) (sym same)
        (not_created_node n h new cpus id asked e (free_then free) l)

    module _ (group : Group) (pid : ℕ) (l : Launches n.kernel n.parent id cpus asked.homes (Ok (group, pid)) new) (key text : List ℕ) (key_is : key ≡ id) (text_is : text ≡ bundle)
        (more : cs ≡ n.containers ++ (key, record { bundle = text; demand = asked; runnable = runnable; group = group; pid = pid; started = false }) ∷ []) where
      added : cs ≡ n.containers ++ (id, new_container bundle reads.0 asked group pid) ∷ []
      added =
          more
          ∙ ap (λ (k : List ℕ). n.containers ++ (k, record { bundle = text; demand = asked; runnable = runnable; group = group; pid = pid; started = false }) ∷ []) key_is
          ∙ ap (λ (t : List ℕ). n.containers ++ (id, record { bundle = t; demand = asked; runnable = runnable; group = group; pid = pid; started = false }) ∷ []) text_is
          ∙ ap (λ (b : Bool). n.containers ++ (id, record { bundle = bundle; demand = asked; runnable = b; group = group; pid = pid; started = false }) ∷ []) reads.1

      pub create_done : Places cpus now id bundle config (Ok pid) (record n { kernel = new; containers = cs })
      create_done =
          subst (λ (m : NodeState). Created cpus m id bundle config pid (record n { kernel = new; containers = cs })) is
          (record {
            said = reads.0;
            asked = asked;
            group = group;
            free = free_then free;
            says = reads.2;
            may = may_then;
            launched = l;
            is = ap (λ (xs : Containers). record n { kernel = new; containers = xs }) added;
          })

      pub create_node : IsNode n → IsNode (record n { kernel = new; containers = cs })
      create_node h =
          subst (λ (xs : Containers). IsNode (record n { kernel = new; containers = xs })) (sym added) (created_node n h new cpus id bundle reads.0 asked group pid (free_then free) reads.2.fits may_then l)
