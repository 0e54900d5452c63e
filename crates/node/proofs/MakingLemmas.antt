-- The states of the kernel in the midst of `create` and `adopt`.
use Rattle.std.proofs.Common.{◌≡◌, inl, inr, ℕ, Bool, List, [], ◌∷◌, ◌++◌, false, refl, sym, ap, ◌∙◌, subst}
use Rattle.std.proofs.lemmas.Bool.{false≢true}
use Rattle.std.proofs.lemmas.List.{map-append}
use Rattle.std.specs.Prelude.{map, Option, Some, None, Result, Ok, Err}
use Rattle.std.specs.List.{AllByRecursion}
use Rattle.std.specs.Str.{bytes_eq}
use Rattle.faults.specs.declared.OrMemory.{OrMemory}
use Rattle.faults.specs.declared.OrMemory.TheVariants.{Memory, Fault}
use Rattle.cpu_set.specs.Ids.{Ids}
use Rattle.cpuset_tree.specs.declared.Group.{Group}
use Rattle.cpuset_tree.specs.Groups.{child_of, requested_cpus}
use Rattle.proctable.specs.TableState.{TableState}
use Rattle.proctable.specs.Processes.{is_alive}
use Rattle.kernel_model.specs.declared.KernelFault.{KernelFault}
use Rattle.kernel_model.specs.declared.KernelFault.TheVariants.{NoPids}
use Rattle.kernel_model.specs.KernelState.{KernelState}
use Rattle.kernel_model.specs.KernelLemmas.{writes_keep_processes}
use Rattle.apply_plan.specs.Holders.{AreApart, HasSome, IsSafe}
use Rattle.node.specs.declared.fault.NodeFault.TheVariants.{Kernel}
use Rattle.node.specs.NodeState.{ContainerState, NodeState, container_of}
use Rattle.node.specs.Owners.{Owner, is_pinned, owner_of, owners_of}
use Rattle.node.specs.IsNode.{Holds, IsNode}
use Rattle.node.specs.Launch.{AtOnce, FindsOr, WritesSets, StartsIn, Launches}
use Rattle.node.specs.Calls.{new_container, Created, NotLaunched}
use Rattle.node.specs.Making.{found_states, set_states, set_states_at_once, start_states, launch_states, AreCalls, PlacesAreCalls, PlacesStaySafe}
use Rattle.node.specs.Making.IsOneCall.{Makes, Cpus, Mems, Process}
use Rattle.node.proofs.ListLemmas.{all_map, all_map2, all_of, all_append, all_push, pairs_push}
use Rattle.node.proofs.ContainerLemmas.{other_ids}
use Rattle.node.proofs.HoldsLemmas.{of_safe, to_safe}
use Rattle.node.proofs.FreeLemmas.{may_hold}
use Rattle.node.proofs.LaunchLemmas.{IsReady, MayHold, make_stays, find_stays, find_ready, cpus_written, sets_written, not_spawned, launched}

-- calls after calls
pub calls_then : (old : KernelState) (xs : List KernelState) (mid : KernelState) (ys : List KernelState) (new : KernelState)
    → AreCalls old xs mid → AreCalls mid ys new → AreCalls old (xs ++ ys) new
calls_then old [] mid ys new a b = subst (λ (k : KernelState). AreCalls k ys new) a b
calls_then old (x ∷ xs) mid ys new a b = (a.0, calls_then x xs mid ys new a.1 b)

found_calls : (found : Option Group) (old : KernelState) (parent : Group) (name : List ℕ) (r : Result Group (OrMemory KernelFault)) (new : KernelState)
    (f : FindsOr found old parent name r new) → AreCalls old (found_states found old parent name r new f) new
found_calls (Some g) old parent name r new f = f.1
found_calls None old parent name r new f = (Makes parent name r f, refl)

module _ (g : Group) (cpus mems : Ids) where
  set_calls : (old : KernelState) (r : Result (Unit {0}) KernelFault) (new : KernelState) (s : WritesSets old g cpus mems r new)
      → AreCalls old (set_states old g cpus mems r new s) new
  set_calls old r new (inl (fault, refused, is)) = (Cpus g cpus (Err fault) refused, refl)
  set_calls old r new (inr (done, mid, first, second)) = (Cpus g cpus (Ok done) first, (Mems g mems r second, refl))

  set_calls_at_once : (old : KernelState) (r : Result (Unit {0}) (OrMemory KernelFault)) (new : KernelState) (s : AtOnce (WritesSets old g cpus mems) r new)
      → AreCalls old (set_states_at_once old g cpus mems r new s) new
  set_calls_at_once old (Ok done) new s = set_calls old (Ok done) new s
  set_calls_at_once old (Err Memory) new s = absurd s
  set_calls_at_once old (Err (Fault fault)) new s = set_calls old (Err fault) new s

  start_calls : (old : KernelState) (r : Result ℕ (OrMemory KernelFault)) (new : KernelState) (s : StartsIn old g cpus mems r new)
      → AreCalls old (start_states old g cpus mems r new s) new
  start_calls old r new (inl (fault, refused, is)) = set_calls_at_once old (Err fault) new refused
  start_calls old r new (inr (done, mid, writes, spawns)) =
      calls_then old (set_states_at_once old g cpus mems (Ok done) mid writes) mid (new ∷ []) new
      (set_calls_at_once old (Ok done) mid writes) (Process g r spawns, refl)

launch_calls : (old : KernelState) (parent : Group) (name : List ℕ) (cpus mems : Ids) (r : Result (Group × ℕ) (OrMemory KernelFault)) (new : KernelState)
    (l : Launches old parent name cpus mems r new) → AreCalls old (launch_states old parent name cpus mems r new l) new
launch_calls old parent name cpus mems (Ok made) new (mid, found, starts) =
    calls_then old (found_states (child_of old.tree parent name) old parent name (Ok made.0) mid found) mid
    (start_states mid made.0 cpus mems (Ok made.1) new starts) new
    (found_calls (child_of old.tree parent name) old parent name (Ok made.0) mid found) (start_calls made.0 cpus mems mid (Ok made.1) new starts)
launch_calls old parent name cpus mems (Err error) new (inl refused) = found_calls (child_of old.tree parent name) old parent name (Err error) new refused
launch_calls old parent name cpus mems (Err error) new (inr (g, mid, found, starts)) =
    calls_then old (found_states (child_of old.tree parent name) old parent name (Ok g) mid found) mid
    (start_states mid g cpus mems (Err error) new starts) new
    (found_calls (child_of old.tree parent name) old parent name (Ok g) mid found) (start_calls g cpus mems mid (Err error) new starts)

pub places_are_calls : PlacesAreCalls
places_are_calls cpus old id bundle config (Ok pid) new c =
    launch_calls old.kernel old.parent id cpus c.asked.homes (Ok (c.group, pid)) new.kernel c.launched
places_are_calls cpus old id bundle config (Err Memory) new (inl n) =
    launch_calls old.kernel old.parent id cpus n.asked.homes (Err Memory) new.kernel n.refused
places_are_calls cpus old id bundle config (Err Memory) new (inr same) = ap (λ (n : NodeState). n.kernel) same.2
places_are_calls cpus old id bundle config (Err (Fault (Kernel NoPids))) new same = ap (λ (n : NodeState). n.kernel) same.is
places_are_calls cpus old id bundle config (Err (Fault (Kernel fault))) new n =
    launch_calls old.kernel old.parent id cpus n.asked.homes (Err (Fault fault)) new.kernel n.refused
places_are_calls cpus old id bundle config (Err (Fault fault)) new same = ap (λ (n : NodeState). n.kernel) same.1

-- a group that is found or made, and its sets that are written, leave the processes
pub found_table : (found : Option Group) (old : KernelState) (parent : Group) (name : List ℕ) (r : Result Group (OrMemory KernelFault)) (new : KernelState)
    → FindsOr found old parent name r new → new.table ≡ old.table
found_table (Some g) old parent name r new f = ap (λ (k : KernelState). k.table) f.1
found_table None old parent name r new f = (writes_keep_processes.make old new parent name r f).0

found_tables : (found : Option Group) (old : KernelState) (parent : Group) (name : List ℕ) (r : Result Group (OrMemory KernelFault)) (new : KernelState)
    (f : FindsOr found old parent name r new) → AllByRecursion (λ k. k.table ≡ old.table) (found_states found old parent name r new f)
found_tables (Some g) old parent name r new f = tt
found_tables None old parent name r new f = (found_table None old parent name r new f, tt)

module _ (g : Group) (cpus mems : Ids) (old new : KernelState) (r : Result (Unit {0}) KernelFault) where
  pub set_table : WritesSets old g cpus mems r new → new.table ≡ old.table
  set_table (inl (fault, refused, is)) = (writes_keep_processes.cpus old new g cpus (Err fault) refused).0
  set_table (inr (done, mid, first, second)) =
      (writes_keep_processes.mems mid new g mems r second).0 ∙ (writes_keep_processes.cpus old mid g cpus (Ok done) first).0

  set_tables : (s : WritesSets old g cpus mems r new) → AllByRecursion (λ k. k.table ≡ old.table) (set_states old g cpus mems r new s)
  set_tables (inl (fault, refused, is)) = (set_table (inl (fault, refused, is)), tt)
  set_tables (inr (done, mid, first, second)) =
      ((writes_keep_processes.cpus old mid g cpus (Ok done) first).0, (set_table (inr (done, mid, first, second)), tt))

-- what these containers request is safe
abbrev Safe : List Owner → KernelState → Type 0
Safe owners k = IsSafe k k.reserved (map (λ o. o.holder) owners)

abbrev AllSafe : List Owner → List KernelState → Type 0
AllSafe owners states = AllByRecursion (Safe owners) states

-- and that of one more, while its process is not alive
with_dead : (owners : List Owner) (own : Owner) (k : KernelState) → is_alive k.table own.holder.pid ≡ false → Safe owners k
    → Safe (owners ++ own ∷ []) k
with_dead owners own k dead h =
    let safe = of_safe k k.reserved owners h in
    to_safe k k.reserved (owners ++ own ∷ []) (record {
      apart = pairs_push (λ a b. AreApart k k.reserved (requested_cpus k.tree) a.holder b.holder) owners own safe.apart
          (all_of (λ o. AreApart k k.reserved (requested_cpus k.tree) o.holder own.holder) (λ o la lb. absurd (false≢true (sym dead ∙ lb))) owners);
      some = all_push (λ o. HasSome k (requested_cpus k.tree) o.holder) owners own safe.some (λ live. absurd (false≢true (sym dead ∙ live)));
    })

module _ (parent : Group) (name : List ℕ) (owners : List Owner) (new_id : AllByRecursion (λ o. bytes_eq name o.id ≡ false) owners) where
  found_safe : (found : Option Group) (old : KernelState) (r : Result Group (OrMemory KernelFault)) (new : KernelState)
      (f : FindsOr found old parent name r new)
      → Holds old parent owners → AllSafe owners (found_states found old parent name r new f)
  found_safe (Some g) old r new f h = tt
  found_safe None old r new f h = ((make_stays parent name owners new_id old new h r f).holds.safe, tt)

  module _ (g : Group) (cpus mems : Ids) (old : KernelState) (h : Holds old parent owners) (ready : IsReady old parent name owners g) where
    set_safe : (r : Result (Unit {0}) KernelFault) (new : KernelState) (s : WritesSets old g cpus mems r new)
        → AllSafe owners (set_states old g cpus mems r new s)
    set_safe r new (inl (fault, refused, is)) = ((cpus_written parent name owners new_id g old new h ready cpus (Err fault) refused).holds.safe, tt)
    set_safe r new (inr (done, mid, first, second)) = (
      (cpus_written parent name owners new_id g old mid h ready cpus (Ok done) first).holds.safe,
      ((sets_written parent name owners new_id g old new h ready cpus mems r (inr (done, mid, first, second))).holds.safe, tt),
    )

    set_safe_at_once : (e : OrMemory KernelFault) (new : KernelState) (s : AtOnce (WritesSets old g cpus mems) (Err e) new)
        → AllSafe owners (set_states_at_once old g cpus mems (Err e) new s)
    set_safe_at_once Memory new s = absurd s
    set_safe_at_once (Fault fault) new s = set_safe (Err fault) new s

    -- where no first process is made
    start_safe : (e : OrMemory KernelFault) (new : KernelState) (s : StartsIn old g cpus mems (Err e) new)
        → AllSafe owners (start_states old g cpus mems (Err e) new s)
    start_safe e new (inl (fault, refused, is)) = set_safe_at_once fault new refused
    start_safe e new (inr (done, mid, writes, spawns)) =
        let there = sets_written parent name owners new_id g old mid h ready cpus mems (Ok done) writes in
        all_append (Safe owners) (set_states old g cpus mems (Ok done) mid writes) (new ∷ []) (set_safe (Ok done) mid writes)
        ((not_spawned parent name owners new_id g false mid new there.holds there.ready e spawns).holds.safe, tt)

  module _ (cpus mems : Ids) (old new : KernelState) (h : Holds old parent owners) where
    refused_safe : (e : OrMemory KernelFault) (l : Launches old parent name cpus mems (Err e) new)
        → AllSafe owners (launch_states old parent name cpus mems (Err e) new l)
    refused_safe e (inl refused) = found_safe (child_of old.tree parent name) old (Err e) new refused h
    refused_safe e (inr (g, mid, found, starts)) =
        let holds = (find_stays parent name owners new_id old mid h (Ok g) found).holds in
        all_append (Safe owners) (found_states (child_of old.tree parent name) old parent name (Ok g) mid found)
        (start_states mid g cpus mems (Err e) new starts)
        (found_safe (child_of old.tree parent name) old (Ok g) mid found h)
        (start_safe g cpus mems mid holds (find_ready parent name owners new_id old mid h g found) e new starts)

    -- and where one is made, with its container
    module _ (pinned : Bool) (g : Group) (pid : ℕ) (may : MayHold old owners pinned cpus) where
      abbrev own : Owner
      own = record { id = name; holder = record { group = g; pid = pid; pinned = pinned } }

      before : (xs : List KernelState) → is_alive old.table pid ≡ false → AllSafe owners xs → AllByRecursion (λ k. k.table ≡ old.table) xs
          → AllSafe (owners ++ own ∷ []) xs
      before xs dead =
          all_map2 (Safe owners) (λ k. k.table ≡ old.table) (Safe (owners ++ own ∷ []))
          (λ k safe same. with_dead owners own k (ap (λ (t : TableState). is_alive t pid) same ∙ dead) safe) xs

      made_safe : (l : Launches old parent name cpus mems (Ok (g, pid)) new)
          → AllSafe (owners ++ own ∷ []) (launch_states old parent name cpus mems (Ok (g, pid)) new l)
      made_safe (mid, found, inl (fault, refused, is)) = absurd (let no : ⊥ = cc is in no)
      made_safe (mid, found, inr (done, written, writes, spawns)) =
          let holds = (find_stays parent name owners new_id old mid h (Ok g) found).holds in
          let ready = find_ready parent name owners new_id old mid h g found in
          let first : mid.table ≡ old.table = found_table (child_of old.tree parent name) old parent name (Ok g) mid found in
          let same : written.table ≡ old.table = set_table g cpus mems mid written (Ok done) writes ∙ first in
          let dead : is_alive old.table pid ≡ false = ap (λ (t : TableState). is_alive t pid) (sym same) ∙ spawns.1.does.fresh in
          all_append (Safe (owners ++ own ∷ [])) (found_states (child_of old.tree parent name) old parent name (Ok g) mid found)
          (start_states mid g cpus mems (Ok pid) new (inr (done, written, writes, spawns)))
          (before (found_states (child_of old.tree parent name) old parent name (Ok g) mid found) dead
          (found_safe (child_of old.tree parent name) old (Ok g) mid found h)
          (found_tables (child_of old.tree parent name) old parent name (Ok g) mid found))
          (all_append (Safe (owners ++ own ∷ [])) (set_states mid g cpus mems (Ok done) written writes) (new ∷ [])
          (before (set_states mid g cpus mems (Ok done) written writes) dead (set_safe g cpus mems mid holds ready (Ok done) written writes)
          (all_map (λ k. k.table ≡ mid.table) (λ k. k.table ≡ old.table) (λ k is. is ∙ first) (set_states mid g cpus mems (Ok done) written writes)
          (set_tables g cpus mems mid written (Ok done) writes)))
          (made_last (mid, found, inr (done, written, writes, spawns)), tt)) where
            made_last : Launches old parent name cpus mems (Ok (g, pid)) new → Safe (owners ++ own ∷ []) new
            made_last l = (launched parent name owners new_id pinned cpus mems g pid old new h may l).holds.safe

module _ (cpus : Ids) (old new : NodeState) (id : List ℕ) (h : IsNode old) where
  new_id : container_of old id ≡ None → AllByRecursion (λ o. bytes_eq id o.id ≡ false) (owners_of old.containers)
  new_id = other_ids id old.containers

  -- of a refused one the containers are those before it
  not_launched_safe : (config : List ℕ) (e : OrMemory KernelFault) (n : NotLaunched cpus old id config e new)
      → AllSafe (owners_of new.containers)
      (launch_states old.kernel old.parent id cpus n.asked.homes (Err e) new.kernel n.refused)
  not_launched_safe config e n =
      let same : owners_of new.containers ≡ owners_of old.containers = ap (λ (m : NodeState). owners_of m.containers) n.is in
      subst (λ (os : List Owner). AllSafe os (launch_states old.kernel old.parent id cpus n.asked.homes (Err e) new.kernel n.refused))
      (sym same)
      (refused_safe old.parent id (owners_of old.containers) (new_id n.free.new) cpus n.asked.homes old.kernel new.kernel h.holds e n.refused)

  created_safe : (bundle config : List ℕ) (pid : ℕ) (c : Created cpus old id bundle config pid new)
      → AllSafe (owners_of new.containers)
      (launch_states old.kernel old.parent id cpus c.asked.homes (Ok (c.group, pid)) new.kernel c.launched)
  created_safe bundle config pid c =
      let its : List ℕ × ContainerState = (id, new_container bundle c.said c.asked c.group pid) in
      let more : owners_of new.containers ≡ owners_of old.containers ++ owner_of its ∷ [] =
      ap (λ (m : NodeState). owners_of m.containers) c.is ∙ map-append owner_of old.containers (its ∷ []) in
      subst (λ (os : List Owner).
      AllSafe os (launch_states old.kernel old.parent id cpus c.asked.homes (Ok (c.group, pid)) new.kernel c.launched)) (sym more)
      (made_safe old.parent id (owners_of old.containers) (new_id c.free.new) cpus c.asked.homes old.kernel new.kernel h.holds
      (is_pinned c.asked.kind) c.group pid (may_hold old h (is_pinned c.asked.kind) cpus c.may) c.launched)

pub places_stay_safe : PlacesStaySafe
places_stay_safe cpus old id bundle config (Ok pid) new c h = created_safe cpus old new id h bundle config pid c
places_stay_safe cpus old id bundle config (Err Memory) new (inl n) h = not_launched_safe cpus old new id h config Memory n
places_stay_safe cpus old id bundle config (Err Memory) new (inr same) h = tt
places_stay_safe cpus old id bundle config (Err (Fault (Kernel NoPids))) new same h = tt
places_stay_safe cpus old id bundle config (Err (Fault (Kernel fault))) new n h = not_launched_safe cpus old new id h config (Fault fault) n
places_stay_safe cpus old id bundle config (Err (Fault fault)) new same h = tt
