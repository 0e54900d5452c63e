-- What holds of a node holds after each of its calls.
use Rattle.std.proofs.Common.{◌≡◌, ℕ, ◌<◌, ◌≤◌, ◌+◌, true, false, List, [], ◌∷◌, ◌++◌, length, Some, sym, ◌∙◌, subst, arith}
use Rattle.std.proofs.lemmas.List.{map-append, length-append}
use Rattle.std.proofs.lemmas.Map.{length-set_value}
use Rattle.std.specs.Prelude.{cond, Result, Ok, Err}
use Rattle.std.specs.Map.{set_value, remove_entry}
use Rattle.std.specs.Str.{bytes_eq}
use Rattle.faults.specs.declared.OrMemory.{OrMemory}
use Rattle.cpu_set.specs.Ids.{Ids}
use Rattle.cpuset_tree.specs.declared.Group.{Group}
use Rattle.kernel_model.specs.declared.KernelFault.{KernelFault}
use Rattle.kernel_model.specs.KernelState.{KernelState}
use Rattle.kernel_model.specs.Cases.{EndsGroup, RemovesGroup, Forks, Exits, GoesOffline, ComesOnline}
use Rattle.kernel_model.specs.Laws.{KeepsMachine}
use Rattle.proctable.specs.Processes.{is_alive}
use Rattle.machine.specs.Layout.{Layout}
use Rattle.config_json.specs.declared.Config.{Config as Said}
use Rattle.demand.specs.declared.Demand.{Demand as Asked}
use Rattle.demand.specs.FitsMachine.{FitsMachine}
use Rattle.node.specs.declared.TheConstants.{CONTAINER_LIMIT}
use Rattle.node.specs.NodeState.{ContainerState, NodeState, container_of, is_underway}
use Rattle.node.specs.Owners.{owner_of, owners_of}
use Rattle.node.specs.Ongoing.{Stands}
use Rattle.node.specs.IsNode.{IsOfMachine, Holds, IsAsked, IsNode}
use Rattle.node.specs.MayRequest.{MayRequest}
use Rattle.node.specs.Refusals.{IsFree}
use Rattle.node.specs.Launch.{Launches}
use Rattle.node.specs.Updates.{MayUpdate, Rewrites}
use Rattle.node.specs.Calls.{new_container}
use Rattle.node.specs.Owners.{is_pinned}
use Rattle.node.proofs.ListLemmas.{all_push}
use Rattle.node.proofs.ContainerLemmas.{other_ids, owners_started, all_started, all_replaced, each_left}
use Rattle.node.proofs.OngoingLemmas.{still_stands, none_stands}
use Rattle.node.proofs.LaunchLemmas.{Stays, launched, not_launched}
use Rattle.node.proofs.FreeLemmas.{may_hold}
use Rattle.node.proofs.UpdateLemmas.{rewritten, either, as_written, kept_holds, changed_holds}
use Rattle.node.proofs.EventLemmas.{Passes, fork_passes, exit_passes, offline_passes, online_passes, end_passes, remove_refused}
use Rattle.node.proofs.DeleteLemmas.{deleted_stays}

pub still_of_machine : (old new : KernelState) (m : Layout) → IsOfMachine old m → KeepsMachine old new → IsOfMachine new m
still_of_machine old new m h k = record { present = k.present ∙ h.present; reserved = k.reserved ∙ h.reserved; nodes = k.nodes ∙ h.nodes }

module _ (n : NodeState) (h : IsNode n) (new : KernelState) where
  -- a call that leaves the containers, and a hand-over that is open
  pub kernel_node : Stays n.kernel new n.parent (owners_of n.containers) → Stands new (owners_of n.containers) (is_underway n.phase) n.ongoing
      → IsNode (record n { kernel = new })
  kernel_node s stands = record {
    layout = h.layout;
    machine = still_of_machine n.kernel new n.machine h.machine s.machine;
    holds = s.holds;
    few = h.few;
    asked = h.asked;
    stands = stands;
    proved = h.proved;
  }

  passed : Passes n.kernel new n.parent (owners_of n.containers) → IsNode (record n { kernel = new })
  passed p = kernel_node p.stays (still_stands n.kernel new (owners_of n.containers) p.stays.machine.reserved p.each (is_underway n.phase) n.ongoing h.stands)

  pub fork_node : (pid : ℕ) (r : Result ℕ (OrMemory KernelFault)) → Forks n.kernel pid r new → IsNode (record n { kernel = new })
  fork_node pid r f = passed (fork_passes n.parent (owners_of n.containers) n.kernel new h.holds pid r f)

  pub exit_node : (pid : ℕ) (r : Result (Unit {0}) KernelFault) → Exits n.kernel pid r new → IsNode (record n { kernel = new })
  exit_node pid r f = passed (exit_passes n.parent (owners_of n.containers) n.kernel new h.holds pid r f)

  pub offline_node : (cpu : ℕ) (r : Result (Unit {0}) KernelFault) → GoesOffline n.kernel cpu r new → IsNode (record n { kernel = new })
  offline_node cpu r f = passed (offline_passes n.parent (owners_of n.containers) n.kernel new h.holds cpu r f)

  pub online_node : (cpu : ℕ) (r : Result (Unit {0}) KernelFault) → ComesOnline n.kernel cpu r new → IsNode (record n { kernel = new })
  online_node cpu r f = passed (online_passes n.parent (owners_of n.containers) n.kernel new h.holds cpu r f)

  pub end_node : (g : Group) (r : Result (Unit {0}) KernelFault) → EndsGroup n.kernel g r new → IsNode (record n { kernel = new })
  end_node g r f = passed (end_passes n.parent (owners_of n.containers) n.kernel new h.holds g r f)

  pub remove_refused_node : (g : Group) (e : KernelFault) → RemovesGroup n.kernel g (Err e) new → IsNode (record n { kernel = new })
  remove_refused_node g e r = passed (remove_refused n.parent (owners_of n.containers) n.kernel new h.holds g e r)

  -- `create` and `adopt`, and one that the kernel refused
  pub created_node : (cpus : Ids) (id bundle : List ℕ) (said : Said) (asked : Asked) (g : Group) (pid : ℕ) → IsFree n id → FitsMachine n.machine asked
      → MayRequest n (is_pinned asked.kind) cpus → Launches n.kernel n.parent id cpus asked.homes (Ok (g, pid)) new
      → IsNode (record n { kernel = new; containers = n.containers ++ (id, new_container bundle said asked g pid) ∷ [] })
  created_node cpus id bundle said asked g pid free fits may l =
      let s = launched n.parent id (owners_of n.containers) (other_ids id n.containers free.new) (is_pinned asked.kind) cpus asked.homes g pid n.kernel new h.holds
      (may_hold n h (is_pinned asked.kind) cpus may) l in
      let same : owners_of (n.containers ++ (id, new_container bundle said asked g pid) ∷ []) ≡ owners_of n.containers ++ owner_of (id, new_container bundle said asked g pid) ∷ [] =
      map-append owner_of n.containers ((id, new_container bundle said asked g pid) ∷ []) in
      let room : length n.containers < CONTAINER_LIMIT = free.room in
      let more : length (n.containers ++ (id, new_container bundle said asked g pid) ∷ []) ≡ length n.containers + 1 = length-append n.containers ((id, new_container bundle said asked g pid) ∷ []) in
      record {
        layout = h.layout;
        machine = still_of_machine n.kernel new n.machine h.machine s.machine;
        holds = subst (λ os. Holds new n.parent os) (sym same) s.holds;
        few = omega (arith, room, more);
        asked = all_push (IsAsked n.machine) n.containers (id, new_container bundle said asked g pid) h.asked (record { id = free.valid; fits = fits });
        stands = none_stands n.kernel (owners_of n.containers) (is_underway n.phase) free.settled n.ongoing h.stands new
            (owners_of (n.containers ++ (id, new_container bundle said asked g pid) ∷ []));
        proved = h.proved;
      }

  pub not_created_node : (cpus : Ids) (id : List ℕ) (asked : Asked) (e : OrMemory KernelFault) → IsFree n id
      → Launches n.kernel n.parent id cpus asked.homes (Err e) new → IsNode (record n { kernel = new })
  not_created_node cpus id asked e free l =
      kernel_node (not_launched n.parent id (owners_of n.containers) (other_ids id n.containers free.new) false cpus asked.homes e n.kernel new h.holds l)
      (none_stands n.kernel (owners_of n.containers) (is_underway n.phase) free.settled n.ongoing h.stands new (owners_of n.containers))

  length_left : (id : List ℕ) (xs : List (List ℕ × ContainerState)) → length (remove_entry (bytes_eq id) xs) ≤ length xs
  length_left id [] = omega arith
  length_left id (x ∷ xs) =
      let rest : length (remove_entry (bytes_eq id) xs) ≤ length xs = length_left id xs in
      elim (bytes_eq id x.0) as (λ b. length (cond b xs (x ∷ remove_entry (bytes_eq id) xs)) ≤ length (x ∷ xs)) [ true ↦ omega arith | false ↦ omega (arith, rest) ]

  -- `delete`
  pub deleted_node : is_underway n.phase ≡ false → (id : List ℕ) (c : ContainerState) → container_of n id ≡ Some c → is_alive n.kernel.table c.pid ≡ false → (v : Unit {0}) → RemovesGroup n.kernel c.group (Ok v) new
      → IsNode (record n { kernel = new; containers = remove_entry (bytes_eq id) n.containers })
  deleted_node settled id c found stopped v r =
      let s = deleted_stays n.parent id n.containers c found n.kernel h.holds stopped new v r in
      let few : length n.containers ≤ CONTAINER_LIMIT = h.few in
      let less : length (remove_entry (bytes_eq id) n.containers) ≤ length n.containers = length_left id n.containers in
      record {
        layout = h.layout;
        machine = still_of_machine n.kernel new n.machine h.machine s.machine;
        holds = s.holds;
        few = omega (arith, few, less);
        asked = each_left id (IsAsked n.machine) n.containers h.asked;
        stands = none_stands n.kernel (owners_of n.containers) (is_underway n.phase) settled n.ongoing h.stands new (owners_of (remove_entry (bytes_eq id) n.containers));
        proved = h.proved;
      }

-- `update`, and one of which a write failed
module _ (n : NodeState) (h : IsNode n) (new : KernelState) (id : List ℕ) (c : ContainerState) (may : MayUpdate n id c) (asked : Asked) where
  reserve : n.machine.reserved ≡ n.kernel.reserved
  reserve = sym h.machine.reserved

  pub updated_node : (bundle : List ℕ) → FitsMachine n.machine asked → Rewrites n.kernel n.machine.reserved c asked (Ok tt) new
      → IsNode (record n { kernel = new; containers = set_value (bytes_eq id) n.containers (record c { bundle = bundle; demand = asked }) })
  updated_node bundle fits w =
      let few : length n.containers ≤ CONTAINER_LIMIT = h.few in
      let left = rewritten n.machine.reserved c n.parent id n.containers may.there n.kernel h.holds reserve bundle asked new (Ok tt) w in
      record {
        layout = h.layout;
        machine = still_of_machine n.kernel new n.machine h.machine left.machine;
        holds = changed_holds n.machine.reserved c n.parent id n.containers may.there n.kernel h.holds reserve bundle asked new left
            (as_written n.machine.reserved c n.parent id n.containers may.there n.kernel h.holds reserve bundle asked new w);
        few = omega (arith, few, length-set_value (bytes_eq id) n.containers (record c { bundle = bundle; demand = asked }));
        asked = all_replaced id (IsAsked n.machine) n.containers c (record c { bundle = bundle; demand = asked }) may.there
            (λ key same a. record { id = a.id; fits = fits }) h.asked;
        stands = none_stands n.kernel (owners_of n.containers) (is_underway n.phase) may.settled n.ongoing h.stands new
            (owners_of (set_value (bytes_eq id) n.containers (record c { bundle = bundle; demand = asked })));
        proved = h.proved;
      }

  pub not_updated_node : (fault : KernelFault) → Rewrites n.kernel n.machine.reserved c asked (Err fault) new → IsNode (record n { kernel = new })
  not_updated_node fault w =
      let left = rewritten n.machine.reserved c n.parent id n.containers may.there n.kernel h.holds reserve [] asked new (Err fault) w in
      let is = either n.machine.reserved c n.parent id n.containers may.there n.kernel h.holds reserve [] asked new (Err fault) w in
      kernel_node n h new (record { holds = kept_holds n.machine.reserved c n.parent id n.containers may.there n.kernel h.holds reserve new left is; machine = left.machine })
      (none_stands n.kernel (owners_of n.containers) (is_underway n.phase) may.settled n.ongoing h.stands new (owners_of n.containers))

-- `start`
pub started_node : (n : NodeState) → IsNode n → (id : List ℕ) (c : ContainerState) → container_of n id ≡ Some c
    → IsNode (record n { containers = set_value (bytes_eq id) n.containers (record c { started = true }) })
started_node n h id c found =
    let few : length n.containers ≤ CONTAINER_LIMIT = h.few in
    record {
      layout = h.layout;
      machine = h.machine;
      holds = subst (λ os. Holds n.kernel n.parent os) (sym (owners_started id n.containers c found)) h.holds;
      few = omega (arith, few, length-set_value (bytes_eq id) n.containers (record c { started = true }));
      asked = all_started id (IsAsked n.machine) n.containers c found (λ key a. record { id = a.id; fits = a.fits }) h.asked;
      stands = subst (λ os. Stands n.kernel os (is_underway n.phase) n.ongoing) (sym (owners_started id n.containers c found)) h.stands;
      proved = h.proved;
    }
