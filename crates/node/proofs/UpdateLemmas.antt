-- What an `update` leaves of what holds of a node.
use Rattle.std.proofs.Common.{◌≡◌, ◌⊎◌, inl, inr, ℕ, ◌<◌, Bool, true, false, not, ◌&&◌, ◌||◌, cond, List, [], ◌∷◌, Some, refl, sym, ap, ◌∙◌, subst, arith}
use Rattle.std.proofs.lemmas.Bool.{ne_eqb}
use Rattle.std.proofs.lemmas.Option.{none-some}
use Rattle.std.specs.Prelude.{map, Result, Ok, Err}
use Rattle.std.specs.List.{AllByRecursion, AllZip}
use Rattle.std.specs.Map.{lookup, set_value}
use Rattle.std.specs.Str.{bytes_eq}
use Rattle.std.specs.FinSet as set
use Rattle.cpu_set.specs.Ids.{Ids, is_empty, is_same}
use Rattle.cpu_set.specs.PointwiseLaws.{is_same_decides}
use Rattle.cpuset_tree.specs.declared.Group.{Group}
use Rattle.cpuset_tree.specs.TreeState.{GroupEntry, TreeState}
use Rattle.cpuset_tree.specs.Groups.{same_group, entry_of, root_of, requested_cpus, cpus_in}
use Rattle.cpuset_tree.specs.TreeLaws.{StandsAs, IsChild}
use Rattle.proctable.specs.declared.Process.{Process}
use Rattle.proctable.specs.TableState.{TableState}
use Rattle.proctable.specs.Processes.{process_of, is_alive}
use Rattle.kernel_model.specs.declared.KernelFault.{KernelFault}
use Rattle.kernel_model.specs.KernelState.{KernelState}
use Rattle.kernel_model.specs.WellFormed.{IsWellFormed}
use Rattle.kernel_model.specs.Cases.{WritesCpus, WritesMems}
use Rattle.kernel_model.specs.Laws.{KeepsMachine}
use Rattle.kernel_model.specs.KernelLemmas.{each_case_keeps, writes_leave_groups, writes_keep_processes}
use Rattle.apply_plan.specs.Holders.{Pairwise, AreApart, HasSome, IsSafe}
use Rattle.demand.specs.declared.Demand.{Demand as Asked}
use Rattle.node.specs.NodeState.{ContainerState}
use Rattle.node.specs.Owners.{Owner, is_pinned, owner_of, owners_of}
use Rattle.node.specs.IsNode.{HaveOtherIds, IsPlaced, IsFirst, IsOwned, Holds}
use Rattle.node.specs.Updates.{MadeIf, becomes_pinned, gives_way, moves_home, Rewrites, made_states, rewrite_states}
use Rattle.node.proofs.ListLemmas.{all_append}
use Rattle.node.proofs.HoldsLemmas.{AreSafeOwners, of_safe, to_safe}
use Rattle.node.proofs.ContainerLemmas.{split, found_owner, same_id}
use Rattle.node.proofs.LaunchLemmas.{machine_then, child_differs, names_apart}

-- facts on two lists, place by place, carried from the one to the other
all_zip : {X : Type 0} (Z : X → X → Type 0) (P Q : X → Type 0) → ((x y : X) → Z x y → P x → Q y) → (xs ys : List X) → AllZip Z xs ys → AllByRecursion P xs
    → AllByRecursion Q ys
all_zip Z P Q f [] [] z h = tt
all_zip Z P Q f [] (y ∷ ys) z h = absurd z
all_zip Z P Q f (x ∷ xs) [] z h = absurd z
all_zip Z P Q f (x ∷ xs) (y ∷ ys) z h = (f x y z.0 h.0, all_zip Z P Q f xs ys z.1 h.1)

pairs_zip : {X : Type 0} (Z R S : X → X → Type 0) → ((x y a b : X) → Z x y → Z a b → R x a → S y b) → (xs ys : List X) → AllZip Z xs ys → Pairwise R xs
    → Pairwise S ys
pairs_zip Z R S f [] [] z h = tt
pairs_zip Z R S f [] (y ∷ ys) z h = absurd z
pairs_zip Z R S f (x ∷ xs) [] z h = absurd z
pairs_zip Z R S f (x ∷ xs) (y ∷ ys) z h = (all_zip Z (R x) (S y) (λ a b zab r. f x y a b z.0 zab r) xs ys z.1 h.0, pairs_zip Z R S f xs ys z.1 h.1)

-- at most what one group requests differs
pub record Rewritten (old new : KernelState) (g : Group) : Type 0 where
  pub well_formed : IsWellFormed new
  pub machine : KeepsMachine old new
  pub table : new.table ≡ old.table
  pub before : (p : Group) (e : GroupEntry) → entry_of new.tree p ≡ Some e → StandsAs old.tree p e
  pub after : (p : Group) (e : GroupEntry) → entry_of old.tree p ≡ Some e → StandsAs new.tree p e
  pub root : root_of new.tree ≡ root_of old.tree
  pub apart : (p : Group) → same_group g p ≡ false → entry_of new.tree p ≡ entry_of old.tree p

same_rewritten : (k : KernelState) → IsWellFormed k → (g : Group) → Rewritten k k g
same_rewritten k well g = record {
  well_formed = well;
  machine = record { nodes = refl; present = refl; reserved = refl };
  table = refl;
  before = λ p e there. record { entry = e; there = there; place = record { group = refl; parent = refl; name = refl } };
  after = λ p e there. record { entry = e; there = there; place = record { group = refl; parent = refl; name = refl } };
  root = refl;
  apart = λ p other. refl;
}

cpus_rewritten : (old new : KernelState) → IsWellFormed old → (g : Group) (cpus : Ids) (r : Result (Unit {0}) KernelFault) → WritesCpus old g cpus r new
    → Rewritten old new g
cpus_rewritten old new well g cpus r w =
    let leaves = writes_leave_groups.cpus old new g cpus r w in
    let keeps = (each_case_keeps old new well).cpus g cpus r w in
    record {
      well_formed = keeps.well_formed;
      machine = keeps.machine;
      table = (writes_keep_processes.cpus old new g cpus r w).0;
      before = leaves.places.before;
      after = leaves.places.after;
      root = leaves.places.root;
      apart = leaves.apart;
    }

mems_rewritten : (old new : KernelState) → IsWellFormed old → (g : Group) (mems : Ids) (r : Result (Unit {0}) KernelFault) → WritesMems old g mems r new
    → Rewritten old new g
mems_rewritten old new well g mems r w =
    let leaves = writes_leave_groups.mems old new g mems r w in
    let keeps = (each_case_keeps old new well).mems g mems r w in
    record {
      well_formed = keeps.well_formed;
      machine = keeps.machine;
      table = (writes_keep_processes.mems old new g mems r w).0;
      before = leaves.places.before;
      after = leaves.places.after;
      root = leaves.places.root;
      apart = leaves.apart;
    }

rewritten_then : (old mid new : KernelState) (g : Group) → Rewritten old mid g → Rewritten mid new g → Rewritten old new g
rewritten_then old mid new g a b = record {
  well_formed = b.well_formed;
  machine = machine_then old mid new a.machine b.machine;
  table = b.table ∙ a.table;
  before = λ p e there.
      let y = b.before p e there in
      let x = a.before p y.entry y.there in
      record {
        entry = x.entry;
        there = x.there;
        place = record { group = y.place.group ∙ x.place.group; parent = y.place.parent ∙ x.place.parent; name = y.place.name ∙ x.place.name };
      };
  after = λ p e there.
      let x = a.after p e there in
      let y = b.after p x.entry x.there in
      record {
        entry = y.entry;
        there = y.there;
        place = record { group = x.place.group ∙ y.place.group; parent = x.place.parent ∙ y.place.parent; name = x.place.name ∙ y.place.name };
      };
  root = b.root ∙ a.root;
  apart = λ p other. b.apart p other ∙ a.apart p other;
}

-- a container before and after: it requests what it did, and is pinned at most if it was; or it requests the reserved CPUs
pub record Eased (old new : KernelState) (a b : Owner) : Type 0 where
  pub id : b.id ≡ a.id
  pub group : b.holder.group ≡ a.holder.group
  pub pid : b.holder.pid ≡ a.holder.pid
  pub sets : ((b.holder.pinned ≡ true → a.holder.pinned ≡ true) × (requested_cpus new.tree a.holder.group ≡ requested_cpus old.tree a.holder.group))
      ⊎ (requested_cpus new.tree a.holder.group ≡ new.reserved)

one_was : (p q p' q' : Bool) → (p' ≡ true → p ≡ true) → (q' ≡ true → q ≡ true) → (p' || q') ≡ true → (p || q) ≡ true
one_was true q p' q' f g e = refl
one_was false true p' q' f g e = refl
one_was false false true q' f g e = f refl
one_was false false false q' f g e = g e

module _ (parent : Group) (old new : KernelState) (g : Group) (w : Rewritten old new g) where
  lives : (a b : Owner) → Eased old new a b → is_alive new.table b.holder.pid ≡ true → is_alive old.table a.holder.pid ≡ true
  lives a b z live = ap (λ t. is_alive t a.holder.pid) (sym w.table) ∙ ap (is_alive new.table) (sym z.pid) ∙ live

  has : (a b : Owner) → Eased old new a b → (cpu : ℕ) → set.contains (requested_cpus new.tree b.holder.group) cpu ≡ true
      → set.contains (requested_cpus new.tree a.holder.group) cpu ≡ true
  has a b z cpu h = ap (λ x. set.contains (requested_cpus new.tree x) cpu) (sym z.group) ∙ h

  still_apart : (a b c d : Owner) → Eased old new a b → Eased old new c d → AreApart old old.reserved (requested_cpus old.tree) a.holder c.holder
      → AreApart new new.reserved (requested_cpus new.tree) b.holder d.holder
  still_apart a b c d z y apart la lb one cpu ha hb = by z.sets y.sets where
    by : ((b.holder.pinned ≡ true → a.holder.pinned ≡ true) × (requested_cpus new.tree a.holder.group ≡ requested_cpus old.tree a.holder.group))
        ⊎ (requested_cpus new.tree a.holder.group ≡ new.reserved)
        → ((d.holder.pinned ≡ true → c.holder.pinned ≡ true) × (requested_cpus new.tree c.holder.group ≡ requested_cpus old.tree c.holder.group))
        ⊎ (requested_cpus new.tree c.holder.group ≡ new.reserved)
        → set.contains new.reserved cpu ≡ true
    by (inr is) others = ap (λ s. set.contains s cpu) (sym is) ∙ has a b z cpu ha
    by (inl same) (inr is) = ap (λ s. set.contains s cpu) (sym is) ∙ has c d y cpu hb
    by (inl same) (inl also) =
        ap (λ s. set.contains s cpu) w.machine.reserved
        ∙ apart (lives a b z la) (lives c d y lb) (one_was a.holder.pinned c.holder.pinned b.holder.pinned d.holder.pinned same.0 also.0 one) cpu
        (ap (λ s. set.contains s cpu) (sym same.1) ∙ has a b z cpu ha) (ap (λ s. set.contains s cpu) (sym also.1) ∙ has c d y cpu hb)

  some_reserved : is_empty new.reserved ≡ false
  some_reserved = ne_eqb (set.len new.reserved) 0 (λ none. w.well_formed.some_reserved (set.empty_of_len new.reserved none))

  still_some : (a b : Owner) → Eased old new a b → HasSome old (requested_cpus old.tree) a.holder → HasSome new (requested_cpus new.tree) b.holder
  still_some a b z some live = ap (λ x. is_empty (requested_cpus new.tree x)) z.group ∙ by z.sets where
    by : ((b.holder.pinned ≡ true → a.holder.pinned ≡ true) × (requested_cpus new.tree a.holder.group ≡ requested_cpus old.tree a.holder.group))
        ⊎ (requested_cpus new.tree a.holder.group ≡ new.reserved)
        → is_empty (requested_cpus new.tree a.holder.group) ≡ false
    by (inl same) = ap is_empty same.1 ∙ some (lives a b z live)
    by (inr is) = ap is_empty is ∙ some_reserved

  first_still : (a b : Owner) → Eased old new a b → IsFirst old.table a.holder → IsFirst new.table b.holder
  first_still a b z f =
      let given : a.holder.pid < old.table.next_pid = f.given in
      let next : new.table.next_pid ≡ old.table.next_pid = ap (λ (t : TableState). t.next_pid) w.table in
      let same : b.holder.pid ≡ a.holder.pid = z.pid in
      let was : (p : Process) → process_of new.table b.holder.pid ≡ Some p → process_of old.table a.holder.pid ≡ Some p =
      λ p e. ap (λ t. process_of t a.holder.pid) (sym w.table) ∙ ap (process_of new.table) (sym z.pid) ∙ e in
      record {
        given = omega (arith, given, next, same);
        group = λ p e. f.group p (was p e) ∙ sym z.group;
        itself = λ p e. f.itself p (was p e) ∙ sym z.pid;
      }

  placed_still : (a b : Owner) → Eased old new a b → IsPlaced old.tree parent a → IsPlaced new.tree parent b
  placed_still a b z c =
      let now = w.after a.holder.group c.entry c.there in
      record {
        entry = now.entry;
        there = ap (entry_of new.tree) z.group ∙ now.there;
        below = sym now.place.parent ∙ c.below;
        named = sym now.place.name ∙ c.named ∙ sym z.id;
      }

  owned_still : (p : Process) (xs ys : List Owner) → AllZip (Eased old new) xs ys → IsOwned p xs → IsOwned p ys
  owned_still p [] ys z h = absurd h
  owned_still p (x ∷ xs) [] z h = absurd z
  owned_still p (x ∷ xs) (y ∷ ys) z h =
      elim h [ inl own ↦ inl (own.0 ∙ sym z.0.group, own.1 ∙ sym z.0.pid) | inr on ↦ inr (owned_still p xs ys z.1 on) ]

  -- all of what holds of the containers holds of them as they are then
  pub eased_holds : (xs ys : List Owner) → Holds old parent xs → same_group g parent ≡ false → AllZip (Eased old new) xs ys → Holds new parent ys
  eased_holds xs ys h apart_home z =
      let safe : AreSafeOwners old old.reserved xs = of_safe old old.reserved xs h.safe in
      record {
        kernel = w.well_formed;
        home = record {
          entry = h.home.entry;
          root = h.home.root;
          there = w.apart parent apart_home ∙ h.home.there;
          top = w.root ∙ h.home.top;
          below = h.home.below;
          name = h.home.name;
          free_cpus = h.home.free_cpus;
          free_mems = h.home.free_mems;
        };
        shallow = λ p q e there below.
            let was = w.before p e there in
            elim (h.shallow p q was.entry was.there (sym was.place.parent ∙ below)) [ inl home ↦ inl home | inr root ↦ inr (w.root ∙ root) ];
        distinct = pairs_zip (Eased old new) HaveOtherIds HaveOtherIds
            (λ a b c d z y other. ap (λ x. bytes_eq x d.id) z.id ∙ ap (bytes_eq a.id) y.id ∙ other) xs ys z h.distinct;
        placed = all_zip (Eased old new) (IsPlaced old.tree parent) (IsPlaced new.tree parent) placed_still xs ys z h.placed;
        first = all_zip (Eased old new) (λ o. IsFirst old.table o.holder) (λ o. IsFirst new.table o.holder) first_still xs ys z h.first;
        owned = λ q p e. owned_still p xs ys z (h.owned q p (ap (λ t. process_of t q) (sym w.table) ∙ e));
        safe = to_safe new new.reserved ys (record {
          apart = pairs_zip (Eased old new) (λ a b. AreApart old old.reserved (requested_cpus old.tree) a.holder b.holder)
              (λ a b. AreApart new new.reserved (requested_cpus new.tree) a.holder b.holder) still_apart xs ys z safe.apart;
          some = all_zip (Eased old new) (λ o. HasSome old (requested_cpus old.tree) o.holder) (λ o. HasSome new (requested_cpus new.tree) o.holder)
              still_some xs ys z safe.some;
        });
      }

abbrev Entries : Type 0
Entries = List (List ℕ × ContainerState)

-- of one container the record is another, and nothing else differs
module _ (parent : Group) (old new : KernelState) (id : List ℕ) (c : ContainerState) (w : Rewritten old new c.group) (child : IsChild old.tree parent id c.group) where
  other_eased : (o : Owner) → bytes_eq id o.id ≡ false → IsPlaced old.tree parent o → Eased old new o o
  other_eased o other placed = record {
    id = refl;
    group = refl;
    pid = refl;
    sets = inl (λ p. p, ap cpus_in (w.apart o.holder.group (names_apart old.tree parent id c.group child o other placed)));
  }

  others_eased : (os : List Owner) → AllByRecursion (λ o. bytes_eq id o.id ≡ false) os → AllByRecursion (IsPlaced old.tree parent) os → AllZip (Eased old new) os os
  others_eased [] other placed = tt
  others_eased (o ∷ os) other placed = (other_eased o other.0 placed.0, others_eased os other.1 placed.1)

  module _ (d : ContainerState) (own : (key : List ℕ) → Eased old new (owner_of (key, c)) (owner_of (key, d))) where
    pub one_eased : (xs : Entries) → lookup (bytes_eq id) xs ≡ Some c → Pairwise HaveOtherIds (owners_of xs) → AllByRecursion (IsPlaced old.tree parent) (owners_of xs)
        → AllZip (Eased old new) (owners_of xs) (owners_of (set_value (bytes_eq id) xs d))
    one_eased [] found distinct placed = absurd (none-some c found)
    one_eased (x ∷ xs) found distinct placed = split id x
        (λ t.
        let is : x.1 ≡ c = cc (ap (λ b. cond b (Some x.1) (lookup (bytes_eq id) xs)) t, found) in
        let here : Eased old new (owner_of x) (owner_of (x.0, d)) =
        subst (λ (y : ContainerState). Eased old new (owner_of (x.0, y)) (owner_of (x.0, d))) (sym is) (own x.0) in
        let others : AllByRecursion (λ o. bytes_eq id o.id ≡ false) (owners_of xs) =
        subst (λ y. AllByRecursion (λ o. bytes_eq y o.id ≡ false) (owners_of xs)) (sym (same_id id x.0 t)) distinct.0 in
        subst (λ b. AllZip (Eased old new) (owners_of (x ∷ xs)) (owners_of (cond b ((x.0, d) ∷ xs) (x ∷ set_value (bytes_eq id) xs d)))) (sym t)
        (here, others_eased (owners_of xs) others placed.1))
        (λ t.
        let next : lookup (bytes_eq id) xs ≡ Some c = sym (ap (λ b. cond b (Some x.1) (lookup (bytes_eq id) xs)) t) ∙ found in
        subst (λ b. AllZip (Eased old new) (owners_of (x ∷ xs)) (owners_of (cond b ((x.0, d) ∷ xs) (x ∷ set_value (bytes_eq id) xs d)))) (sym t)
        (other_eased (owner_of x) t placed.0, one_eased xs next distinct.1 placed.1))

    -- so what held of the containers holds
    pub one_holds : (xs : Entries) → lookup (bytes_eq id) xs ≡ Some c → Holds old parent (owners_of xs) → Holds new parent (owners_of (set_value (bytes_eq id) xs d))
    one_holds xs found h =
        eased_holds parent old new c.group w (owners_of xs) (owners_of (set_value (bytes_eq id) xs d)) h
        (child_differs old.tree c.group parent child.entry h.kernel.tree child.there child.below) (one_eased xs found h.distinct h.placed)

-- one that is written anew as it was
pub set_same : (id : List ℕ) (xs : Entries) (c : ContainerState) → lookup (bytes_eq id) xs ≡ Some c → set_value (bytes_eq id) xs c ≡ xs
set_same id [] c found = absurd (none-some c found)
set_same id (x ∷ xs) c found = split id x
    (λ t.
    let is : x.1 ≡ c = cc (ap (λ b. cond b (Some x.1) (lookup (bytes_eq id) xs)) t, found) in
    ap (λ b. cond b ((x.0, c) ∷ xs) (x ∷ set_value (bytes_eq id) xs c)) t ∙ ap (λ (y : ContainerState). (x.0, y) ∷ xs) (sym is))
    (λ t.
    let next : lookup (bytes_eq id) xs ≡ Some c = sym (ap (λ b. cond b (Some x.1) (lookup (bytes_eq id) xs)) t) ∙ found in
    ap (λ b. cond b ((x.0, c) ∷ xs) (x ∷ set_value (bytes_eq id) xs c)) t ∙ ap (λ ys. x ∷ ys) (set_same id xs c next))

-- and one that is replaced is found as it is then
pub set_found : (id : List ℕ) (xs : Entries) (c d : ContainerState) → lookup (bytes_eq id) xs ≡ Some c → lookup (bytes_eq id) (set_value (bytes_eq id) xs d) ≡ Some d
set_found id [] c d found = absurd (none-some c found)
set_found id (x ∷ xs) c d found = split id x
    (λ t.
    ap (λ b. lookup (bytes_eq id) (cond b ((x.0, d) ∷ xs) (x ∷ set_value (bytes_eq id) xs d))) t ∙ ap (λ b. cond b (Some d) (lookup (bytes_eq id) xs)) t)
    (λ t.
    let next : lookup (bytes_eq id) xs ≡ Some c = sym (ap (λ b. cond b (Some x.1) (lookup (bytes_eq id) xs)) t) ∙ found in
    ap (λ b. lookup (bytes_eq id) (cond b ((x.0, d) ∷ xs) (x ∷ set_value (bytes_eq id) xs d))) t
    ∙ ap (λ b. cond b (Some x.1) (lookup (bytes_eq id) (set_value (bytes_eq id) xs d))) t ∙ set_found id xs c d next)

-- what the writes of an `update` leave of the group's CPUs
module _ (reserved : Ids) (c : ContainerState) where
  -- it requests what it did, or the reserved CPUs
  abbrev HasEither : KernelState → KernelState → Type 0
  HasEither old new = (requested_cpus new.tree c.group ≡ requested_cpus old.tree c.group) ⊎ (requested_cpus new.tree c.group ≡ reserved)

  -- as the write is made or not
  abbrev HasBy : Bool → KernelState → KernelState → Type 0
  HasBy true old new = requested_cpus new.tree c.group ≡ reserved
  HasBy false old new = requested_cpus new.tree c.group ≡ requested_cpus old.tree c.group

  pub cpus_made : (make : Bool) (old new : KernelState) → IsWellFormed old → (r : Result (Unit {0}) KernelFault) → MadeIf make old (WritesCpus old c.group reserved) r new
      → Rewritten old new c.group
  cpus_made true old new well r m = cpus_rewritten old new well c.group reserved r m
  cpus_made false old new well r m = subst (λ (k : KernelState). Rewritten old k c.group) (sym m.1) (same_rewritten old well c.group)

  cpus_by : (make : Bool) (old new : KernelState) (done : Unit {0}) → MadeIf make old (WritesCpus old c.group reserved) (Ok done) new → HasBy make old new
  cpus_by true old new done m = (writes_leave_groups.cpus old new c.group reserved (Ok done) m).own
  cpus_by false old new done m = ap (λ (k : KernelState). requested_cpus k.tree c.group) m.1

  cpus_either : (make : Bool) (old new : KernelState) (r : Result (Unit {0}) KernelFault) → MadeIf make old (WritesCpus old c.group reserved) r new → HasEither old new
  cpus_either true old new (Ok done) m = inr (writes_leave_groups.cpus old new c.group reserved (Ok done) m).own
  cpus_either true old new (Err fault) m =
      inl (ap (λ (t : TreeState). requested_cpus t c.group) (writes_leave_groups.cpus old new c.group reserved (Err fault) m).refused)
  cpus_either false old new r m = inl (ap (λ (k : KernelState). requested_cpus k.tree c.group) m.1)

  module _ (mems : Ids) where
    mems_made : (make : Bool) (old new : KernelState) → IsWellFormed old → (r : Result (Unit {0}) KernelFault) → MadeIf make old (WritesMems old c.group mems) r new
        → Rewritten old new c.group
    mems_made true old new well r m = mems_rewritten old new well c.group mems r m
    mems_made false old new well r m = subst (λ (k : KernelState). Rewritten old k c.group) (sym m.1) (same_rewritten old well c.group)

    mems_leave : (make : Bool) (old new : KernelState) (r : Result (Unit {0}) KernelFault) → MadeIf make old (WritesMems old c.group mems) r new
        → requested_cpus new.tree c.group ≡ requested_cpus old.tree c.group
    mems_leave true old new r m = (writes_leave_groups.mems old new c.group mems r m).cpus c.group
    mems_leave false old new r m = ap (λ (k : KernelState). requested_cpus k.tree c.group) m.1

  negated : (b : Bool) → not b ≡ false → b ≡ true
  negated true e = refl
  negated false e = sym e

  -- the container as it is then: pinned as it was, or it requests the reserved CPUs
  flags : (before after : Bool) → (not before && after) ≡ false → after ≡ true → before ≡ true
  flags true after e is = refl
  flags false true e is = sym e
  flags false false e is = is

  module _ (old new : KernelState) (same : new.reserved ≡ reserved) where
    kept_own : (key : List ℕ) → HasEither old new → Eased old new (owner_of (key, c)) (owner_of (key, c))
    kept_own key (inl is) = record { id = refl; group = refl; pid = refl; sets = inl (λ p. p, is) }
    kept_own key (inr is) = record { id = refl; group = refl; pid = refl; sets = inr (is ∙ sym same) }

    module _ (bundle : List ℕ) (asked : Asked) where
      changed_own : (key : List ℕ) (make : Bool) → gives_way old reserved c asked ≡ make → HasBy make old new
          → Eased old new (owner_of (key, c)) (owner_of (key, record c { bundle = bundle; demand = asked }))
      changed_own key true gives is = record { id = refl; group = refl; pid = refl; sets = inr (is ∙ sym same) }
      changed_own key false gives is = by (becomes_pinned c.demand asked) refl gives where
        by : (b : Bool) → becomes_pinned c.demand asked ≡ b → (b && not (is_same (requested_cpus old.tree c.group) reserved)) ≡ false
            → Eased old new (owner_of (key, c)) (owner_of (key, record c { bundle = bundle; demand = asked }))
        by true becomes e =
            let already : requested_cpus old.tree c.group ≡ reserved = (is_same_decides _ _).0 (negated (is_same (requested_cpus old.tree c.group) reserved) e) in
            record { id = refl; group = refl; pid = refl; sets = inr (is ∙ already ∙ sym same) }
        by false becomes e =
            record { id = refl; group = refl; pid = refl; sets = inl (flags (is_pinned c.demand.kind) (is_pinned asked.kind) becomes, is) }

  has_then : (make : Bool) (old mid new : KernelState) → requested_cpus new.tree c.group ≡ requested_cpus mid.tree c.group → HasBy make old mid → HasBy make old new
  has_then true old mid new same h = same ∙ h
  has_then false old mid new same h = same ∙ h

  module _ (parent : Group) (id : List ℕ) (xs : Entries) (found : lookup (bytes_eq id) xs ≡ Some c) (old : KernelState) (h : Holds old parent (owners_of xs))
      (reserve : reserved ≡ old.reserved) where
    child : IsChild old.tree parent id c.group
    child = found_owner id (IsPlaced old.tree parent) xs c found h.placed

    -- what holds of the containers holds of them as they were, wherever the writes end
    pub kept_holds : (k : KernelState) → Rewritten old k c.group → HasEither old k → Holds k parent (owners_of xs)
    kept_holds k w is =
        subst (λ (ys : Entries). Holds k parent (owners_of ys)) (set_same id xs c found)
        (one_holds parent old k id c w child c (λ key. kept_own old k (w.machine.reserved ∙ sym reserve) key is) xs found h)

    module _ (bundle : List ℕ) (asked : Asked) where
      abbrev changed : ContainerState
      changed = record c { bundle = bundle; demand = asked }

      -- and of the changed one, once the CPUs are written that have to be
      pub changed_holds : (k : KernelState) → Rewritten old k c.group → HasBy (gives_way old reserved c asked) old k
          → Holds k parent (owners_of (set_value (bytes_eq id) xs changed))
      changed_holds k w is =
          one_holds parent old k id c w child changed
          (λ key. changed_own old k (w.machine.reserved ∙ sym reserve) bundle asked key (gives_way old reserved c asked) refl is) xs found h

      module _ (new : KernelState) where
        pub rewritten : (r : Result (Unit {0}) KernelFault) → Rewrites old reserved c asked r new → Rewritten old new c.group
        rewritten r (inl (fault, refused, is)) = cpus_made (gives_way old reserved c asked) old new h.kernel (Err fault) refused
        rewritten r (inr (done, mid, first, second)) =
            let a = cpus_made (gives_way old reserved c asked) old mid h.kernel (Ok done) first in
            rewritten_then old mid new c.group a (mems_made asked.homes (moves_home c.demand asked) mid new a.well_formed r second)

        pub either : (r : Result (Unit {0}) KernelFault) → Rewrites old reserved c asked r new → HasEither old new
        either r (inl (fault, refused, is)) = cpus_either (gives_way old reserved c asked) old new (Err fault) refused
        either r (inr (done, mid, first, second)) =
            let same = mems_leave asked.homes (moves_home c.demand asked) mid new r second in
            elim (cpus_either (gives_way old reserved c asked) old mid (Ok done) first) [ inl was ↦ inl (same ∙ was) | inr is ↦ inr (same ∙ is) ]

        pub as_written : Rewrites old reserved c asked (Ok tt) new → HasBy (gives_way old reserved c asked) old new
        as_written (inl (fault, refused, is)) = absurd (let no : ⊥ = cc is in no)
        as_written (inr (done, mid, first, second)) =
            has_then (gives_way old reserved c asked) old mid new (mems_leave asked.homes (moves_home c.demand asked) mid new (Ok tt) second)
            (cpus_by (gives_way old reserved c asked) old mid done first)

-- what is safe in the states between
abbrev Safe : List Owner → KernelState → Type 0
Safe owners k = IsSafe k k.reserved (map (λ o. o.holder) owners)

made_safe : (owners : List Owner) (make : Bool) (old : KernelState) (Call : Result (Unit {0}) KernelFault → KernelState → Type 0) (r : Result (Unit {0}) KernelFault)
    (new : KernelState) (m : MadeIf make old Call r new) → Safe owners new → AllByRecursion (Safe owners) (made_states make old Call r new m)
made_safe owners true old Call r new m safe = (safe, tt)
made_safe owners false old Call r new m safe = tt

module _ (reserved : Ids) (c : ContainerState) (parent : Group) (id : List ℕ) (xs : Entries) (found : lookup (bytes_eq id) xs ≡ Some c) (old : KernelState)
    (h : Holds old parent (owners_of xs)) (reserve : reserved ≡ old.reserved) (bundle : List ℕ) (asked : Asked) (new : KernelState) where
  abbrev gives : Bool
  gives = gives_way old reserved c asked

  pub refused_states_safe : (fault : KernelFault) (w : Rewrites old reserved c asked (Err fault) new)
      → AllByRecursion (Safe (owners_of xs)) (rewrite_states old reserved c asked (Err fault) new w)
  refused_states_safe fault (inl (first, refused, is)) =
      made_safe (owners_of xs) gives old (WritesCpus old c.group reserved) (Err first) new refused
      (kept_holds reserved c parent id xs found old h reserve new (cpus_made reserved c gives old new h.kernel (Err first) refused)
      (cpus_either reserved c gives old new (Err first) refused)).safe
  refused_states_safe fault (inr (done, mid, first, second)) =
      all_append (Safe (owners_of xs)) (made_states gives old (WritesCpus old c.group reserved) (Ok done) mid first)
      (made_states (moves_home c.demand asked) mid (WritesMems mid c.group asked.homes) (Err fault) new second)
      (made_safe (owners_of xs) gives old (WritesCpus old c.group reserved) (Ok done) mid first
      (kept_holds reserved c parent id xs found old h reserve mid (cpus_made reserved c gives old mid h.kernel (Ok done) first)
      (cpus_either reserved c gives old mid (Ok done) first)).safe)
      (made_safe (owners_of xs) (moves_home c.demand asked) mid (WritesMems mid c.group asked.homes) (Err fault) new second
      (kept_holds reserved c parent id xs found old h reserve new (rewritten reserved c parent id xs found old h reserve bundle asked new (Err fault) (inr (done, mid, first, second)))
      (either reserved c parent id xs found old h reserve bundle asked new (Err fault) (inr (done, mid, first, second)))).safe)

  pub done_states_safe : (w : Rewrites old reserved c asked (Ok tt) new)
      → AllByRecursion (Safe (owners_of (set_value (bytes_eq id) xs (record c { bundle = bundle; demand = asked })))) (rewrite_states old reserved c asked (Ok tt) new w)
  done_states_safe (inl (first, refused, is)) = absurd (let no : ⊥ = cc is in no)
  done_states_safe (inr (done, mid, first, second)) =
      let after = owners_of (set_value (bytes_eq id) xs (record c { bundle = bundle; demand = asked })) in
      all_append (Safe after) (made_states gives old (WritesCpus old c.group reserved) (Ok done) mid first)
      (made_states (moves_home c.demand asked) mid (WritesMems mid c.group asked.homes) (Ok tt) new second)
      (made_safe after gives old (WritesCpus old c.group reserved) (Ok done) mid first
      (changed_holds reserved c parent id xs found old h reserve bundle asked mid (cpus_made reserved c gives old mid h.kernel (Ok done) first)
      (cpus_by reserved c gives old mid done first)).safe)
      (made_safe after (moves_home c.demand asked) mid (WritesMems mid c.group asked.homes) (Ok tt) new second
      (changed_holds reserved c parent id xs found old h reserve bundle asked new (rewritten reserved c parent id xs found old h reserve bundle asked new (Ok tt) (inr (done, mid, first, second)))
      (as_written reserved c parent id xs found old h reserve bundle asked new (inr (done, mid, first, second)))).safe)
