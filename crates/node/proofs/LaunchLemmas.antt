-- What making a container's group and first process leaves of what holds of a node.
use Rattle.std.proofs.Common.{◌≡◌, ◌⊎◌, inl, inr, ℕ, ◌<◌, ◌+◌, Bool, true, false, List, [], ◌∷◌, ◌++◌, Option, Some, None, refl, sym, ap, ◌∙◌, subst, arith}
use Rattle.std.proofs.lemmas.Bool.{false≢true}
use Rattle.std.proofs.lemmas.Slice.Eq.{bytes_eq-Decides}
use Rattle.std.specs.Prelude.{is_some, ◌||◌, Result, Ok, Err}
use Rattle.std.specs.List.{AllByRecursion}
use Rattle.std.specs.Str.{bytes_eq}
use Rattle.std.specs.FinSet as set
use Rattle.faults.specs.declared.OrMemory.{OrMemory}
use Rattle.faults.specs.declared.OrMemory.TheVariants.{Memory, Fault}
use Rattle.cpu_set.specs.Ids.{Ids, is_empty}
use Rattle.cpuset_tree.specs.declared.Group.{Group}
use Rattle.cpuset_tree.specs.TreeState.{GroupEntry, TreeState}
use Rattle.cpuset_tree.specs.Groups.{same_group, entry_of, has_group, root_of, child_of, requested_cpus, cpus_in}
use Rattle.cpuset_tree.specs.TreeChanges.{new_entry}
use Rattle.cpuset_tree.specs.TreeLaws.{IsChild, GroupAdded, StandAlike}
use Rattle.cpuset_tree.specs.TreeWellFormed as tree
use Rattle.cpuset_tree.specs.GroupLemmas.{same_group-equal, same_group_sym, other_serial}
use Rattle.cpuset_tree.specs.TreeLemmas.{parent_is_there, found_is_child}
use Rattle.proctable.specs.declared.Process.{Process}
use Rattle.proctable.specs.TableState.{TableState}
use Rattle.proctable.specs.Processes.{process_of, is_alive}
use Rattle.proctable.specs.TableLaws.{ProcessAdded}
use Rattle.kernel_model.specs.declared.KernelFault.{KernelFault}
use Rattle.kernel_model.specs.KernelState.{KernelState}
use Rattle.kernel_model.specs.Cases.{MakesGroup, WritesCpus, WritesMems, Spawns}
use Rattle.kernel_model.specs.Laws.{StepKeeps, KeepsMachine}
use Rattle.kernel_model.specs.KernelLemmas.{each_case_keeps, writes_leave_groups, writes_keep_processes, writes_keep_tree, calls_leave_processes}
use Rattle.apply_plan.specs.Holders.{AreApart, HasSome}
use Rattle.node.specs.Owners.{Owner}
use Rattle.node.specs.IsNode.{HaveOtherIds, IsPlaced, IsFirst, IsOwned, AreOwned, Holds}
use Rattle.node.specs.Launch.{AtOnce, FindsOr, FindsOrMakes, WritesSets, StartsIn, Launches}
use Rattle.node.proofs.ListLemmas.{all_map, all_map2, all_push, pairs_push}
use Rattle.node.proofs.HoldsLemmas.{KeepsPlaces, IsLeft, EachKept, AreSafeOwners, with_owned, same_places, each_kept, left, kept, same_owned, added_owned}

-- what stays of the containers and of the machine
pub record Stays (old new : KernelState) (parent : Group) (owners : List Owner) : Type 0 where
  pub holds : Holds new parent owners
  pub machine : KeepsMachine old new

pub machine_then : (old mid new : KernelState) → KeepsMachine old mid → KeepsMachine mid new → KeepsMachine old new
machine_then old mid new a b = record { nodes = b.nodes ∙ a.nodes; present = b.present ∙ a.present; reserved = b.reserved ∙ a.reserved }

pub stays_then : (old mid new : KernelState) (parent : Group) (owners : List Owner) → KeepsMachine old mid → Stays mid new parent owners → Stays old new parent owners
stays_then old mid new parent owners a b = record { holds = b.holds; machine = machine_then old mid new a b.machine }

-- a child is another group than its parent
pub child_differs : (s : TreeState) (g parent : Group) (e : GroupEntry) → tree.IsWellFormed s → entry_of s g ≡ Some e → e.parent ≡ Some parent → same_group g parent ≡ false
child_differs s g parent e well there below =
    other_serial g parent (λ same. let lt : parent.serial < g.serial = (parent_is_there s g parent e well there below).1 in absurd (omega (arith, lt, same)))

pub is_there : (s : TreeState) (g : Group) (e : GroupEntry) → entry_of s g ≡ Some e → has_group s g ≡ true
is_there s g e there = ap is_some there

pub swapped_ids : (a b : List ℕ) → bytes_eq a b ≡ false → bytes_eq b a ≡ false
swapped_ids a b f = by (bytes_eq b a) refl where
  by : (t : Bool) → bytes_eq b a ≡ t → bytes_eq b a ≡ false
  by true t = absurd (false≢true (sym f ∙ (bytes_eq-Decides a b).1 (sym ((bytes_eq-Decides b a).0 t))))
  by false t = t

-- two children of two names are two groups
pub names_apart : (s : TreeState) (parent : Group) (name : List ℕ) (g : Group) → IsChild s parent name g → (o : Owner) → bytes_eq name o.id ≡ false → IsPlaced s parent o
    → same_group g o.holder.group ≡ false
names_apart s parent name g c o other p = by (same_group g o.holder.group) refl where
  by : (t : Bool) → same_group g o.holder.group ≡ t → same_group g o.holder.group ≡ false
  by false t = t
  by true t =
      let there : entry_of s o.holder.group ≡ Some c.entry = subst (λ x. entry_of s x ≡ Some c.entry) (same_group-equal g o.holder.group t) c.there in
      let same : c.entry ≡ p.entry = cc (there, p.there) in
      let names : name ≡ o.id = sym c.named ∙ ap (λ (e : GroupEntry). e.name) same ∙ p.named in
      absurd (false≢true (sym other ∙ (bytes_eq-Decides name o.id).1 names))

pub owned_apart : (g : Group) (p : Process) (owners : List Owner) → AllByRecursion (λ o. same_group g o.holder.group ≡ false) owners → IsOwned p owners → same_group p.group g ≡ false
owned_apart g p [] a h = absurd h
owned_apart g p (o ∷ owners) a h =
    elim h [
      | inl own ↦ ap (λ x. same_group x g) own.0 ∙ same_group_sym o.holder.group g ∙ a.0
      | inr on ↦ owned_apart g p owners a.1 on
    ]

-- the CPUs may be requested for one more: some, and none of them is requested for another live one where one of both is
-- pinned, but reserved ones
abbrev pub IsClear : KernelState → Bool → Ids → Owner → Type 0
IsClear k pinned cpus o =
    is_alive k.table o.holder.pid ≡ true → (o.holder.pinned || pinned) ≡ true → (cpu : ℕ)
    → set.contains (requested_cpus k.tree o.holder.group) cpu ≡ true → set.contains cpus cpu ≡ true → set.contains k.reserved cpu ≡ true

pub record MayHold (k : KernelState) (owners : List Owner) (pinned : Bool) (cpus : Ids) : Type 0 where
  pub some : is_empty cpus ≡ false
  pub clear : AllByRecursion (IsClear k pinned cpus) owners

-- also after calls that leave what the others request
pub still_may : (old new : KernelState) (owners : List Owner) (pinned : Bool) (cpus : Ids) → KeepsMachine old new → AllByRecursion (EachKept old new) owners
    → MayHold old owners pinned cpus → MayHold new owners pinned cpus
still_may old new owners pinned cpus machine each may = record {
  some = may.some;
  clear = all_map2 (EachKept old new) (IsClear old pinned cpus) (IsClear new pinned cpus)
      (λ o kept clear live one cpu ha hb. ap (λ r. set.contains r cpu) machine.reserved
      ∙ clear (kept.dies live) one cpu (ap (λ s. set.contains s cpu) (sym kept.requested) ∙ ha) hb) owners each may.clear;
}

each_then : (old mid new : KernelState) (owners : List Owner) → AllByRecursion (EachKept old mid) owners → AllByRecursion (EachKept mid new) owners
    → AllByRecursion (EachKept old new) owners
each_then old mid new owners a b =
    all_map2 (EachKept old mid) (EachKept mid new) (EachKept old new)
    (λ o x y. record { first = y.first; requested = y.requested ∙ x.requested; dies = λ live. x.dies (y.dies live) }) owners a b

each_same : (k : KernelState) (parent : Group) (owners : List Owner) → Holds k parent owners → AllByRecursion (EachKept k k) owners
each_same k parent owners h =
    all_map (λ o. IsFirst k.table o.holder) (EachKept k k) (λ o first. record { first = first; requested = refl; dies = λ live. live }) owners h.first

-- a group of this name that is no container's
pub record IsReady (k : KernelState) (parent : Group) (name : List ℕ) (owners : List Owner) (g : Group) : Type 0 where
  pub child : IsChild k.tree parent name g
  pub others : AllByRecursion (λ o. same_group g o.holder.group ≡ false) owners
  pub empty : (q : ℕ) (p : Process) → process_of k.table q ≡ Some p → same_group p.group g ≡ false

module _ (parent : Group) (name : List ℕ) (owners : List Owner) (new_id : AllByRecursion (λ o. bytes_eq name o.id ≡ false) owners) where
  pub ready : (k : KernelState) → Holds k parent owners → (g : Group) → IsChild k.tree parent name g → IsReady k parent name owners g
  ready k h g c =
      let others : AllByRecursion (λ o. same_group g o.holder.group ≡ false) owners =
      all_map2 (λ o. bytes_eq name o.id ≡ false) (IsPlaced k.tree parent) (λ o. same_group g o.holder.group ≡ false) (names_apart k.tree parent name g c) owners new_id h.placed in
      record { child = c; others = others; empty = λ q p e. owned_apart g p owners others (h.owned q p e) }

  -- one more group of this name
  module _ (old new : KernelState) (h : Holds old parent owners) where
    added_places : (g : Group) → MakesGroup old parent name (Ok g) new → GroupAdded old.tree new.tree parent name g → KeepsPlaces old.tree new.tree parent owners
    added_places g m a =
        let top : root_of new.tree ≡ root_of old.tree = ap root_of m.1.does.added in
        let stay : (p : Group) (e : GroupEntry) → entry_of old.tree p ≡ Some e → entry_of new.tree p ≡ entry_of old.tree p =
        λ p e there. a.others p (a.differs p (is_there old.tree p e there)) in
        record {
          home = record {
            entry = h.home.entry;
            root = h.home.root;
            there = stay parent h.home.entry h.home.there ∙ h.home.there;
            top = top ∙ h.home.top;
            below = h.home.below;
            name = h.home.name;
            free_cpus = h.home.free_cpus;
            free_mems = h.home.free_mems;
          };
          shallow = λ p q e there below. shallow_at p q e there below (same_group g p) refl;
          placed = all_map (IsPlaced old.tree parent) (IsPlaced new.tree parent)
              (λ o c. record { entry = c.entry; there = stay o.holder.group c.entry c.there ∙ c.there; below = c.below; named = c.named }) owners h.placed;
          requested = all_map (IsPlaced old.tree parent) (λ o. requested_cpus new.tree o.holder.group ≡ requested_cpus old.tree o.holder.group) (λ o c. a.cpus o.holder.group) owners h.placed;
        } where
          shallow_at : (p q : Group) (e : GroupEntry) → entry_of new.tree p ≡ Some e → e.parent ≡ Some q → (t : Bool) → same_group g p ≡ t → (q ≡ parent) ⊎ (root_of new.tree ≡ Some q)
          shallow_at p q e there below true t =
              let at : entry_of new.tree p ≡ Some (new_entry g (Some parent) name) = subst (λ x. entry_of new.tree x ≡ Some (new_entry g (Some parent) name)) (same_group-equal g p t) a.there in
              let same : new_entry g (Some parent) name ≡ e = cc (at, there) in
              let up : Some parent ≡ Some q = ap (λ (x : GroupEntry). x.parent) same ∙ below in
              inl (cc up)
          shallow_at p q e there below false t =
              elim (h.shallow p q e (sym (a.others p t) ∙ there) below) [ inl home ↦ inl home | inr root ↦ inr (ap root_of m.1.does.added ∙ root) ]

    make_keeps : (r : Result Group (OrMemory KernelFault)) → MakesGroup old parent name r new → StepKeeps old new
    make_keeps r m = (each_case_keeps old new h.kernel).make parent name r m

    make_owned : (r : Result Group (OrMemory KernelFault)) → MakesGroup old parent name r new → AreOwned new.table owners
    make_owned r m = same_owned old.table new.table owners h.owned (writes_keep_processes.make old new parent name r m).0

    pub make_stays : (r : Result Group (OrMemory KernelFault)) → MakesGroup old parent name r new → Stays old new parent owners
    make_stays (Ok g) m = record {
      holds = kept old new (make_keeps (Ok g) m) parent owners h (added_places g m (writes_leave_groups.make old new parent name (Ok g) m).made) (make_owned (Ok g) m);
      machine = (make_keeps (Ok g) m).machine;
    }
    make_stays (Err e) m = record {
      holds = kept old new (make_keeps (Err e) m) parent owners h
          (same_places old.tree new.tree (ap (λ (s : TreeState). s.groups) (writes_leave_groups.make old new parent name (Err e) m).refused) parent owners h.home h.shallow h.placed) (make_owned (Err e) m);
      machine = (make_keeps (Err e) m).machine;
    }

    make_each : (r : Result Group (OrMemory KernelFault)) → MakesGroup old parent name r new → AllByRecursion (EachKept old new) owners
    make_each (Ok g) m =
        each_kept old new (make_keeps (Ok g) m) parent owners h (added_places g m (writes_leave_groups.make old new parent name (Ok g) m).made)
    make_each (Err e) m =
        each_kept old new (make_keeps (Err e) m) parent owners h
        (same_places old.tree new.tree (ap (λ (s : TreeState). s.groups) (writes_leave_groups.make old new parent name (Err e) m).refused) parent owners h.home h.shallow h.placed)

    made_ready : (g : Group) → MakesGroup old parent name (Ok g) new → IsReady new parent name owners g
    made_ready g m = ready new (make_stays (Ok g) m).holds g
        (record { entry = new_entry g (Some parent) name; there = (writes_leave_groups.make old new parent name (Ok g) m).made.there; below = refl; named = refl })

    -- or the one that is there
    find_by : (o : Option Group) → child_of old.tree parent name ≡ o → (r : Result Group (OrMemory KernelFault)) → FindsOr o old parent name r new
        → Stays old new parent owners
    find_by (Some g) was r f = subst (λ k. Stays old k parent owners) (sym f.1) (record { holds = h; machine = record { nodes = refl; present = refl; reserved = refl } })
    find_by None was r f = make_stays r f

    each_by : (o : Option Group) → (r : Result Group (OrMemory KernelFault)) → FindsOr o old parent name r new → AllByRecursion (EachKept old new) owners
    each_by (Some g) r f = subst (λ k. AllByRecursion (EachKept old k) owners) (sym f.1) (each_same old parent owners h)
    each_by None r f = make_each r f

    ready_by : (o : Option Group) → child_of old.tree parent name ≡ o → (g : Group) → FindsOr o old parent name (Ok g) new → IsReady new parent name owners g
    ready_by (Some found) was g f =
        let same : found ≡ g = cc f.0 in
        subst (λ k. IsReady k parent name owners g) (sym f.1) (ready old h g (found_is_child old.tree parent name g h.kernel.tree (was ∙ ap Some same)))
    ready_by None was g f = made_ready g f

    pub find_stays : (r : Result Group (OrMemory KernelFault)) → FindsOrMakes old parent name r new → Stays old new parent owners
    find_stays r f = find_by (child_of old.tree parent name) refl r f

    find_each : (r : Result Group (OrMemory KernelFault)) → FindsOrMakes old parent name r new → AllByRecursion (EachKept old new) owners
    find_each r f = each_by (child_of old.tree parent name) r f

    pub find_ready : (g : Group) → FindsOrMakes old parent name (Ok g) new → IsReady new parent name owners g
    find_ready g f = ready_by (child_of old.tree parent name) refl g f

  -- a write of a group that is no container's
  module _ (g : Group) where
    pub record Written (old new : KernelState) : Type 0 where
      pub holds : Holds new parent owners
      pub machine : KeepsMachine old new
      pub each : AllByRecursion (EachKept old new) owners
      pub ready : IsReady new parent name owners g

    alike : (old new : KernelState) → Holds old parent owners → IsReady old parent name owners g → StepKeeps old new → StandAlike old.tree new.tree
        → ((p : Group) → same_group g p ≡ false → entry_of new.tree p ≡ entry_of old.tree p) → new.table ≡ old.table → Written old new
    alike old new h w keeps stand apart table =
        let apart_home : same_group g parent ≡ false = child_differs old.tree g parent w.child.entry h.kernel.tree w.child.there w.child.below in
        let moved = stand.after g w.child.entry w.child.there in
        let places : KeepsPlaces old.tree new.tree parent owners = record {
          home = record {
            entry = h.home.entry;
            root = h.home.root;
            there = apart parent apart_home ∙ h.home.there;
            top = stand.root ∙ h.home.top;
            below = h.home.below;
            name = h.home.name;
            free_cpus = h.home.free_cpus;
            free_mems = h.home.free_mems;
          };
          shallow = λ p q e there below.
              let was = stand.before p e there in
              elim (h.shallow p q was.entry was.there (sym was.place.parent ∙ below)) [ inl home ↦ inl home | inr root ↦ inr (stand.root ∙ root) ];
          placed = all_map2 (λ o. same_group g o.holder.group ≡ false) (IsPlaced old.tree parent) (IsPlaced new.tree parent)
              (λ o f c. record { entry = c.entry; there = apart o.holder.group f ∙ c.there; below = c.below; named = c.named }) owners w.others h.placed;
          requested = all_map (λ o. same_group g o.holder.group ≡ false) (λ o. requested_cpus new.tree o.holder.group ≡ requested_cpus old.tree o.holder.group)
              (λ o f. ap cpus_in (apart o.holder.group f)) owners w.others;
        } in
        let holds : Holds new parent owners = kept old new keeps parent owners h places (same_owned old.table new.table owners h.owned table) in
        record {
          holds = holds;
          machine = keeps.machine;
          each = each_kept old new keeps parent owners h places;
          ready = ready new holds g (record { entry = moved.entry; there = moved.there; below = sym moved.place.parent ∙ w.child.below; named = sym moved.place.name ∙ w.child.named });
        }

    pub cpus_written : (old new : KernelState) → Holds old parent owners → IsReady old parent name owners g → (cpus : Ids) (r : Result (Unit {0}) KernelFault)
        → WritesCpus old g cpus r new → Written old new
    cpus_written old new h w cpus r s =
        let leaves = writes_leave_groups.cpus old new g cpus r s in
        alike old new h w ((each_case_keeps old new h.kernel).cpus g cpus r s) leaves.places leaves.apart (writes_keep_processes.cpus old new g cpus r s).0

    mems_written : (old new : KernelState) → Holds old parent owners → IsReady old parent name owners g → (mems : Ids) (r : Result (Unit {0}) KernelFault)
        → WritesMems old g mems r new → Written old new
    mems_written old new h w mems r s =
        let leaves = writes_leave_groups.mems old new g mems r s in
        alike old new h w ((each_case_keeps old new h.kernel).mems g mems r s) leaves.places leaves.apart (writes_keep_processes.mems old new g mems r s).0

    written_then : (old mid new : KernelState) → Written old mid → Written mid new → Written old new
    written_then old mid new a b = record {
      holds = b.holds;
      machine = machine_then old mid new a.machine b.machine;
      each = each_then old mid new owners a.each b.each;
      ready = b.ready;
    }

    pub sets_written : (old new : KernelState) → Holds old parent owners → IsReady old parent name owners g → (cpus mems : Ids) (r : Result (Unit {0}) KernelFault)
        → WritesSets old g cpus mems r new → Written old new
    sets_written old new h w cpus mems r s =
        elim s [
          | inl refused ↦ cpus_written old new h w cpus (Err refused.0) refused.1
          | inr done ↦
              let first = cpus_written old done.1 h w cpus (Ok done.0) done.2 in
              written_then old done.1 new first (mems_written done.1 new first.holds first.ready mems r done.3)
        ]

    pub sets_requested : (old new : KernelState) (cpus mems : Ids) (value : Unit {0}) → WritesSets old g cpus mems (Ok value) new → requested_cpus new.tree g ≡ cpus
    sets_requested old new cpus mems value s =
        elim s [
          | inl refused ↦ absurd (let e : Ok value ≡ Err refused.0 = refused.2 in let no : ⊥ = cc e in no)
          | inr done ↦ (writes_leave_groups.mems done.1 new g mems (Ok value) done.3).cpus g ∙ (writes_leave_groups.cpus old done.1 g cpus (Ok done.0) done.2).own
        ]

  -- a first process in a group that has none, which requests CPUs that may be requested for it
  module _ (g : Group) (pinned : Bool) (old new : KernelState) (h : Holds old parent owners) (w : IsReady old parent name owners g) where
    spawn_keeps : (r : Result ℕ (OrMemory KernelFault)) → Spawns old g r new → StepKeeps old new
    spawn_keeps r s = (each_case_keeps old new h.kernel).spawn g r s

    spawn_places : (r : Result ℕ (OrMemory KernelFault)) → Spawns old g r new → KeepsPlaces old.tree new.tree parent owners
    spawn_places r s =
        same_places old.tree new.tree (ap (λ (t : TreeState). t.groups) (writes_keep_tree.spawn old new g r s)) parent owners h.home h.shallow h.placed

    pub not_spawned : (e : OrMemory KernelFault) → Spawns old g (Err e) new → Stays old new parent owners
    not_spawned e s = record {
      holds = kept old new (spawn_keeps (Err e) s) parent owners h (spawn_places (Err e) s)
          (same_owned old.table new.table owners h.owned (calls_leave_processes.spawn old new g (Err e) s).refused);
      machine = (spawn_keeps (Err e) s).machine;
    }

    module _ (pid : ℕ) (s : Spawns old g (Ok pid) new) (cpus : Ids) (asked : requested_cpus old.tree g ≡ cpus) (may : MayHold old owners pinned cpus) where
      abbrev own : Owner
      own = record { id = name; holder = record { group = g; pid = pid; pinned = pinned } }

      added : ProcessAdded old.table new.table g pid pid
      added = (calls_leave_processes.spawn old new g (Ok pid) s).made

      keeps : StepKeeps old new
      keeps = spawn_keeps (Ok pid) s

      rest : IsLeft new parent owners
      rest = left old new keeps parent owners h (spawn_places (Ok pid) s)

      same_tree : new.tree ≡ old.tree
      same_tree = writes_keep_tree.spawn old new g (Ok pid) s

      -- its group requests these CPUs
      requests : requested_cpus new.tree g ≡ cpus
      requests = ap (λ t. requested_cpus t g) same_tree ∙ asked

      may_now : MayHold new owners pinned cpus
      may_now = still_may old new owners pinned cpus keeps.machine (each_kept old new keeps parent owners h (spawn_places (Ok pid) s)) may

      some_requested : is_empty (requested_cpus new.tree g) ≡ false
      some_requested = ap is_empty requests ∙ may_now.some

      apart : AllByRecursion (λ o. AreApart new new.reserved (requested_cpus new.tree) o.holder own.holder) owners
      apart =
          all_map (IsClear new pinned cpus) (λ o. AreApart new new.reserved (requested_cpus new.tree) o.holder own.holder)
          (λ o clear la lb one cpu ha hb. clear la one cpu ha (ap (λ t. set.contains t cpu) (sym requests) ∙ hb)) owners may_now.clear

      its_pid : pid < new.table.next_pid
      its_pid =
          let next : pid ≡ old.table.next_pid = s.1.does.next in
          let more : new.table.next_pid ≡ old.table.next_pid + 1 = ap (λ (t : TableState). t.next_pid) s.1.does.added in
          omega (arith, next, more)

      is_first : IsFirst new.table own.holder
      is_first = record {
        given = its_pid;
        group = λ p e. let same : record { pid = pid; group = g; first = pid } ≡ p = cc (added.there, e) in sym (ap (λ (x : Process). x.group) same);
        itself = λ p e. let same : record { pid = pid; group = g; first = pid } ≡ p = cc (added.there, e) in sym (ap (λ (x : Process). x.first) same);
      }

      more_owned : (p : Process) (os : List Owner) → IsOwned p os → IsOwned p (os ++ own ∷ [])
      more_owned p [] o = absurd o
      more_owned p (x ∷ os) o = elim o [ inl is ↦ inl is | inr on ↦ inr (more_owned p os on) ]

      last_owned : (p : Process) (os : List Owner) → p.group ≡ g → p.first ≡ pid → IsOwned p (os ++ own ∷ [])
      last_owned p [] a b = inl (a, b)
      last_owned p (x ∷ os) a b = inr (last_owned p os a b)

      owned : AreOwned new.table (owners ++ own ∷ [])
      owned = added_owned old.table new.table (owners ++ own ∷ []) (λ q p e. more_owned p owners (h.owned q p e)) g pid pid added (λ p a b. last_owned p owners a b)

      placed : IsPlaced new.tree parent own
      placed = record { entry = w.child.entry; there = ap (λ t. entry_of t g) same_tree ∙ w.child.there; below = w.child.below; named = w.child.named }

      safe : AreSafeOwners new new.reserved (owners ++ own ∷ [])
      safe = record {
        apart = pairs_push (λ a b. AreApart new new.reserved (requested_cpus new.tree) a.holder b.holder) owners own rest.safe.apart apart;
        some = all_push (λ o. HasSome new (requested_cpus new.tree) o.holder) owners own rest.safe.some (λ _. some_requested);
      }

      pub spawned : Stays old new parent (owners ++ own ∷ [])
      spawned = record {
        holds = with_owned new parent (owners ++ own ∷ []) (record {
          kernel = keeps.well_formed;
          home = rest.home;
          shallow = rest.shallow;
          distinct = pairs_push HaveOtherIds owners own rest.distinct
              (all_map (λ o. bytes_eq name o.id ≡ false) (λ o. bytes_eq o.id name ≡ false) (λ o f. swapped_ids name o.id f) owners new_id);
          placed = all_push (IsPlaced new.tree parent) owners own rest.placed placed;
          first = all_push (λ o. IsFirst new.table o.holder) owners own rest.first is_first;
          safe = safe;
        }) owned;
        machine = keeps.machine;
      }

  -- all of it
  module _ (pinned : Bool) (cpus mems : Ids) where
    sets_at_once : (g : Group) (old new : KernelState) → Holds old parent owners → IsReady old parent name owners g
        → (r : Result (Unit {0}) (OrMemory KernelFault))
        → AtOnce (WritesSets old g cpus mems) r new → Written g old new
    sets_at_once g old new h w (Ok value) s = sets_written g old new h w cpus mems (Ok value) s
    sets_at_once g old new h w (Err Memory) s = absurd s
    sets_at_once g old new h w (Err (Fault fault)) s = sets_written g old new h w cpus mems (Err fault) s

    start_refused : (g : Group) (old new : KernelState) → Holds old parent owners → IsReady old parent name owners g → (e : OrMemory KernelFault)
        → StartsIn old g cpus mems (Err e) new → Stays old new parent owners
    start_refused g old new h w e s =
        elim s [
          | inl refused ↦
              let there = sets_at_once g old new h w (Err refused.0) refused.1 in
              record { holds = there.holds; machine = there.machine }
          | inr done ↦
              let there = sets_at_once g old done.1 h w (Ok done.0) done.2 in
              stays_then old done.1 new parent owners there.machine (not_spawned g pinned done.1 new there.holds there.ready e done.3)
        ]

    started_in : (g : Group) (pid : ℕ) (old new : KernelState) → Holds old parent owners → IsReady old parent name owners g → MayHold old owners pinned cpus
        → StartsIn old g cpus mems (Ok pid) new → Stays old new parent (owners ++ record { id = name; holder = record { group = g; pid = pid; pinned = pinned } } ∷ [])
    started_in g pid old new h w may s =
        elim s [
          | inl refused ↦ absurd (let e : Ok pid ≡ Err refused.0 = refused.2 in let no : ⊥ = cc e in no)
          | inr done ↦
              let there = sets_at_once g old done.1 h w (Ok done.0) done.2 in
              let asked = sets_requested g old done.1 cpus mems done.0 done.2 in
              stays_then old done.1 new parent (owners ++ record { id = name; holder = record { group = g; pid = pid; pinned = pinned } } ∷ []) there.machine
              (spawned g pinned done.1 new there.holds there.ready pid done.3 cpus asked (still_may old done.1 owners pinned cpus there.machine there.each may))
        ]

    pub launched : (g : Group) (pid : ℕ) (old new : KernelState) → Holds old parent owners → MayHold old owners pinned cpus → Launches old parent name cpus mems (Ok (g, pid)) new
        → Stays old new parent (owners ++ record { id = name; holder = record { group = g; pid = pid; pinned = pinned } } ∷ [])
    launched g pid old new h may s =
        let found = find_stays old s.0 h (Ok g) s.1 in
        stays_then old s.0 new parent (owners ++ record { id = name; holder = record { group = g; pid = pid; pinned = pinned } } ∷ []) found.machine
        (started_in g pid s.0 new found.holds (find_ready old s.0 h g s.1)
        (still_may old s.0 owners pinned cpus found.machine (find_each old s.0 h (Ok g) s.1) may) s.2)

    pub not_launched : (e : OrMemory KernelFault) (old new : KernelState) → Holds old parent owners → Launches old parent name cpus mems (Err e) new
        → Stays old new parent owners
    not_launched e old new h s =
        elim s [
          | inl refused ↦ find_stays old new h (Err e) refused
          | inr made ↦
              let found = find_stays old made.1 h (Ok made.0) made.2 in
              stays_then old made.1 new parent owners found.machine (start_refused made.0 made.1 new found.holds (find_ready old made.1 h made.0 made.2) e made.3)
        ]
