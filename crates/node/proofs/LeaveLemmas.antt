-- What a refused `create` leaves.
use Rattle.std.proofs.Common.{◌≡◌, ◌⊎◌, inl, inr, ℕ, Bool, true, false, List, Option, Some, None, refl, sym, ap, ◌∙◌, subst}
use Rattle.std.specs.Prelude.{Result, Ok, Err}
use Rattle.std.specs.List.{AllByRecursion}
use Rattle.std.specs.Str.{bytes_eq}
use Rattle.cpu_set.specs.Ids.{Ids}
use Rattle.cpuset_tree.specs.declared.Group.{Group}
use Rattle.cpuset_tree.specs.TreeState.{TreeState}
use Rattle.cpuset_tree.specs.Groups.{same_group, entry_of, child_of}
use Rattle.cpuset_tree.specs.GroupLemmas.{same_group-equal}
use Rattle.cpuset_tree.specs.TreeLemmas.{found_is_child}
use Rattle.proctable.specs.Processes.{count_in}
use Rattle.proctable.specs.TableLemmas.{none_counted_where_none}
use Rattle.kernel_model.specs.declared.KernelFault.{KernelFault}
use Rattle.kernel_model.specs.declared.KernelFault.TheVariants.{NoPids}
use Rattle.kernel_model.specs.KernelState.{KernelState}
use Rattle.kernel_model.specs.Cases.{WritesCpus, WritesMems, Spawns}
use Rattle.kernel_model.specs.KernelLemmas.{writes_leave_groups, writes_keep_processes, writes_keep_tree, calls_leave_processes}
use Rattle.faults.specs.declared.OrMemory.{OrMemory}
use Rattle.faults.specs.declared.OrMemory.TheVariants.{Memory, Fault}
use Rattle.node.specs.declared.fault.NodeFault.{NodeFault}
use Rattle.node.specs.declared.fault.NodeFault.TheVariants.{Busy, BadId, IdInUse, TooManyContainers, NoContainer, NotCreated, NotRunnable, BadSignal, NotLive, NotStopped, NoHandover, NoAnswer, NotFree, Config, Demand, Kernel}
use Rattle.node.specs.NodeState.{NodeState}
use Rattle.node.specs.Owners.{Owner, owners_of}
use Rattle.node.specs.IsNode.{Holds, IsNode}
use Rattle.node.specs.Refusals.{IsFree}
use Rattle.node.specs.Launch.{FindsOr, AtOnce, WritesSets, StartsIn, Launches}
use Rattle.node.specs.Calls.{NotLaunched, Places}
use Rattle.node.specs.Leaves.{LeavesAtMostAGroup, CreateLeaves}
use Rattle.node.proofs.ContainerLemmas.{other_ids}
use Rattle.node.proofs.LaunchLemmas.{ready, not_launched}

module _ (parent : Group) (name : List ℕ) where
  -- one group alone may have changed, which is the child of this name
  record Touches (old new : KernelState) (g : Group) : Type 0 where
    table : new.table ≡ old.table
    apart : (p : Group) → same_group g p ≡ false → entry_of new.tree p ≡ entry_of old.tree p
    child : child_of new.tree parent name ≡ Some g

  -- nothing that is told here changed
  record Leaves (old new : KernelState) : Type 0 where
    table : new.table ≡ old.table
    groups : (g : Group) → (entry_of new.tree g ≡ entry_of old.tree g) ⊎ (child_of new.tree parent name ≡ Some g)

  touches_then : (old mid new : KernelState) (g : Group) → Touches old mid g → Touches mid new g → Touches old new g
  touches_then old mid new g a b = record { table = b.table ∙ a.table; apart = λ p f. b.apart p f ∙ a.apart p f; child = b.child }

  leaves_of : (old new : KernelState) (g : Group) → Touches old new g → Leaves old new
  leaves_of old new g t = record { table = t.table; groups = λ p. by p (same_group g p) refl } where
    by : (p : Group) (b : Bool) → same_group g p ≡ b → (entry_of new.tree p ≡ entry_of old.tree p) ⊎ (child_of new.tree parent name ≡ Some p)
    by p true f = inr (t.child ∙ ap Some (same_group-equal g p f))
    by p false f = inl (t.apart p f)

  find_touches : (o : Option Group) (old : KernelState) → child_of old.tree parent name ≡ o → (g : Group) (new : KernelState) → FindsOr o old parent name (Ok g) new → Touches old new g
  find_touches (Some c) old was g new f =
      let same : c ≡ g = cc f.0 in
      subst (λ (k : KernelState). Touches old k g) (sym f.1) (record { table = refl; apart = λ p d. refl; child = was ∙ ap Some same })
  find_touches None old was g new f =
      let made = (writes_leave_groups.make old new parent name (Ok g) f).made in
      record { table = (writes_keep_processes.make old new parent name (Ok g) f).0; apart = made.others; child = made.child }

  find_refused : (o : Option Group) (old : KernelState) (e : OrMemory KernelFault) (new : KernelState) → FindsOr o old parent name (Err e) new → Leaves old new
  find_refused (Some c) old e new f = absurd (let is : Err e ≡ Ok c = f.0 in let no : ⊥ = cc is in no)
  find_refused None old e new f = record {
    table = (writes_keep_processes.make old new parent name (Err e) f).0;
    groups = λ p. inl (ap (λ (s : TreeState). entry_of s p) (writes_leave_groups.make old new parent name (Err e) f).refused);
  }

  module _ (g : Group) where
    cpus_touch : (old : KernelState) → child_of old.tree parent name ≡ Some g → (cpus : Ids) (r : Result (Unit {0}) KernelFault) (new : KernelState) → WritesCpus old g cpus r new
        → Touches old new g
    cpus_touch old child cpus r new s =
        let left = writes_leave_groups.cpus old new g cpus r s in
        record { table = (writes_keep_processes.cpus old new g cpus r s).0; apart = left.apart; child = left.places.child parent name ∙ child }

    mems_touch : (old : KernelState) → child_of old.tree parent name ≡ Some g → (mems : Ids) (r : Result (Unit {0}) KernelFault) (new : KernelState) → WritesMems old g mems r new
        → Touches old new g
    mems_touch old child mems r new s =
        let left = writes_leave_groups.mems old new g mems r s in
        record { table = (writes_keep_processes.mems old new g mems r s).0; apart = left.apart; child = left.places.child parent name ∙ child }

    sets_touch : (old : KernelState) → child_of old.tree parent name ≡ Some g → (cpus mems : Ids) (r : Result (Unit {0}) KernelFault) (new : KernelState) → WritesSets old g cpus mems r new
        → Touches old new g
    sets_touch old child cpus mems r new s =
        elim s [
          | inl refused ↦ cpus_touch old child cpus (Err refused.0) new refused.1
          | inr done ↦
              let first = cpus_touch old child cpus (Ok done.0) done.1 done.2 in
              touches_then old done.1 new g first (mems_touch done.1 first.child mems r new done.3)
        ]

    at_once_touch : (old : KernelState) → child_of old.tree parent name ≡ Some g
        → (cpus mems : Ids) (r : Result (Unit {0}) (OrMemory KernelFault)) (new : KernelState)
        → AtOnce (WritesSets old g cpus mems) r new → Touches old new g
    at_once_touch old child cpus mems (Ok value) new s = sets_touch old child cpus mems (Ok value) new s
    at_once_touch old child cpus mems (Err Memory) new s = absurd s
    at_once_touch old child cpus mems (Err (Fault fault)) new s = sets_touch old child cpus mems (Err fault) new s

    spawn_refused : (old : KernelState) → child_of old.tree parent name ≡ Some g → (e : OrMemory KernelFault) (new : KernelState) → Spawns old g (Err e) new
        → Touches old new g
    spawn_refused old child e new s =
        let same = writes_keep_tree.spawn old new g (Err e) s in
        record {
          table = (calls_leave_processes.spawn old new g (Err e) s).refused;
          apart = λ p f. ap (λ (t : TreeState). entry_of t p) same;
          child = ap (λ (t : TreeState). child_of t parent name) same ∙ child;
        }

    start_touch : (old : KernelState) → child_of old.tree parent name ≡ Some g → (cpus mems : Ids) (e : OrMemory KernelFault) (new : KernelState)
        → StartsIn old g cpus mems (Err e) new
        → Touches old new g
    start_touch old child cpus mems e new s =
        elim s [
          | inl refused ↦ at_once_touch old child cpus mems (Err refused.0) new refused.1
          | inr done ↦
              let first = at_once_touch old child cpus mems (Ok done.0) done.1 done.2 in
              touches_then old done.1 new g first (spawn_refused done.1 first.child e new done.3)
        ]

  launch_leaves : (old : KernelState) (cpus mems : Ids) (e : OrMemory KernelFault) (new : KernelState) → Launches old parent name cpus mems (Err e) new
      → Leaves old new
  launch_leaves old cpus mems e new l =
      elim l [
        | inl refused ↦ find_refused (child_of old.tree parent name) old e new refused
        | inr made ↦
            let first = find_touches (child_of old.tree parent name) old refl made.0 made.1 made.2 in
            leaves_of old new made.0 (touches_then old made.1 new made.0 first (start_touch made.0 made.1 first.child cpus mems e new made.3))
      ]

  no_process : (owners : List Owner) → AllByRecursion (λ o. bytes_eq name o.id ≡ false) owners → (k : KernelState) → Holds k parent owners → (g : Group) → child_of k.tree parent name ≡ Some g
      → count_in k.table g ≡ 0
  no_process owners new_id k h g child =
      let w = ready parent name owners new_id k h g (found_is_child k.tree parent name g h.kernel.tree child) in
      none_counted_where_none k.table g h.kernel.table w.empty

module _ (cpus : Ids) (old : NodeState) (h : IsNode old) (id config : List ℕ) where
  late : (e : OrMemory KernelFault) (new : NodeState) → NotLaunched cpus old id config e new
      → LeavesAtMostAGroup old.kernel old.parent id new.kernel × (new ≡ record old { kernel = new.kernel })
  late e new n =
      let new_id = other_ids id old.containers n.free.new in
      let left = launch_leaves old.parent id old.kernel cpus n.asked.homes e new.kernel n.refused in
      let stays = not_launched old.parent id (owners_of old.containers) new_id false cpus n.asked.homes e old.kernel new.kernel h.holds n.refused in
      (record { processes = left.table; groups = left.groups; empty = no_process old.parent id (owners_of old.containers) new_id new.kernel stays.holds }, n.is)

  early : (new : NodeState) → IsFree old id → new ≡ old → LeavesAtMostAGroup old.kernel old.parent id new.kernel × (new ≡ record old { kernel = new.kernel })
  early new free same =
      subst (λ (m : NodeState). LeavesAtMostAGroup old.kernel old.parent id m.kernel × (m ≡ record old { kernel = m.kernel })) (sym same) (
        record {
          processes = refl;
          groups = λ g. inl refl;
          empty = no_process old.parent id (owners_of old.containers) (other_ids id old.containers free.new) old.kernel h.holds;
        },
        refl,
      )

  pub place_leaves : (bundle : List ℕ) (r : Result ℕ (OrMemory NodeFault)) (new : NodeState) → Places cpus old id bundle config r new → CreateLeaves old id r new
  place_leaves bundle (Ok pid) new c = tt
  place_leaves bundle (Err Memory) new c = elim c [ inl n ↦ late Memory new n | inr e ↦ early new e.0 e.2 ]
  place_leaves bundle (Err (Fault (Kernel NoPids))) new c = c.is
  place_leaves bundle (Err (Fault (Kernel fault))) new c = late (Fault fault) new c
  place_leaves bundle (Err (Fault Busy)) new c = c.1
  place_leaves bundle (Err (Fault BadId)) new c = c.1
  place_leaves bundle (Err (Fault IdInUse)) new c = c.1
  place_leaves bundle (Err (Fault TooManyContainers)) new c = c.1
  place_leaves bundle (Err (Fault NoContainer)) new c = c.1
  place_leaves bundle (Err (Fault NotCreated)) new c = c.1
  place_leaves bundle (Err (Fault NotRunnable)) new c = c.1
  place_leaves bundle (Err (Fault BadSignal)) new c = c.1
  place_leaves bundle (Err (Fault NotLive)) new c = c.1
  place_leaves bundle (Err (Fault NotStopped)) new c = c.1
  place_leaves bundle (Err (Fault NoHandover)) new c = c.1
  place_leaves bundle (Err (Fault NoAnswer)) new c = c.1
  place_leaves bundle (Err (Fault (NotFree cpu))) new c = c.1
  place_leaves bundle (Err (Fault (Config fault))) new c = c.1
  place_leaves bundle (Err (Fault (Demand fault))) new c = c.1
