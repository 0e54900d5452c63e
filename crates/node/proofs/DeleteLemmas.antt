-- What the removal of a stopped container's group leaves of what holds of a node.
use Rattle.std.proofs.Common.{◌≡◌, ◌⊎◌, inl, inr, ℕ, Bool, true, false, List, Some, None, refl, sym, ap, ◌∙◌, subst}
use Rattle.std.proofs.lemmas.Bool.{false≢true}
use Rattle.std.proofs.lemmas.Option.{none-some}
use Rattle.std.specs.Prelude.{is_some, is_none, Ok, Err}
use Rattle.std.specs.List.{AllByRecursion}
use Rattle.std.specs.Map.{lookup, remove_entry}
use Rattle.std.specs.Str.{bytes_eq}
use Rattle.cpuset_tree.specs.declared.Group.{Group}
use Rattle.cpuset_tree.specs.TreeState.{GroupEntry}
use Rattle.cpuset_tree.specs.Groups.{same_group, entry_of, has_group, is_root, is_root_entry, has_children, root_of, requested_cpus, cpus_in}
use Rattle.cpuset_tree.specs.GroupLemmas.{same_group-equal, same_group_itself}
use Rattle.cpuset_tree.specs.TreeLemmas.{root_is_there, no_parent_no_children, root_among-without}
use Rattle.proctable.specs.declared.Process.{Process}
use Rattle.proctable.specs.Processes.{process_of, is_alive}
use Rattle.proctable.specs.TableLemmas.{live_belong, none_counted_where_none}
use Rattle.kernel_model.specs.declared.KernelFault.{KernelFault}
use Rattle.kernel_model.specs.declared.KernelFault.TheVariants.{Failed}
use Rattle.kernel_model.specs.Trace.{RemovedGroup}
use Rattle.kernel_model.specs.KernelState.{KernelState}
use Rattle.kernel_model.specs.Refusals.{remove_refusal}
use Rattle.kernel_model.specs.Cases.{RemovesGroup, RemovesGroupOf}
use Rattle.kernel_model.specs.Laws.{RemoveLeaves}
use Rattle.kernel_model.specs.KernelLemmas.{each_case_keeps, writes_leave_groups, writes_keep_processes}
use Rattle.kernel_model.specs.RefusalLemmas.{calls_are_free}
use Rattle.apply_plan.specs.Holders.{AreApart, HasSome}
use Rattle.node.specs.NodeState.{ContainerState}
use Rattle.node.specs.Owners.{Owner, owner_of, owners_of}
use Rattle.node.specs.IsNode.{HaveOtherIds, IsPlaced, IsFirst, Holds}
use Rattle.node.proofs.ListLemmas.{all_map, all_map2}
use Rattle.node.proofs.ContainerLemmas.{found_owner, all_left, pairs_left, left_others, owned_split}
use Rattle.node.proofs.HoldsLemmas.{KeepsPlaces, AreSafeOwners, of_safe, to_safe, kept, same_owned}
use Rattle.node.proofs.LaunchLemmas.{Stays, child_differs, names_apart, owned_apart}
use Rattle.node.proofs.EventLemmas.{only_failed}

module _ (parent : Group) (id : List ℕ) (xs : List (List ℕ × ContainerState)) (c : ContainerState) (found : lookup (bytes_eq id) xs ≡ Some c) (old : KernelState)
    (h : Holds old parent (owners_of xs)) where
  abbrev rest : List Owner
  rest = owners_of (remove_entry (bytes_eq id) xs)

  place : IsPlaced old.tree parent (owner_of (id, c))
  place = found_owner id (IsPlaced old.tree parent) xs c found h.placed

  pub there : has_group old.tree c.group ≡ true
  there = ap is_some place.there

  others : AllByRecursion (λ o. same_group c.group o.holder.group ≡ false) rest
  others =
      all_map2 (λ o. bytes_eq id o.id ≡ false) (IsPlaced old.tree parent) (λ o. same_group c.group o.holder.group ≡ false)
      (names_apart old.tree parent id c.group place) rest (left_others id xs c found h.distinct) (all_left id (IsPlaced old.tree parent) xs h.placed)

  module _ (stopped : is_alive old.table c.pid ≡ false) where
    -- a stopped container has no process
    none_in : (q : ℕ) (p : Process) → process_of old.table q ≡ Some p → same_group p.group c.group ≡ false
    none_in q p e =
        elim (owned_split id p xs c found (h.owned q p e)) [
          | inl own ↦
              let belongs = live_belong old.table q p h.kernel.table e in
              absurd (false≢true (sym stopped ∙ ap (is_alive old.table) (sym own.1) ∙ ap is_some belongs.alive))
          | inr on ↦ owned_apart c.group p rest others on
        ]

    alone : same_group c.group parent ≡ false
    alone = child_differs old.tree c.group parent place.entry h.kernel.tree place.there place.below

    childless : has_children old.tree c.group ≡ false
    childless = no_parent_no_children old.tree c.group h.kernel.tree (λ p e at below. none p e at below) where
      none : (p : Group) (e : GroupEntry) → entry_of old.tree p ≡ Some e → e.parent ≡ Some c.group → ⊥
      none p e at below =
          elim (h.shallow p c.group e at below) [
            | inl home ↦ absurd (false≢true (sym alone ∙ ap (λ g. same_group c.group g) (sym home) ∙ same_group_itself c.group))
            | inr top ↦
                let root = root_is_there old.tree c.group h.kernel.tree top in
                let same : root.entry ≡ place.entry = cc (root.there, place.there) in
                none-some parent (sym root.above ∙ ap (λ (x : GroupEntry). x.parent) same ∙ place.below)
          ]

    below_root : is_root old.tree c.group ≡ false
    below_root = ap is_root_entry place.there ∙ ap is_none place.below

    -- nothing stands against its removal
    free : remove_refusal old c.group ≡ None
    free = ((calls_are_free old).remove c.group).1 (there, below_root, childless, none_counted_where_none old.table c.group h.kernel.table none_in)

    pub delete_failed : (new : KernelState) (fault : KernelFault) → RemovesGroup old c.group (Err fault) new → fault ≡ Failed
    delete_failed new fault r = only_failed {A = Unit {0}} (RemovedGroup c.group) (remove_refusal old c.group) (RemovesGroupOf old c.group) old new fault free r

    -- what holds of all containers holds of the others
    left_hold : Holds old parent rest
    left_hold =
        let safe : AreSafeOwners old old.reserved (owners_of xs) = of_safe old old.reserved (owners_of xs) h.safe in
        record {
          kernel = h.kernel;
          home = h.home;
          shallow = h.shallow;
          distinct = pairs_left id HaveOtherIds xs h.distinct;
          placed = all_left id (IsPlaced old.tree parent) xs h.placed;
          first = all_left id (λ o. IsFirst old.table o.holder) xs h.first;
          owned = λ q p e. elim (owned_split id p xs c found (h.owned q p e)) [
            | inl own ↦ absurd (false≢true (sym (none_in q p e) ∙ ap (λ g. same_group g c.group) own.0 ∙ same_group_itself c.group))
            | inr on ↦ on
          ];
          safe = to_safe old old.reserved rest (record {
            apart = pairs_left id (λ a b. AreApart old old.reserved (requested_cpus old.tree) a.holder b.holder) xs safe.apart;
            some = all_left id (λ o. HasSome old (requested_cpus old.tree) o.holder) xs safe.some;
          });
        }

    module _ (new : KernelState) (v : Unit {0}) (r : RemovesGroup old c.group (Ok v) new) where
      leaves : RemoveLeaves old c.group (Ok v) new
      leaves = writes_leave_groups.remove old new c.group (Ok v) r

      top : root_of new.tree ≡ root_of old.tree
      top = ap (λ (k : KernelState). root_of k.tree) r.1 ∙ root_among-without c.group old.tree.next_serial old.tree.groups h.kernel.tree.falling below_root

      shallow_at : (p q : Group) (e : GroupEntry) → entry_of new.tree p ≡ Some e → e.parent ≡ Some q → (t : Bool) → same_group c.group p ≡ t → (q ≡ parent) ⊎ (root_of new.tree ≡ Some q)
      shallow_at p q e at below true t =
          absurd (none-some e (sym (subst (λ x. entry_of new.tree x ≡ None) (same_group-equal c.group p t) leaves.gone) ∙ at))
      shallow_at p q e at below false t =
          elim (h.shallow p q e (sym (leaves.apart p t) ∙ at) below) [ inl home ↦ inl home | inr root ↦ inr (top ∙ root) ]

      places : KeepsPlaces old.tree new.tree parent rest
      places = record {
        home = record {
          entry = h.home.entry;
          root = h.home.root;
          there = leaves.apart parent alone ∙ h.home.there;
          top = top ∙ h.home.top;
          below = h.home.below;
          name = h.home.name;
          free_cpus = h.home.free_cpus;
          free_mems = h.home.free_mems;
        };
        shallow = λ p q e at below. shallow_at p q e at below (same_group c.group p) refl;
        placed = all_map2 (λ o. same_group c.group o.holder.group ≡ false) (IsPlaced old.tree parent) (IsPlaced new.tree parent)
            (λ o f d. record { entry = d.entry; there = leaves.apart o.holder.group f ∙ d.there; below = d.below; named = d.named }) rest others left_hold.placed;
        requested = all_map (λ o. same_group c.group o.holder.group ≡ false) (λ o. requested_cpus new.tree o.holder.group ≡ requested_cpus old.tree o.holder.group)
            (λ o f. ap cpus_in (leaves.apart o.holder.group f)) rest others;
      }

      pub deleted_stays : Stays old new parent rest
      deleted_stays = record {
        holds = kept old new ((each_case_keeps old new h.kernel).remove c.group (Ok v) r) parent rest left_hold places
            (same_owned old.table new.table rest left_hold.owned (writes_keep_processes.remove old new c.group (Ok v) r).0);
        machine = ((each_case_keeps old new h.kernel).remove c.group (Ok v) r).machine;
      }
