use Rattle.std.proofs.Common.{◌≡◌, ℕ, ◌+◌, List, [], ◌∷◌, true, false, sym, ap, ◌∙◌, refl, subst, eq-eqb, arith}
use Rattle.std.proofs.lemmas.Bool.{or_left, cases_eq, both_ways}
use Rattle.std.proofs.Common.{⊎_elim}
use Rattle.std.proofs.lemmas.Option.{same_Some}
use Rattle.std.specs.Prelude.{Option, Some, None, is_some, ◌==◌, slice_index_or}
use Rattle.slab.specs.Slab.{Slab, get, Updates}
use Rattle.cpu_set.specs.Ids.{Ids}
use Rattle.cpuset_tree.specs.declared.groups.Group.{Group}
use Rattle.cpuset_tree.specs.declared.groups.Cgroup.{Cgroup}
use Rattle.cpuset_tree.specs.declared.groups.Resource.{Resource}
use Rattle.cpuset_tree.specs.declared.groups.Resource.TheVariants.{Cpus, Mems}
use Rattle.cpuset_tree.specs.declared.groups.Share.{Share}
use Rattle.cpuset_tree.specs.declared.groups.Shares.{Shares}
use Rattle.cpuset_tree.specs.TreeState.{GroupEntry}
use Rattle.cpuset_tree.specs.Groups.{root_among}
use Rattle.cpuset_tree.specs.TreeChanges.{new_entry}
use Rattle.cpuset_tree.specs.Kept.{IsSound, HasParentAmong, KeepsEffective, entry_of_kept, entries_kept, unrequested, top_of}
use Rattle.cpuset_tree.specs.Effective.{standing, effective}
use Rattle.cpuset_tree.proofs.KeptLemmas.{listed_at}
use Rattle.cpuset_tree.proofs.ParentLemmas.{AreParentsUpTo-first}
use Rattle.cpuset_tree.proofs.MarkLemmas.{AreMarked-first}
use Rattle.cpuset_tree.proofs.tree.Tree.new.Goals as goal

-- a slab of the root alone is sound
first_sound : (old new : Slab Cgroup) (online nodes : Ids) (root : Group) (n : Cgroup) → Updates old new root.key (Some n) → ((k : ℕ) → get old k ≡ None)
    → n.group ≡ root → n.parent ≡ None → n.shares.value.cpus ≡ unrequested online → n.shares.value.mems ≡ unrequested nodes
    → IsSound new (root.key ∷ []) online nodes root (root.serial + 1)
first_sound old new online nodes root n updates empty is of cpus mems = record {
  in_order = (
    n,
    updates.changed,
    ap (λ (g : Group). g.key) is,
    let serial : n.group.serial ≡ root.serial = ap (λ (g : Group). g.serial) is in omega arith,
    subst (λ (o : Option Group). HasParentAmong new o []) (sym of) refl,
    tt,
  );
  all_kept = λ r. (
    (λ m at. subst (λ (x : Cgroup). KeepsEffective r (top_of r online nodes) [] x) (same_Some n m (sym updates.changed ∙ at)) (kept r)),
    tt,
  );
  complete = λ k at. ⊎_elim
      (λ e. or_left (root.key == k) false (eq-eqb root.key k (sym e)))
      (λ ne. absurd (both_ways false refl (sym (ap is_some (updates.others k ne ∙ empty k)) ∙ at)))
      (cases_eq k root.key);
  rooted = ap root_among (listed_at new root.key [] n updates.changed) ∙ head n.parent of ∙ ap Some is;
}
  where
    kept : (r : Resource) → KeepsEffective r (top_of r online nodes) [] n
    kept Cpus = ap (λ (x : Share). x.effective) cpus ∙ ap (λ (o : Option Group). standing o n.shares.value.cpus.requested online (effective (λ e. e.cpus) online [])) (sym of)
    kept Mems = ap (λ (x : Share). x.effective) mems ∙ ap (λ (o : Option Group). standing o n.shares.value.mems.requested nodes (effective (λ e. e.mems) nodes [])) (sym of)

    head : (parent : Option Group) → parent ≡ None
        → root_among (record { group = n.group; parent = parent; name = (entry_of_kept n).name; cpus = n.shares.value.cpus.requested; mems = n.shares.value.mems.requested } ∷ []) ≡ Some n.group
    head None e = refl
    head (Some q) e = absurd (both_ways true (ap is_some e) refl)

pub invariant_of-result : goal.invariant_of-result
invariant_of-result c =
    let key = c.vacant_key-key.result in
    let root : Group = record { key = key; serial = c.args.first_serial } in
    let n : Cgroup = record { group = root; parent = None; name = c.new-2.result; shares = c.in_ok-shares.shares } in
    let shares_given : c.in_ok-shares.shares.value ≡ record { cpus = unrequested c.args.online; mems = unrequested c.args.nodes } = c.in_ok-shares.ensures.ok ∙ c.unrequested.ensures in
    let items : c.push_front.new.self.items ≡ key ∷ [] = c.in_ok-push_front.ensures.items ∙ ap (λ (l : List ℕ). key ∷ l) c.new-order.ensures.items in
    let updates : Updates c.reserve.new.self c.insert_reserved.new.self key (Some n) =
    subst (λ (k : ℕ). Updates c.reserve.new.self c.insert_reserved.new.self k (Some n)) (c.insert_reserved.ensures.key ∙ sym c.vacant_key-key.ensures.value) c.insert_reserved.ensures.updates in
    let empty : (k : ℕ) → get c.reserve.new.self k ≡ None = λ k.
    ap (λ (s : Slab Cgroup). get s k) c.in_ok-reserve.ensures.rest_kept ∙ ap (λ (l : List (Option Cgroup)). slice_index_or l k None) c.new-groups.ensures.empty in (
      subst (λ (l : List ℕ). IsSound c.insert_reserved.new.self l c.args.online c.args.nodes root (c.args.first_serial + 1)) (sym items)
          (first_sound c.reserve.new.self c.insert_reserved.new.self c.args.online c.args.nodes root n updates empty
          refl refl (ap (λ (x : Shares). x.cpus) shares_given) (ap (λ (x : Shares). x.mems) shares_given)),
      AreParentsUpTo-first c.reserve.new.self c.insert_reserved.new.self key n updates empty refl,
      AreMarked-first c.reserve.new.self c.insert_reserved.new.self key n _ updates empty refl,
    )

pub returns : goal.returns
returns c =
    let key = c.vacant_key-key.result in
    let root : Group = record { key = key; serial = c.args.first_serial } in
    let n : Cgroup = record { group = root; parent = None; name = c.new-2.result; shares = c.in_ok-shares.shares } in
    let items : c.push_front.new.self.items ≡ key ∷ [] = c.in_ok-push_front.ensures.items ∙ ap (λ (l : List ℕ). key ∷ l) c.new-order.ensures.items in
    let changed : get c.insert_reserved.new.self key ≡ Some n =
    ap (λ (k : ℕ). get c.insert_reserved.new.self k) (c.vacant_key-key.ensures.value ∙ sym c.insert_reserved.ensures.key) ∙ c.insert_reserved.ensures.updates.changed in
    let shares_given : c.in_ok-shares.shares.value ≡ record { cpus = unrequested c.args.online; mems = unrequested c.args.nodes } = c.in_ok-shares.ensures.ok ∙ c.unrequested.ensures in
    let entry : entry_of_kept n ≡ new_entry root None [] =
    (λ i. record { group = root; parent = None; name = c.new-2.ensures.bytes i; cpus = (shares_given i).cpus.requested; mems = (shares_given i).mems.requested }) in
    record {
      root = root;
      serial = refl;
      is = λ i. record {
        groups = (ap (entries_kept c.insert_reserved.new.self) items ∙ listed_at c.insert_reserved.new.self key [] n changed ∙ ap (λ (e : GroupEntry). e ∷ []) entry) i;
        online = c.args.online;
        nodes = c.args.nodes;
        next_serial = c.args.first_serial + 1;
      };
    }
