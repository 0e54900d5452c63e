use Rattle.std.proofs.Common.{◌≡◌, ℕ, ◌+◌, List, ◌∷◌, sym, ap, ◌∙◌, refl, subst, arith}
use Rattle.std.specs.Prelude.{Some, None, is_some, string_bytes}
use Rattle.slab.specs.Slab.{Slab, get, Updates}
use Rattle.cpu_set.specs.Ids.{Ids}
use Rattle.cpuset_tree.specs.declared.groups.Group.{Group}
use Rattle.cpuset_tree.specs.declared.groups.Cgroup.{Cgroup}
use Rattle.cpuset_tree.specs.declared.groups.Shares.{Shares}
use Rattle.cpuset_tree.specs.declared.groups.Resource.{Resource}
use Rattle.cpuset_tree.specs.declared.groups.Resource.TheVariants.{Cpus, Mems}
use Rattle.cpuset_tree.specs.TreeState.{GroupEntry, TreeState}
use Rattle.cpuset_tree.specs.Groups.{has_group}
use Rattle.cpuset_tree.specs.Effective.{effective, effective_cpus, effective_mems}
use Rattle.cpuset_tree.specs.TreeChanges.{new_entry}
use Rattle.cpuset_tree.specs.TreeAnswers.{AddsGroup}
use Rattle.cpuset_tree.specs.Kept.{IsSound, AreParentsUpTo, AreMarked, mark_of, entry_of_kept, entries_kept, share_of, unrequested, requested_of, top_of}
use Rattle.cpuset_tree.proofs.ChangeLemmas.{not_found}
use Rattle.cpuset_tree.proofs.SoundLemmas.{IsSound-room, IsSound-added, listed-added}
use Rattle.std.proofs.lemmas.Option.{none-some}
use Rattle.cpuset_tree.proofs.ParentLemmas.{AreParentsUpTo-added}
use Rattle.cpuset_tree.proofs.MarkLemmas.{AreMarked-vacant, AreMarked-added}
use Rattle.cpuset_tree.proofs.tree.Tree.add.Goals as goal

-- a new group has all of its parent's
all_of_parent : (online nodes : Ids) (groups : List GroupEntry) (p : Group) (n : Cgroup) → n.shares.value.cpus ≡ unrequested (effective (λ e. e.cpus) online groups p)
    → n.shares.value.mems ≡ unrequested (effective (λ e. e.mems) nodes groups p)
    → (r : Resource) → share_of r n ≡ unrequested (effective (requested_of r) (top_of r online nodes) groups p)
all_of_parent online nodes groups p n cpus mems Cpus = cpus
all_of_parent online nodes groups p n cpus mems Mems = mems

pub invariant_of-self : goal.invariant_of-self
invariant_of-self c =
    let i = c.self.inside in (
      subst (λ (s : Slab Cgroup). IsSound s i.order.items i.online i.nodes i.root i.next_serial) (sym c.in_err-reserve.ensures.rest_kept)
          (IsSound-room i.groups c.reserve.new.self.capacity i.order.items i.online i.nodes i.root i.next_serial c.self.invariant.0),
      subst (λ (s : Slab Cgroup). AreParentsUpTo s i.newest_parent) (sym c.in_err-reserve.ensures.rest_kept) c.self.invariant.1,
      subst (λ (s : Slab Cgroup). AreMarked s i.marks.items) (sym c.in_err-reserve.ensures.rest_kept) c.self.invariant.2,
    )

pub invariant_of-self-in_err-note_mark : goal.invariant_of-self-in_err-note_mark
invariant_of-self-in_err-note_mark c =
    let i = c.self.inside in (
      subst (λ (s : Slab Cgroup). IsSound s i.order.items i.online i.nodes i.root i.next_serial) (sym c.in_ok-reserve.ensures.rest_kept)
          (IsSound-room i.groups c.reserve.new.self.capacity i.order.items i.online i.nodes i.root i.next_serial c.self.invariant.0),
      subst (λ (s : Slab Cgroup). AreParentsUpTo s i.newest_parent) (sym c.in_ok-reserve.ensures.rest_kept) c.self.invariant.1,
      AreMarked-vacant c.reserve.new.self c.vacant_key.result i.marks.items c.note_mark.new.marks.items c.vacant_key.ensures.vacant c.note_mark.ensures.others
          (subst (λ (s : Slab Cgroup). AreMarked s i.marks.items) (sym c.in_ok-reserve.ensures.rest_kept) c.self.invariant.2),
    )

pub invariant_of-self-in_err-push_front : goal.invariant_of-self-in_err-push_front
invariant_of-self-in_err-push_front c =
    let i = c.self.inside in (
      subst (λ (s : Slab Cgroup). IsSound s c.push_front.new.self.items i.online i.nodes i.root i.next_serial) (sym c.in_ok-reserve.ensures.rest_kept)
          (subst (λ (l : List ℕ). IsSound (record i.groups { capacity = c.reserve.new.self.capacity }) l i.online i.nodes i.root i.next_serial) (sym c.in_err-push_front.ensures.items)
          (IsSound-room i.groups c.reserve.new.self.capacity i.order.items i.online i.nodes i.root i.next_serial c.self.invariant.0)),
      subst (λ (s : Slab Cgroup). AreParentsUpTo s i.newest_parent) (sym c.in_ok-reserve.ensures.rest_kept) c.self.invariant.1,
      AreMarked-vacant c.reserve.new.self c.vacant_key.result i.marks.items c.note_mark.new.marks.items c.vacant_key.ensures.vacant c.note_mark.ensures.others
          (subst (λ (s : Slab Cgroup). AreMarked s i.marks.items) (sym c.in_ok-reserve.ensures.rest_kept) c.self.invariant.2),
    )

pub invariant_of-self-2 : goal.invariant_of-self-2
invariant_of-self-2 c =
    let i = c.self.inside in
    let key = c.vacant_key.result in
    let g : Group = record { key = key; serial = i.next_serial } in
    let n : Cgroup = record { group = g; parent = Some c.args.parent; name = c.args.name; shares = c.in_ok-shares.shares } in
    let roomy : Slab Cgroup = record i.groups { capacity = c.reserve.new.self.capacity } in
    let kept : c.reserve.new.self ≡ roomy = c.in_ok-reserve.ensures.rest_kept in
    let updates : Updates c.reserve.new.self c.insert_reserved.new.self key (Some n) =
    subst (λ (k : ℕ). Updates c.reserve.new.self c.insert_reserved.new.self k (Some n)) (c.insert_reserved.ensures.key ∙ sym c.vacant_key.ensures.value) c.insert_reserved.ensures.updates in
    let cpus_given : c.in_ok-shares.shares.value.cpus ≡ unrequested (effective_cpus c.args.self.now c.args.parent) = ap (λ (x : Shares). x.cpus) c.in_ok-shares.ensures.ok ∙ c.requires.cpus in
    let mems_given : c.in_ok-shares.shares.value.mems ≡ unrequested (effective_mems c.args.self.now c.args.parent) = ap (λ (x : Shares). x.mems) c.in_ok-shares.ensures.ok ∙ c.requires.mems in
    let within = c.max-self-inside.ensures in (
      subst (λ (l : List ℕ). IsSound c.insert_reserved.new.self l i.online i.nodes i.root (i.next_serial + 1)) (sym c.in_ok-push_front.ensures.items)
          (IsSound-added roomy c.insert_reserved.new.self i.order.items i.online i.nodes i.root i.next_serial key n
          (IsSound-room i.groups c.reserve.new.self.capacity i.order.items i.online i.nodes i.root i.next_serial c.self.invariant.0)
          (subst (λ (s : Slab Cgroup). Updates s c.insert_reserved.new.self key (Some n)) kept updates)
          (ap (λ (s : Slab Cgroup). get s key) (sym kept) ∙ c.vacant_key.ensures.vacant)
          c.args.parent refl refl refl
          (ap (λ (s : TreeState). has_group s c.args.parent) c.self.view_is ∙ c.requires.parent)
          (all_of_parent i.online i.nodes (entries_kept i.groups i.order.items) c.args.parent n
          (cpus_given ∙ ap (λ (s : TreeState). unrequested (effective_cpus s c.args.parent)) (sym c.self.view_is))
          (mems_given ∙ ap (λ (s : TreeState). unrequested (effective_mems s c.args.parent)) (sym c.self.view_is)))),
      AreParentsUpTo-added roomy c.insert_reserved.new.self key i.newest_parent c.max-self-inside.result n c.args.parent
          (subst (λ (s : Slab Cgroup). Updates s c.insert_reserved.new.self key (Some n)) kept updates) refl (omega arith) (omega arith) c.self.invariant.1,
      AreMarked-added c.reserve.new.self c.insert_reserved.new.self key n c.args.parent c.note_mark.new.marks.items updates refl c.in_ok-note_mark.ensures.within
          (c.in_ok-note_mark.ensures.noted ∙ c.mark_of.ensures ∙ ap (mark_of c.args.parent) c.as_str.ensures.value)
          (AreMarked-vacant c.reserve.new.self key i.marks.items c.note_mark.new.marks.items c.vacant_key.ensures.vacant c.note_mark.ensures.others
          (subst (λ (s : Slab Cgroup). AreMarked s i.marks.items) (sym kept) c.self.invariant.2)),
    )

pub returns-clause-ok : goal.returns-clause-ok
returns-clause-ok c =
    let i = c.self.inside in
    let key = c.vacant_key.result in
    let g : Group = record { key = key; serial = i.next_serial } in
    let n : Cgroup = record { group = g; parent = Some c.args.parent; name = c.args.name; shares = c.in_ok-shares.shares } in
    let roomy : Slab Cgroup = record i.groups { capacity = c.reserve.new.self.capacity } in
    let kept : c.reserve.new.self ≡ roomy = c.in_ok-reserve.ensures.rest_kept in
    let sound : IsSound roomy i.order.items i.online i.nodes i.root i.next_serial = IsSound-room i.groups c.reserve.new.self.capacity i.order.items i.online i.nodes i.root i.next_serial c.self.invariant.0 in
    let vacant : get roomy key ≡ None = ap (λ (s : Slab Cgroup). get s key) (sym kept) ∙ c.vacant_key.ensures.vacant in
    let updates : Updates roomy c.insert_reserved.new.self key (Some n) =
    subst (λ (s : Slab Cgroup). Updates s c.insert_reserved.new.self key (Some n)) kept
    (subst (λ (k : ℕ). Updates c.reserve.new.self c.insert_reserved.new.self k (Some n)) (c.insert_reserved.ensures.key ∙ sym c.vacant_key.ensures.value) c.insert_reserved.ensures.updates) in
    let cpus_given : c.in_ok-shares.shares.value.cpus ≡ unrequested (effective_cpus c.args.self.now c.args.parent) = ap (λ (x : Shares). x.cpus) c.in_ok-shares.ensures.ok ∙ c.requires.cpus in
    let mems_given : c.in_ok-shares.shares.value.mems ≡ unrequested (effective_mems c.args.self.now c.args.parent) = ap (λ (x : Shares). x.mems) c.in_ok-shares.ensures.ok ∙ c.requires.mems in
    let entry : entry_of_kept n ≡ new_entry g (Some c.args.parent) (string_bytes c.args.name) =
    (λ j. record { group = g; parent = Some c.args.parent; name = string_bytes c.args.name; cpus = (cpus_given j).requested; mems = (mems_given j).requested }) in
    let groups : entries_kept c.insert_reserved.new.self c.push_front.new.self.items ≡ new_entry g (Some c.args.parent) (string_bytes c.args.name) ∷ entries_kept i.groups i.order.items =
    ap (entries_kept c.insert_reserved.new.self) c.in_ok-push_front.ensures.items
    ∙ listed-added roomy c.insert_reserved.new.self i.order.items i.online i.nodes i.root i.next_serial key n sound updates vacant _ entry in
    let old : TreeState = record { groups = entries_kept i.groups i.order.items; online = i.online; nodes = i.nodes; next_serial = i.next_serial } in
    let is : old ≡ c.args.self.now = c.self.view_is in
    subst (λ (s : TreeState). AddsGroup s c.args.parent (string_bytes c.args.name) g (record { groups = entries_kept c.insert_reserved.new.self c.push_front.new.self.items; online = i.online; nodes = i.nodes; next_serial = i.next_serial + 1 })) is
    (record {
      serial = refl;
      fresh = ap is_some (not_found i.groups i.next_serial i.order.items c.self.invariant.0.in_order g (λ m at. absurd (none-some m (sym vacant ∙ at))));
      added = λ j. record { groups = groups j; online = i.online; nodes = i.nodes; next_serial = i.next_serial + 1 };
    })
