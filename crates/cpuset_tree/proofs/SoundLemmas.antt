-- A tree stays sound through each of its changes.
use Rattle.std.proofs.Common.{◌≡◌, ℕ, ◌+◌, true, false, not, List, ◌∷◌, refl, sym, ap, ◌∙◌, subst, eq-eqb, arith, filter}
use Rattle.std.proofs.lemmas.Bool.{or_left, or_right, both_ways}
use Rattle.std.proofs.lemmas.Option.{same_Some, none-some}
use Rattle.std.specs.Prelude.{Option, Some, None, is_some, is_none, ◌==◌}
use Rattle.std.specs.List.{list_any}
use Rattle.slab.specs.Slab.{Slab, get, Updates}
use Rattle.cpu_set.specs.Ids.{Ids}
use Rattle.cpuset_tree.specs.declared.groups.Group.{Group}
use Rattle.cpuset_tree.specs.declared.groups.Cgroup.{Cgroup}
use Rattle.cpuset_tree.specs.declared.groups.Resource.{Resource}
use Rattle.cpuset_tree.specs.declared.groups.Share.{Share}
use Rattle.cpuset_tree.specs.TreeState.{GroupEntry}
use Rattle.cpuset_tree.specs.Groups.{same_group, entry_among, root_among, has_child_among}
use Rattle.cpuset_tree.specs.Effective.{granted, standing, effective}
use Rattle.cpuset_tree.specs.Kept.{entry_of_kept, entries_kept, HasParentAmong, IsInOrder, share_of, unrequested, requested_of, top_of, AllKept, KeepsEffective, IsSound}
use Rattle.cpuset_tree.specs.GrantedLemmas.{granted-empty}
use Rattle.cpuset_tree.proofs.KeptLemmas.{listed_at, vacant_is_absent, listed-others, AllKept-others}
use Rattle.cpuset_tree.proofs.PlaceLemmas.{SamePlaces, IsInOrder-same, complete-same, root-same}
use Rattle.cpuset_tree.proofs.ChangeLemmas.{IsInOrder-others, IsInOrder-removed, AllKept-removed, complete-removed, root-removed}

-- room for more groups changes none
pub IsSound-room : (s : Slab Cgroup) (room : ℕ) (keys : List ℕ) (online nodes : Ids) (root : Group) (next : ℕ)
    → IsSound s keys online nodes root next → IsSound (record s { capacity = room }) keys online nodes root next
IsSound-room s room keys online nodes root next h = record { in_order = h.in_order; all_kept = h.all_kept; complete = h.complete; rooted = h.rooted }

-- one group more
module _ (old new : Slab Cgroup) (keys : List ℕ) (online nodes : Ids) (root : Group) (next key : ℕ) (n : Cgroup)
    (sound : IsSound old keys online nodes root next) (updates : Updates old new key (Some n)) (vacant : get old key ≡ None) where
  absent : list_any (λ k. k == key) keys ≡ false
  absent = vacant_is_absent old next keys sound.in_order key vacant

  same_older : entries_kept new keys ≡ entries_kept old keys
  same_older = listed-others old new key updates.others keys absent

  pub listed-added : (e : GroupEntry) → entry_of_kept n ≡ e → entries_kept new (key ∷ keys) ≡ e ∷ entries_kept old keys
  listed-added e is = listed_at new key keys n updates.changed ∙ ap (λ (x : GroupEntry). x ∷ entries_kept new keys) is ∙ ap (λ (l : List GroupEntry). e ∷ l) same_older

  pub IsSound-added : (p : Group) → n.group.key ≡ key → n.group.serial ≡ next → n.parent ≡ Some p → is_some (entry_among (entries_kept old keys) p) ≡ true
      → ((r : Resource) → share_of r n ≡ unrequested (effective (requested_of r) (top_of r online nodes) (entries_kept old keys) p))
      → IsSound new (key ∷ keys) online nodes root (next + 1)
  IsSound-added p knows serial of there shares = record {
    in_order = (
      n,
      updates.changed,
      knows,
      omega arith,
      parent_is,
      subst (λ (m : ℕ). IsInOrder new m keys) (sym serial) (IsInOrder-others old new key updates.others next keys absent sound.in_order),
    );
    all_kept = λ r. (
      (λ m at. subst (λ (x : Cgroup). KeepsEffective r (top_of r online nodes) (entries_kept new keys) x) (same_Some n m (sym updates.changed ∙ at)) (here r)),
      AllKept-others r old new (top_of r online nodes) key updates.others keys absent (sound.all_kept r),
    );
    complete = λ k at. elim (key == k) as (λ t. (key == k) ≡ t → list_any (λ j. j == k) (key ∷ keys) ≡ true) [
      | true ↦ λ e. or_left (key == k) (list_any (λ j. j == k) keys) e
      | false ↦ λ e.
          or_right (key == k) (list_any (λ j. j == k) keys)
          (sound.complete k (ap is_some (sym (updates.others k (λ is. both_ways (key == k) e (eq-eqb key k (sym is))))) ∙ at))
    ] refl;
    rooted =
        ap root_among (listed_at new key keys n updates.changed)
        ∙ elder n.parent of
        ∙ ap root_among same_older ∙ sound.rooted;
  }
    where
      parent_is : HasParentAmong new n.parent keys
      parent_is = subst (λ (o : Option Group). HasParentAmong new o keys) (sym of)
          (ap (λ (l : List GroupEntry). is_some (entry_among l p)) same_older ∙ there)

      here : (r : Resource) → KeepsEffective r (top_of r online nodes) (entries_kept new keys) n
      here r =
          let above : Ids = effective (requested_of r) (top_of r online nodes) (entries_kept old keys) p in
          subst (λ (l : List GroupEntry). KeepsEffective r (top_of r online nodes) l n) (sym same_older)
          (ap (λ (x : Share). x.effective) (shares r) ∙ sym (granted-empty above)
          ∙ ap (λ (x : Share). granted x.requested above) (sym (shares r))
          ∙ ap (λ (o : Option Group). standing o (share_of r n).requested (top_of r online nodes) (effective (requested_of r) (top_of r online nodes) (entries_kept old keys))) (sym of))

      elder : (parent : Option Group) → parent ≡ Some p → root_among (record { group = n.group; parent = parent; name = (entry_of_kept n).name; cpus = n.shares.value.cpus.requested; mems = n.shares.value.mems.requested } ∷ entries_kept new keys) ≡ root_among (entries_kept new keys)
      elder None e = absurd (none-some p e)
      elder (Some q) e = refl

-- places stay, and what is kept is right again
pub IsSound-same : (old new : Slab Cgroup) (keys : List ℕ) (online nodes online' nodes' : Ids) (root : Group) (next : ℕ) → IsSound old keys online nodes root next
    → SamePlaces old new → ((r : Resource) → AllKept r new (top_of r online' nodes') keys) → IsSound new keys online' nodes' root next
IsSound-same old new keys online nodes online' nodes' root next sound same kept = record {
  in_order = IsInOrder-same old new same next keys sound.in_order;
  all_kept = kept;
  complete = complete-same old new same keys sound.complete;
  rooted = root-same old new same keys ∙ sound.rooted;
}

-- one group less
pub IsSound-removed : (old new : Slab Cgroup) (g : Group) (n : Cgroup) (keys : List ℕ) (online nodes : Ids) (root : Group) (next : ℕ) → IsSound old keys online nodes root next
    → get old g.key ≡ Some n → same_group n.group g ≡ true → is_none n.parent ≡ false → has_child_among (entries_kept old keys) g ≡ false
    → Updates old new g.key None → IsSound new (filter (λ k. not (k == g.key)) keys) online nodes root next
IsSound-removed old new g n keys online nodes root next sound at same child childless updates = record {
  in_order = IsInOrder-removed old new g n at same updates.others next keys sound.in_order childless;
  all_kept = λ r. AllKept-removed old new g n at same updates.others r (top_of r online nodes) next keys sound.in_order childless (sound.all_kept r);
  complete = complete-removed old new g n at same updates.others keys updates.changed sound.complete;
  rooted = root-removed old new g n at same updates.others child next keys sound.in_order ∙ sound.rooted;
}
