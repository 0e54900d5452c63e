-- A change that leaves each group and its parent where they are keeps the order.
use Rattle.std.proofs.Common.{◌≡◌, ℕ, ◌<◌, true, false, List, [], ◌∷◌, refl, sym, ap, ◌∙◌, subst, map}
use Rattle.std.proofs.lemmas.Bool.{cases_eq}
use Rattle.std.specs.Prelude.{Option, Some, None, is_some, is_none, option_map, find, ◌==◌}
use Rattle.std.proofs.Common.{⊎_elim}
use Rattle.std.specs.List.{list_any}
use Rattle.faults.specs.TestLaws.{mapped}
use Rattle.slab.specs.Slab.{Slab, get}
use Rattle.cpuset_tree.specs.declared.groups.Group.{Group}
use Rattle.cpuset_tree.specs.declared.groups.Cgroup.{Cgroup}
use Rattle.cpuset_tree.specs.declared.groups.Resource.{Resource}
use Rattle.cpuset_tree.specs.declared.groups.Resource.TheVariants.{Cpus, Mems}
use Rattle.cpuset_tree.specs.TreeState.{GroupEntry}
use Rattle.cpuset_tree.specs.Groups.{same_group, entry_among, root_among}
use Rattle.cpuset_tree.specs.Kept.{before, entries_kept, HasParentAmong, IsInOrder, IsOrder, ChangesAt, bare, OnlyKeptDiffers}

-- a group and its parent
abbrev pub place : Cgroup → Group × Option Group
place n = (n.group, n.parent)

abbrev pub entry_place : GroupEntry → Group × Option Group
entry_place e = (e.group, e.parent)

abbrev pub SamePlaces : Slab Cgroup → Slab Cgroup → Type 0
SamePlaces old new = (key : ℕ) → option_map place (get new key) ≡ option_map place (get old key)

is_some-option_map : {A B : Type 0} (f : A → B) (o : Option A) → is_some (option_map f o) ≡ is_some o
is_some-option_map f None = refl
is_some-option_map f (Some x) = refl

bare_place : (r : Resource) (o : Option Cgroup) → option_map place o ≡ option_map place (option_map (bare r) o)
bare_place r None = refl
bare_place Cpus (Some n) = refl
bare_place Mems (Some n) = refl

pub SamePlaces-from_kept : (r : Resource) (old new : Slab Cgroup) → OnlyKeptDiffers r old new → SamePlaces old new
SamePlaces-from_kept r old new same key = bare_place r (get new key) ∙ ap (option_map place) (same key) ∙ sym (bare_place r (get old key))

-- a change at one key that f makes
module _ (f : Cgroup → Cgroup) where
  map_map : {B : Type 0} (h : Cgroup → B) → ((n : Cgroup) → h (f n) ≡ h n) → (o : Option Cgroup) → option_map h (option_map f o) ≡ option_map h o
  map_map h same None = refl
  map_map h same (Some n) = ap Some (same n)

  pub same_from_change : {B : Type 0} (h : Cgroup → B) → ((n : Cgroup) → h (f n) ≡ h n) → (old new : Slab Cgroup) (key : ℕ) → ChangesAt old new key f
      → (k : ℕ) → option_map h (get new k) ≡ option_map h (get old k)
  same_from_change h same old new key change k =
      ⊎_elim
      (λ e. ap (λ (q : ℕ). option_map h (get new q)) e ∙ ap (option_map h) change.changed ∙ map_map h same (get old key) ∙ ap (λ (q : ℕ). option_map h (get old q)) (sym e))
      (λ ne. ap (option_map h) (change.others k ne))
      (cases_eq k key)

abbrev front : Option (Group × Option Group) → List (Group × Option Group) → List (Group × Option Group)
front None l = l
front (Some q) l = q ∷ l

before_places : (o : Option Cgroup) (l : List GroupEntry) → map entry_place (before o l) ≡ front (option_map place o) (map entry_place l)
before_places None l = refl
before_places (Some n) l = refl

module _ (old new : Slab Cgroup) (same : SamePlaces old new) where
  pub places-listed : (keys : List ℕ) → map entry_place (entries_kept new keys) ≡ map entry_place (entries_kept old keys)
  places-listed [] = refl
  places-listed (k ∷ older) =
      before_places (get new k) (entries_kept new older)
      ∙ ap (λ (o : Option (Group × Option Group)). front o (map entry_place (entries_kept new older))) (same k)
      ∙ ap (front (option_map place (get old k))) (places-listed older)
      ∙ sym (before_places (get old k) (entries_kept old older))

-- what is read of groups and parents alone
among-places : (groups : List GroupEntry) (p : Group) → is_some (entry_among groups p) ≡ list_any (λ q. same_group q.0 p) (map entry_place groups)
among-places [] p = refl
among-places (e ∷ older) p =
    elim (same_group e.group p) as (λ t. same_group e.group p ≡ t → is_some (entry_among (e ∷ older) p) ≡ list_any (λ q. same_group q.0 p) (map entry_place (e ∷ older))) [
      | true ↦ λ h. rw h
      | false ↦ λ h. rw h (among-places older p)
    ] refl

root-places : (groups : List GroupEntry) → root_among groups ≡ option_map (λ q. q.0) (find (λ q. is_none q.1) (map entry_place groups))
root-places [] = refl
root-places (e ∷ older) =
    elim (is_none e.parent) as (λ t. is_none e.parent ≡ t → root_among (e ∷ older) ≡ option_map (λ q. q.0) (find (λ q. is_none q.1) (map entry_place (e ∷ older)))) [
      | true ↦ λ h. rw h
      | false ↦ λ h. rw h (root-places older)
    ] refl

module _ (old new : Slab Cgroup) (same : SamePlaces old new) where
  pub among-same : (keys : List ℕ) (p : Group) → is_some (entry_among (entries_kept new keys) p) ≡ is_some (entry_among (entries_kept old keys) p)
  among-same keys p = among-places (entries_kept new keys) p ∙ ap (list_any (λ q. same_group q.0 p)) (places-listed old new same keys) ∙ sym (among-places (entries_kept old keys) p)

  pub root-same : (keys : List ℕ) → root_among (entries_kept new keys) ≡ root_among (entries_kept old keys)
  root-same keys =
      root-places (entries_kept new keys) ∙ ap (λ (l : List (Group × Option Group)). option_map (λ q. q.0) (find (λ q. is_none q.1) l)) (places-listed old new same keys)
      ∙ sym (root-places (entries_kept old keys))

  pub complete-same : (keys : List ℕ) → ((key : ℕ) → is_some (get old key) ≡ true → list_any (λ k. k == key) keys ≡ true)
      → (key : ℕ) → is_some (get new key) ≡ true → list_any (λ k. k == key) keys ≡ true
  complete-same keys complete key there =
      complete key (sym (is_some-option_map place (get old key)) ∙ ap is_some (sym (same key)) ∙ is_some-option_map place (get new key) ∙ there)

  parent-same : (parent : Option Group) (older : List ℕ) → HasParentAmong old parent older → HasParentAmong new parent older
  parent-same None older h = h
  parent-same (Some p) older h = among-same older p ∙ h

  pub IsInOrder-same : (next : ℕ) (keys : List ℕ) → IsInOrder old next keys → IsInOrder new next keys
  IsInOrder-same next [] _ = tt
  IsInOrder-same next (k ∷ older) (m, at, knows, below, parent, rest) =
      let moved : (n : Cgroup) × (get new k ≡ Some n) × (place n ≡ place m) = mapped place (get new k) (place m) (same k ∙ ap (option_map place) at) in
      let group : moved.0.group ≡ m.group = ap (λ q. q.0) moved.2 in
      let up : moved.0.parent ≡ m.parent = ap (λ q. q.1) moved.2 in (
        moved.0,
        moved.1,
        ap (λ (g : Group). g.key) group ∙ knows,
        subst (λ (g : Group). g.serial < next) (sym group) below,
        parent-same moved.0.parent older (subst (λ (o : Option Group). HasParentAmong old o older) (sym up) parent),
        subst (λ (g : Group). IsInOrder new g.serial older) (sym group) (IsInOrder-same m.group.serial older rest),
      )

  pub IsOrder-same : (keys : List ℕ) → IsOrder old keys → IsOrder new keys
  IsOrder-same keys order = (order.0, IsInOrder-same order.0 keys order.1)
