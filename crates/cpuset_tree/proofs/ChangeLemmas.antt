-- What a write, a new group and a removal leave of what is listed and kept.
use Rattle.std.proofs.Common.{◌≡◌, ◌≢◌, ℕ, ◌≤◌, true, false, not, ◌||◌, List, [], ◌∷◌, refl, sym, ap, ◌∙◌, subst, eq-eqb, eqb-true, arith, map, filter, ⊎_elim}
use Rattle.std.proofs.lemmas.Bool.{or_parts, or_left, or_right, ne_eqb, cond-true, cond-false, both_ways, cases_eq}
use Rattle.std.proofs.lemmas.Option.{same_Some}
use Rattle.std.specs.Prelude.{Option, Some, None, is_some, is_none, option_map, find, ◌==◌}
use Rattle.std.specs.List.{list_any}
use Rattle.slab.specs.Slab.{Slab, get}
use Rattle.cpu_set.specs.Ids.{Ids}
use Rattle.cpuset_tree.specs.declared.groups.Group.{Group}
use Rattle.cpuset_tree.specs.declared.groups.Cgroup.{Cgroup}
use Rattle.cpuset_tree.specs.declared.groups.Resource.{Resource}
use Rattle.cpuset_tree.specs.TreeState.{GroupEntry}
use Rattle.cpuset_tree.specs.Groups.{same_group, is_parent, has_child_among, entry_among, root_among}
use Rattle.cpuset_tree.specs.Kept.{entry_of_kept, entries_kept, HasParentAmong, IsInOrder, share_of, requested_of, KeepsEffective, AllKept, ChangesAt}
use Rattle.cpuset_tree.specs.GroupLemmas.{same_group-key, same_group_sym, other_key, entry_among-here, entry_among-there, entry_among-without, effective-without, standing_alike}
use Rattle.cpuset_tree.proofs.KeptLemmas.{listed_at, listed-others}

-- a bound on the serials may be raised
pub IsInOrder-below : (s : Slab Cgroup) (next more : ℕ) (keys : List ℕ) → next ≤ more → IsInOrder s next keys → IsInOrder s more keys
IsInOrder-below s next more [] le _ = tt
IsInOrder-below s next more (k ∷ older) le (m, at, knows, below, parent, rest) = (m, at, knows, omega arith, parent, rest)

-- what a write of one group leaves of the list
module _ (old new : Slab Cgroup) (g : Group) (f : Cgroup → Cgroup) (r : GroupEntry → GroupEntry)
    (here : (m : Cgroup) → same_group m.group g ≡ true → entry_of_kept (f m) ≡ r (entry_of_kept m))
    (there : (m : Cgroup) → same_group m.group g ≡ false → entry_of_kept m ≡ r (entry_of_kept m)) where
  pub listed-written : (next : ℕ) (keys : List ℕ) → IsInOrder old next keys → ChangesAt old new g.key f
      → (n : Cgroup) → get old g.key ≡ Some n → same_group n.group g ≡ true → entries_kept new keys ≡ map r (entries_kept old keys)
  listed-written next [] _ change n at same = refl
  listed-written next (k ∷ older) (m, at_k, knows, below, parent, rest) change n at same =
      elim (k == g.key) as (λ t. (k == g.key) ≡ t → entries_kept new (k ∷ older) ≡ map r (entries_kept old (k ∷ older))) [
        | true ↦ λ e.
            let key : k ≡ g.key = eqb-true k g.key e in
            let one : m ≡ n = same_Some m n (sym at_k ∙ ap (get old) key ∙ at) in
            listed_at new k older (f m) (ap (get new) key ∙ change.changed ∙ ap (option_map f) (ap (get old) (sym key) ∙ at_k))
            ∙ ap (λ (e : GroupEntry). e ∷ entries_kept new older) (here m (ap (λ (x : Cgroup). same_group x.group g) one ∙ same))
            ∙ ap (λ (l : List GroupEntry). r (entry_of_kept m) ∷ l) (listed-written m.group.serial older rest change n at same)
            ∙ sym (ap (map r) (listed_at old k older m at_k))
        | false ↦ λ e.
            let ne : k ≢ g.key = λ is. both_ways (k == g.key) e (eq-eqb k g.key is) in
            listed_at new k older m (change.others k ne ∙ at_k)
            ∙ ap (λ (e : GroupEntry). e ∷ entries_kept new older) (there m (other_key m.group g (λ is. ne (sym knows ∙ is))))
            ∙ ap (λ (l : List GroupEntry). r (entry_of_kept m) ∷ l) (listed-written m.group.serial older rest change n at same)
            ∙ sym (ap (map r) (listed_at old k older m at_k))
      ] refl

-- the order is that of the groups, which a change of another key leaves
pub IsInOrder-others : (old new : Slab Cgroup) (key : ℕ) → ((other : ℕ) → other ≢ key → get new other ≡ get old other)
    → (next : ℕ) (keys : List ℕ) → list_any (λ k. k == key) keys ≡ false → IsInOrder old next keys → IsInOrder new next keys
IsInOrder-others old new key others next [] none _ = tt
IsInOrder-others old new key others next (k ∷ older) none (m, at, knows, below, parent, rest) =
    let parts : ((k == key) ≡ false) × (list_any (λ k. k == key) older ≡ false) = or_parts (k == key) (list_any (λ k. k == key) older) none in (
      m,
      others k (λ e. both_ways (k == key) parts.0 (eq-eqb k key e)) ∙ at,
      knows,
      below,
      parent_kept m.parent parts.1 parent,
      IsInOrder-others old new key others m.group.serial older parts.1 rest,
    )
  where
    parent_kept : (parent : Option Group) → list_any (λ k. k == key) older ≡ false → HasParentAmong old parent older → HasParentAmong new parent older
    parent_kept None absent h = h
    parent_kept (Some p) absent h = ap (λ (l : List GroupEntry). is_some (entry_among l p)) (listed-others old new key others older absent) ∙ h

-- the group of a handle is found
pub found : (s : Slab Cgroup) (next : ℕ) (keys : List ℕ) → IsInOrder s next keys → (g : Group) (n : Cgroup) → get s g.key ≡ Some n → same_group n.group g ≡ true
    → list_any (λ k. k == g.key) keys ≡ true → entry_among (entries_kept s keys) g ≡ Some (entry_of_kept n)
found s next [] _ g n at same there = absurd (both_ways false refl there)
found s next (k ∷ older) (m, at_k, knows, below, parent, rest) g n at same there =
    ap (λ (l : List GroupEntry). entry_among l g) (listed_at s k older m at_k)
    ∙ elim (k == g.key) as (λ t. (k == g.key) ≡ t → entry_among (entry_of_kept m ∷ entries_kept s older) g ≡ Some (entry_of_kept n)) [
      | true ↦ λ e.
          let one : m ≡ n = same_Some m n (sym at_k ∙ ap (get s) (eqb-true k g.key e) ∙ at) in
          entry_among-here (entry_of_kept m) (entries_kept s older) g (ap (λ (x : Cgroup). same_group x.group g) one ∙ same)
          ∙ ap (λ (x : Cgroup). Some (entry_of_kept x)) one
      | false ↦ λ e.
          entry_among-there (entry_of_kept m) (entries_kept s older) g (other_key m.group g (λ is. both_ways (k == g.key) e (eq-eqb k g.key (sym knows ∙ is))))
          ∙ found s m.group.serial older rest g n at same (ap (λ b. b || list_any (λ k. k == g.key) older) (sym e) ∙ there)
    ] refl

-- a handle whose key has no group, or another one, is of no group
pub not_found : (s : Slab Cgroup) (next : ℕ) (keys : List ℕ) → IsInOrder s next keys → (g : Group)
    → ((n : Cgroup) → get s g.key ≡ Some n → same_group n.group g ≡ false) → entry_among (entries_kept s keys) g ≡ None
not_found s next [] _ g other = refl
not_found s next (k ∷ older) (m, at, knows, below, parent, rest) g other =
    ap (λ (l : List GroupEntry). entry_among l g) (listed_at s k older m at)
    ∙ elim (same_group m.group g) as (λ t. same_group m.group g ≡ t → entry_among (entry_of_kept m ∷ entries_kept s older) g ≡ None) [
      | true ↦ λ e. absurd (both_ways (same_group m.group g) (other m (ap (get s) (sym (sym knows ∙ same_group-key m.group g e)) ∙ at)) e)
      | false ↦ λ e. entry_among-there (entry_of_kept m) (entries_kept s older) g e ∙ not_found s m.group.serial older rest g other
    ] refl

-- one group is removed, which has no children and is not the root
module _ (old new : Slab Cgroup) (g : Group) (n : Cgroup) (at_g : get old g.key ≡ Some n) (same_g : same_group n.group g ≡ true)
    (others : (other : ℕ) → other ≢ g.key → get new other ≡ get old other) where
  -- the keys without the group's
  abbrev kept_keys : List ℕ → List ℕ
  kept_keys keys = filter (λ k. not (k == g.key)) keys

  abbrev kept_groups : List GroupEntry → List GroupEntry
  kept_groups groups = filter (λ e. not (same_group e.group g)) groups

  is_it : (k : ℕ) (m : Cgroup) → get old k ≡ Some m → (k == g.key) ≡ true → same_group m.group g ≡ true
  is_it k m at_k e = ap (λ (x : Cgroup). same_group x.group g) (same_Some m n (sym at_k ∙ ap (get old) (eqb-true k g.key e) ∙ at_g)) ∙ same_g

  is_other : (k : ℕ) (m : Cgroup) → m.group.key ≡ k → (k == g.key) ≡ false → same_group m.group g ≡ false
  is_other k m knows e = other_key m.group g (λ is. both_ways (k == g.key) e (eq-eqb k g.key (sym knows ∙ is)))

  kept_at : (k : ℕ) → (k == g.key) ≡ false → get new k ≡ get old k
  kept_at k e = others k (λ is. both_ways (k == g.key) e (eq-eqb k g.key is))

  drops_key : (k : ℕ) (older : List ℕ) → (k == g.key) ≡ true → kept_keys (k ∷ older) ≡ kept_keys older
  drops_key k older e = cond-false (not (k == g.key)) (k ∷ kept_keys older) (kept_keys older) (ap not e)

  keeps_key : (k : ℕ) (older : List ℕ) → (k == g.key) ≡ false → kept_keys (k ∷ older) ≡ k ∷ kept_keys older
  keeps_key k older e = cond-true (not (k == g.key)) (k ∷ kept_keys older) (kept_keys older) (ap not e)

  drops_group : (e : GroupEntry) (older : List GroupEntry) → same_group e.group g ≡ true → kept_groups (e ∷ older) ≡ kept_groups older
  drops_group e older is = cond-false (not (same_group e.group g)) (e ∷ kept_groups older) (kept_groups older) (ap not is)

  keeps_group : (e : GroupEntry) (older : List GroupEntry) → same_group e.group g ≡ false → kept_groups (e ∷ older) ≡ e ∷ kept_groups older
  keeps_group e older is = cond-true (not (same_group e.group g)) (e ∷ kept_groups older) (kept_groups older) (ap not is)

  pub listed-removed : (next : ℕ) (keys : List ℕ) → IsInOrder old next keys → entries_kept new (kept_keys keys) ≡ kept_groups (entries_kept old keys)
  listed-removed next [] _ = refl
  listed-removed next (k ∷ older) (m, at, knows, below, parent, rest) =
      elim (k == g.key) as (λ t. (k == g.key) ≡ t → entries_kept new (kept_keys (k ∷ older)) ≡ kept_groups (entries_kept old (k ∷ older))) [
        | true ↦ λ e.
            ap (entries_kept new) (drops_key k older e) ∙ listed-removed m.group.serial older rest
            ∙ sym (ap kept_groups (listed_at old k older m at) ∙ drops_group (entry_of_kept m) (entries_kept old older) (is_it k m at e))
        | false ↦ λ e.
            ap (entries_kept new) (keeps_key k older e) ∙ listed_at new k (kept_keys older) m (kept_at k e ∙ at)
            ∙ ap (λ (l : List GroupEntry). entry_of_kept m ∷ l) (listed-removed m.group.serial older rest)
            ∙ sym (ap kept_groups (listed_at old k older m at) ∙ keeps_group (entry_of_kept m) (entries_kept old older) (is_other k m knows e))
      ] refl

  -- nobody's parent was removed
  parts_of : (k : ℕ) (older : List ℕ) (m : Cgroup) → get old k ≡ Some m → has_child_among (entries_kept old (k ∷ older)) g ≡ false
      → (is_parent m.parent g ≡ false) × (has_child_among (entries_kept old older) g ≡ false)
  parts_of k older m at none =
      or_parts (is_parent m.parent g) (has_child_among (entries_kept old older) g) (sym (ap (λ (l : List GroupEntry). has_child_among l g) (listed_at old k older m at)) ∙ none)

  parent-removed : (parent : Option Group) (next : ℕ) (older : List ℕ) → IsInOrder old next older → is_parent parent g ≡ false → HasParentAmong old parent older
      → HasParentAmong new parent (kept_keys older)
  parent-removed None next older rest none h = ap kept_keys h
  parent-removed (Some p) next older rest none h =
      ap (λ (l : List GroupEntry). is_some (entry_among l p)) (listed-removed next older rest)
      ∙ ap is_some (entry_among-without g (entries_kept old older) p (same_group_sym g p ∙ none)) ∙ h

  pub IsInOrder-removed : (next : ℕ) (keys : List ℕ) → IsInOrder old next keys → has_child_among (entries_kept old keys) g ≡ false → IsInOrder new next (kept_keys keys)
  IsInOrder-removed next [] _ none = tt
  IsInOrder-removed next (k ∷ older) (m, at, knows, below, parent, rest) none =
      let parts : (is_parent m.parent g ≡ false) × (has_child_among (entries_kept old older) g ≡ false) = parts_of k older m at none in
      elim (k == g.key) as (λ t. (k == g.key) ≡ t → IsInOrder new next (kept_keys (k ∷ older))) [
        | true ↦ λ e.
            subst (λ (l : List ℕ). IsInOrder new next l) (sym (drops_key k older e))
            (IsInOrder-below new m.group.serial next (kept_keys older) (omega arith) (IsInOrder-removed m.group.serial older rest parts.1))
        | false ↦ λ e.
            subst (λ (l : List ℕ). IsInOrder new next l) (sym (keeps_key k older e))
            (m, kept_at k e ∙ at, knows, below, parent-removed m.parent m.group.serial older rest parts.0 parent, IsInOrder-removed m.group.serial older rest parts.1)
      ] refl

  kept-removed : (r : Resource) (top : Ids) (next : ℕ) (older : List ℕ) (m : Cgroup) → IsInOrder old next older → is_parent m.parent g ≡ false
      → has_child_among (entries_kept old older) g ≡ false → KeepsEffective r top (entries_kept old older) m → KeepsEffective r top (entries_kept new (kept_keys older)) m
  kept-removed r top next older m rest none childless kept =
      subst (λ (l : List GroupEntry). KeepsEffective r top l m) (sym (listed-removed next older rest))
      (kept ∙ standing_alike (requested_of r) top m.parent (share_of r m).requested _ _ (λ p of. sym (effective-without (requested_of r) top g (entries_kept old older) childless p (other p of))))
    where
      other : (p : Group) → m.parent ≡ Some p → same_group g p ≡ false
      other p of = same_group_sym g p ∙ ap (λ (o : Option Group). is_parent o g) (sym of) ∙ none

  pub AllKept-removed : (r : Resource) (top : Ids) (next : ℕ) (keys : List ℕ) → IsInOrder old next keys → has_child_among (entries_kept old keys) g ≡ false
      → AllKept r old top keys → AllKept r new top (kept_keys keys)
  AllKept-removed r top next [] _ none kept = tt
  AllKept-removed r top next (k ∷ older) (m, at, knows, below, parent, rest) none kept =
      let parts : (is_parent m.parent g ≡ false) × (has_child_among (entries_kept old older) g ≡ false) = parts_of k older m at none in
      elim (k == g.key) as (λ t. (k == g.key) ≡ t → AllKept r new top (kept_keys (k ∷ older))) [
        | true ↦ λ e.
            subst (λ (l : List ℕ). AllKept r new top l) (sym (drops_key k older e)) (AllKept-removed r top m.group.serial older rest parts.1 kept.1)
        | false ↦ λ e.
            subst (λ (l : List ℕ). AllKept r new top l) (sym (keeps_key k older e)) (
              (λ x is.
                  let one : m ≡ x = same_Some m x (sym at ∙ sym (kept_at k e) ∙ is) in
                  subst (λ (y : Cgroup). KeepsEffective r top (entries_kept new (kept_keys older)) y) one
                  (kept-removed r top m.group.serial older m rest parts.0 parts.1 (kept.0 m at))),
              AllKept-removed r top m.group.serial older rest parts.1 kept.1,
            )
      ] refl

  pub complete-removed : (keys : List ℕ) → get new g.key ≡ None → ((key : ℕ) → is_some (get old key) ≡ true → list_any (λ k. k == key) keys ≡ true)
      → (key : ℕ) → is_some (get new key) ≡ true → list_any (λ k. k == key) (kept_keys keys) ≡ true
  complete-removed keys gone complete key there =
      ⊎_elim
      (λ e. absurd (both_ways false refl (sym (ap is_some gone) ∙ ap (λ (q : ℕ). is_some (get new q)) (sym e) ∙ there)))
      (λ ne. still keys key ne (complete key (ap is_some (sym (others key ne)) ∙ there)))
      (cases_eq key g.key)
    where
      still : (keys : List ℕ) (key : ℕ) → key ≢ g.key → list_any (λ k. k == key) keys ≡ true → list_any (λ k. k == key) (kept_keys keys) ≡ true
      still [] key ne there = there
      still (k ∷ older) key ne there =
          elim (k == g.key) as (λ t. (k == g.key) ≡ t → list_any (λ k. k == key) (kept_keys (k ∷ older)) ≡ true) [
            | true ↦ λ e.
                ap (list_any (λ k. k == key)) (drops_key k older e)
                ∙ still older key ne (ap (λ b. b || list_any (λ k. k == key) older) (sym (ne_eqb k key (λ is. ne (sym is ∙ eqb-true k g.key e)))) ∙ there)
            | false ↦ λ e.
                ap (list_any (λ k. k == key)) (keeps_key k older e)
                ∙ elim (k == key) as (λ t. (k == key) ≡ t → list_any (λ k. k == key) (k ∷ kept_keys older) ≡ true) [
                  | true ↦ λ is. or_left (k == key) (list_any (λ k. k == key) (kept_keys older)) is
                  | false ↦ λ is.
                      or_right (k == key) (list_any (λ k. k == key) (kept_keys older))
                      (still older key ne (ap (λ b. b || list_any (λ k. k == key) older) (sym is) ∙ there))
                ] refl
          ] refl

  pub root-removed : is_none n.parent ≡ false → (next : ℕ) (keys : List ℕ) → IsInOrder old next keys
      → root_among (entries_kept new (kept_keys keys)) ≡ root_among (entries_kept old keys)
  root-removed child next keys order = ap root_among (listed-removed next keys order) ∙ stays next keys order
    where
      stays : (next : ℕ) (keys : List ℕ) → IsInOrder old next keys → root_among (kept_groups (entries_kept old keys)) ≡ root_among (entries_kept old keys)
      stays next [] _ = refl
      stays next (k ∷ older) (m, at, knows, below, parent, rest) =
          elim (k == g.key) as (λ t. (k == g.key) ≡ t → root_among (kept_groups (entries_kept old (k ∷ older))) ≡ root_among (entries_kept old (k ∷ older))) [
            | true ↦ λ e.
                let child_m : is_none m.parent ≡ false =
                ap (λ (x : Cgroup). is_none x.parent) (same_Some m n (sym at ∙ ap (get old) (eqb-true k g.key e) ∙ at_g)) ∙ child in
                ap (λ (l : List GroupEntry). root_among (kept_groups l)) (listed_at old k older m at)
                ∙ ap root_among (drops_group (entry_of_kept m) (entries_kept old older) (is_it k m at e))
                ∙ stays m.group.serial older rest
                ∙ sym (ap root_among (listed_at old k older m at) ∙ ap (option_map (λ e. e.group)) (cond-false (is_none m.parent) (Some (entry_of_kept m)) (find (λ e. is_none e.parent) (entries_kept old older)) child_m))
            | false ↦ λ e.
                ap (λ (l : List GroupEntry). root_among (kept_groups l)) (listed_at old k older m at)
                ∙ ap root_among (keeps_group (entry_of_kept m) (entries_kept old older) (is_other k m knows e))
                ∙ elim (is_none m.parent) as (λ t. is_none m.parent ≡ t → root_among (entry_of_kept m ∷ kept_groups (entries_kept old older)) ≡ root_among (entry_of_kept m ∷ entries_kept old older)) [
                  | true ↦ λ h. rw h
                  | false ↦ λ h. rw h (stays m.group.serial older rest)
                ] refl
                ∙ sym (ap root_among (listed_at old k older m at))
          ] refl
