-- What a tree keeps of its groups, through a change of one of them.
use Rattle.std.proofs.Common.{◌≡◌, ◌≢◌, ℕ, ◌≤◌, ◌++◌, true, false, List, [], ◌∷◌, refl, sym, ap, ◌∙◌, subst, eq-eqb, eqb-true, arith, drop, suc, zero}
use Rattle.std.proofs.lemmas.Bool.{or_parts, both_ways}
use Rattle.std.proofs.lemmas.Option.{same_Some, none-some}
use Rattle.std.specs.Prelude.{Option, Some, None, is_some, option_map, Bool, ◌==◌, ◌&&◌, nat_eq}
use Rattle.std.specs.List.{find, list_any}
use Rattle.std.specs.Option.{option_or}
use Rattle.std.specs.Cmp.Lexicographic.{pointwise}
use Rattle.std.proofs.lemmas.List.Folds.{find-append}
use Rattle.slab.specs.Slab.{Slab, get}
use Rattle.cpu_set.specs.Ids.{Ids}
use Rattle.cpuset_tree.specs.declared.groups.Group.{Group}
use Rattle.cpuset_tree.specs.declared.groups.Cgroup.{Cgroup}
use Rattle.cpuset_tree.specs.declared.groups.Resource.{Resource}
use Rattle.cpuset_tree.specs.declared.groups.Resource.TheVariants.{Cpus, Mems}
use Rattle.cpuset_tree.specs.TreeState.{GroupEntry}
use Rattle.cpuset_tree.specs.Groups.{same_group, entry_among, is_parent, child_among}
use Rattle.cpuset_tree.specs.Effective.{standing, effective}
use Rattle.cpuset_tree.specs.TreeWellFormed.{ParentIsAmong, IsFalling}
use Rattle.cpuset_tree.specs.Kept.{entry_of_kept, before, entries_kept, HasParentAmong, IsInOrder, IsOrder, share_of, requested_of, KeepsEffective, AllKept, effective_kept}
use Rattle.cpuset_tree.specs.GroupLemmas.{same_group-key, entry_among-there, effective-here, effective-there}

-- the group under a key that has one stands before the older ones
pub listed_at : (s : Slab Cgroup) (key : ℕ) (older : List ℕ) (n : Cgroup) → get s key ≡ Some n → entries_kept s (key ∷ older) ≡ entry_of_kept n ∷ entries_kept s older
listed_at s key older n at = ap (λ (o : Option Cgroup). before o (entries_kept s older)) at

-- the groups of two lists of keys
before-append : (kept : Option Cgroup) (xs ys : List GroupEntry) → before kept (xs ++ ys) ≡ before kept xs ++ ys
before-append None xs ys = refl
before-append (Some n) xs ys = refl

pub listed-append : (s : Slab Cgroup) (keys more : List ℕ) → entries_kept s (keys ++ more) ≡ entries_kept s keys ++ entries_kept s more
listed-append s [] more = refl
listed-append s (key ∷ keys) more =
    ap (λ (l : List GroupEntry). before (get s key) l) (listed-append s keys more) ∙ before-append (get s key) (entries_kept s keys) (entries_kept s more)

-- a child among the groups of two lists of keys
mapped-or : (a b : Option GroupEntry) → option_map (λ (e : GroupEntry). e.group) (option_or a b)
    ≡ option_or (option_map (λ (e : GroupEntry). e.group) a) (option_map (λ (e : GroupEntry). e.group) b)
mapped-or None b = refl
mapped-or (Some e) b = refl

pub child_in_two : (s : Slab Cgroup) (newer older keys : List ℕ) (parent : Group) (name : List ℕ) → newer ++ older ≡ keys
    → child_among (entries_kept s keys) parent name ≡ option_or (child_among (entries_kept s newer) parent name) (child_among (entries_kept s older) parent name)
child_in_two s newer older keys parent name both =
    let is_it : GroupEntry → Bool = λ e. is_parent e.parent parent && pointwise nat_eq e.name name in
    ap (λ (k : List ℕ). child_among (entries_kept s k) parent name) (sym both)
    ∙ ap (λ (l : List GroupEntry). child_among l parent name) (listed-append s newer older)
    ∙ ap (λ (o : Option GroupEntry). option_map (λ (e : GroupEntry). e.group) o) (find-append is_it (entries_kept s newer) (entries_kept s older))
    ∙ mapped-or (find is_it (entries_kept s newer)) (find is_it (entries_kept s older))

-- a key whose group is as new as this is not among the older keys
pub key_is_absent : (s : Slab Cgroup) (next : ℕ) (keys : List ℕ) → IsInOrder s next keys → (key : ℕ) (n : Cgroup) → get s key ≡ Some n → next ≤ n.group.serial
    → list_any (λ k. k == key) keys ≡ false
key_is_absent s next [] _ key n at above = refl
key_is_absent s next (k ∷ older) (m, at_k, knows, below, parent, rest) key n at above =
    elim (k == key) as (λ t. (k == key) ≡ t → list_any (λ k. k == key) (k ∷ older) ≡ false) [
      | true ↦ λ e.
          let same : m ≡ n = same_Some m n (sym at_k ∙ ap (get s) (eqb-true k key e) ∙ at) in
          let serial : m.group.serial ≡ n.group.serial = ap (λ (x : Cgroup). x.group.serial) same in
          absurd (omega arith)
      | false ↦ λ e. ap (λ b. b) (rw e (key_is_absent s m.group.serial older rest key n at (omega arith)))
    ] refl

-- a key without a group is none of these
pub vacant_is_absent : (s : Slab Cgroup) (next : ℕ) (keys : List ℕ) → IsInOrder s next keys → (key : ℕ) → get s key ≡ None → list_any (λ k. k == key) keys ≡ false
vacant_is_absent s next [] _ key none = refl
vacant_is_absent s next (k ∷ older) (m, at_k, knows, below, parent, rest) key none =
    elim (k == key) as (λ t. (k == key) ≡ t → list_any (λ k. k == key) (k ∷ older) ≡ false) [
      | true ↦ λ e. absurd (none-some m (sym none ∙ ap (get s) (sym (eqb-true k key e)) ∙ at_k))
      | false ↦ λ e. rw e (vacant_is_absent s m.group.serial older rest key none)
    ] refl

-- the groups of other keys
pub listed-others : (old new : Slab Cgroup) (key : ℕ) → ((other : ℕ) → other ≢ key → get new other ≡ get old other)
    → (keys : List ℕ) → list_any (λ k. k == key) keys ≡ false → entries_kept new keys ≡ entries_kept old keys
listed-others old new key others [] none = refl
listed-others old new key others (k ∷ older) none =
    let parts : ((k == key) ≡ false) × (list_any (λ k. k == key) older ≡ false) = or_parts (k == key) (list_any (λ k. k == key) older) none in
    ap (λ (o : Option Cgroup). before o (entries_kept new older)) (others k (λ e. both_ways (k == key) parts.0 (eq-eqb k key e)))
    ∙ ap (λ (l : List GroupEntry). before (get old k) l) (listed-others old new key others older parts.1)

pub AllKept-others : (r : Resource) (old new : Slab Cgroup) (top : Ids) (key : ℕ) → ((other : ℕ) → other ≢ key → get new other ≡ get old other)
    → (keys : List ℕ) → list_any (λ k. k == key) keys ≡ false → AllKept r old top keys → AllKept r new top keys
AllKept-others r old new top key others [] none kept = tt
AllKept-others r old new top key others (k ∷ older) none kept =
    let parts : ((k == key) ≡ false) × (list_any (λ k. k == key) older ≡ false) = or_parts (k == key) (list_any (λ k. k == key) older) none in (
      (λ n at. subst (λ (l : List GroupEntry). KeepsEffective r top l n) (sym (listed-others old new key others older parts.1))
          (kept.0 n (sym (others k (λ e. both_ways (k == key) parts.0 (eq-eqb k key e))) ∙ at))),
      AllKept-others r old new top key others older parts.1 kept.1,
    )

requested_of_kept : (r : Resource) (n : Cgroup) → requested_of r (entry_of_kept n) ≡ (share_of r n).requested
requested_of_kept Cpus n = refl
requested_of_kept Mems n = refl

-- the set that is kept of a group is the one in effect
pub kept-effective : (r : Resource) (s : Slab Cgroup) (top : Ids) (next : ℕ) (keys : List ℕ) → IsInOrder s next keys → AllKept r s top keys → (p : Group)
    → is_some (entry_among (entries_kept s keys) p) ≡ true → effective_kept r (get s p.key) ≡ effective (requested_of r) top (entries_kept s keys) p
kept-effective r s top next [] _ _ p there = absurd (both_ways false refl there)
kept-effective r s top next (k ∷ older) (m, at, knows, below, parent, rest) kept p there =
    subst (λ (l : List GroupEntry). is_some (entry_among l p) ≡ true → effective_kept r (get s p.key) ≡ effective (requested_of r) top l p) (sym (listed_at s k older m at))
    (λ there.
    elim (same_group m.group p) as (λ t. same_group m.group p ≡ t → effective_kept r (get s p.key) ≡ effective (requested_of r) top (entry_of_kept m ∷ entries_kept s older) p) [
      | true ↦ λ e.
          ap (λ (q : ℕ). effective_kept r (get s q)) (sym (sym knows ∙ same_group-key m.group p e))
          ∙ ap (effective_kept r) at ∙ kept.0 m at
          ∙ ap (λ (asked : Ids). standing m.parent asked top (effective (requested_of r) top (entries_kept s older))) (sym (requested_of_kept r m))
          ∙ sym (effective-here (requested_of r) top (entry_of_kept m) (entries_kept s older) p e)
      | false ↦ λ e.
          kept-effective r s top m.group.serial older rest kept.1 p (ap is_some (sym (entry_among-there (entry_of_kept m) (entries_kept s older) p e)) ∙ there)
          ∙ sym (effective-there (requested_of r) top (entry_of_kept m) (entries_kept s older) p e)
    ] refl)
    there

-- the older keys of some in order
pub IsOrder-drop : (s : Slab Cgroup) (n : ℕ) (keys : List ℕ) → IsOrder s keys → IsOrder s (drop n keys)
IsOrder-drop s zero keys order = order
IsOrder-drop s (suc n) [] order = order
IsOrder-drop s (suc n) (k ∷ older) (next, (m, at, knows, below, parent, rest)) = IsOrder-drop s n older (m.group.serial, rest)

-- what is listed is well formed
pub IsFalling-listed : (s : Slab Cgroup) (next : ℕ) (keys : List ℕ) → IsInOrder s next keys → IsFalling next (entries_kept s keys)
IsFalling-listed s next [] _ = tt
IsFalling-listed s next (k ∷ older) (m, at, knows, below, parent, rest) =
    subst (λ (l : List GroupEntry). IsFalling next l) (sym (listed_at s k older m at)) (below, up m.parent parent, IsFalling-listed s m.group.serial older rest)
  where
    up : (parent : Option Group) → HasParentAmong s parent older → ParentIsAmong parent (entries_kept s older)
    up None h = ap (entries_kept s) h
    up (Some p) h = h
