-- Each child's mark stands at its key, through each change of a tree; so a child whose mark is not there is not there.
use Rattle.std.proofs.Common.{◌≡◌, ℕ, ◌+◌, ◌<◌, true, false, ◌&&◌, ◌==◌, List, [], ◌∷◌, ◌++◌, length, refl, arith, length-append, sym, ap, ◌∙◌, subst, ⊎_elim, eq-eqb}
use Rattle.std.proofs.lemmas.Bool.{cases_eq, and_parts, both_ways}
use Rattle.std.proofs.lemmas.List.{get_or_append_left}
use Rattle.std.proofs.lemmas.List.Folds.{list_any_at}
use Rattle.std.proofs.lemmas.Option.{same_Some, none-some}
use Rattle.std.proofs.lemmas.Slice.Eq.{bytes_eq-Decides}
use Rattle.std.specs.Prelude.{Option, Some, None, option_map, string_bytes, slice_index_or, nat_eq}
use Rattle.std.specs.List.{list_any}
use Rattle.std.specs.Cmp.Lexicographic.{pointwise}
use Rattle.faults.specs.TestLaws.{mapped}
use Rattle.slab.specs.Slab.{Slab, get, Updates}
use Rattle.cpu_set.specs.Ids.{Ids}
use Rattle.cpuset_tree.specs.declared.groups.Group.{Group}
use Rattle.cpuset_tree.specs.declared.groups.Cgroup.{Cgroup}
use Rattle.cpuset_tree.specs.declared.groups.Resource.{Resource}
use Rattle.cpuset_tree.specs.declared.groups.Resource.TheVariants.{Cpus, Mems}
use Rattle.cpuset_tree.specs.TreeLemmas.{is_parent-some}
use Rattle.cpuset_tree.specs.Groups.{is_parent, child_among}
use Rattle.cpuset_tree.specs.Kept.{before, entries_kept, entry_of_kept, bare, OnlyKeptDiffers, ChangesAt, mark_of, AreMarked, AreSameBut, with_requested}
use Rattle.cpuset_tree.proofs.PlaceLemmas.{same_from_change}

-- one number more at the end
pub AreSameBut-pushed : (key mark : ℕ) (old mid new : List ℕ) → AreSameBut key old mid → new ≡ mid ++ mark ∷ [] → AreSameBut key old new
AreSameBut-pushed key mark old mid new same is k ne lt =
    let stays = same k ne lt in
    let longer : length new ≡ length mid + 1 = ap length is ∙ length-append mid (mark ∷ []) in
    (omega (arith, stays.0), ap (λ (l : List ℕ). slice_index_or l k 0) is ∙ get_or_append_left mid (mark ∷ []) 0 k stays.0 ∙ stays.1)

-- a group's parent and name
abbrev pub name_place : Cgroup → Option Group × List ℕ
name_place n = (n.parent, string_bytes n.name)

abbrev pub SameNames : Slab Cgroup → Slab Cgroup → Type 0
SameNames old new = (key : ℕ) → option_map name_place (get new key) ≡ option_map name_place (get old key)

bare_name : (r : Resource) (o : Option Cgroup) → option_map name_place o ≡ option_map name_place (option_map (bare r) o)
bare_name r None = refl
bare_name Cpus (Some n) = refl
bare_name Mems (Some n) = refl

pub SameNames-from_kept : (r : Resource) (old new : Slab Cgroup) → OnlyKeptDiffers r old new → SameNames old new
SameNames-from_kept r old new same key = bare_name r (get new key) ∙ ap (option_map name_place) (same key) ∙ sym (bare_name r (get old key))

requested_name : (r : Resource) (ids : Ids) (n : Cgroup) → name_place (with_requested r ids n) ≡ name_place n
requested_name Cpus ids n = refl
requested_name Mems ids n = refl

pub SameNames-requested : (r : Resource) (ids : Ids) (old new : Slab Cgroup) (key : ℕ) → ChangesAt old new key (with_requested r ids) → SameNames old new
SameNames-requested r ids old new key change = same_from_change (with_requested r ids) name_place (requested_name r ids) old new key change

pub AreMarked-same : (old new : Slab Cgroup) (marks : List ℕ) → SameNames old new → AreMarked old marks → AreMarked new marks
AreMarked-same old new marks same marked key n p at of =
    let was : (m : Cgroup) × (get old key ≡ Some m) × (name_place m ≡ name_place n) =
    mapped name_place (get old key) (name_place n) (sym (same key) ∙ ap (option_map name_place) at) in
    let its = marked key was.0 p was.1 (ap (λ (q : Option Group × List ℕ). q.0) was.2 ∙ of) in
    (its.0, its.1 ∙ ap (λ (q : Option Group × List ℕ). mark_of p q.1) was.2)

-- a group alone that has no parent
pub AreMarked-first : (old new : Slab Cgroup) (key : ℕ) (n : Cgroup) (marks : List ℕ) → Updates old new key (Some n) → ((k : ℕ) → get old k ≡ None) → n.parent ≡ None
    → AreMarked new marks
AreMarked-first old new key n marks updates empty none k m p at of =
    ⊎_elim
    (λ e. absurd (none-some p (sym none ∙ ap (λ (x : Cgroup). x.parent) (same_Some n m (sym updates.changed ∙ ap (get new) (sym e) ∙ at)) ∙ of)))
    (λ ne. absurd (none-some m (sym (updates.others k ne ∙ empty k) ∙ at)))
    (cases_eq k key)

-- another mark at a key without a group
pub AreMarked-vacant : (s : Slab Cgroup) (key : ℕ) (was now : List ℕ) → get s key ≡ None → AreSameBut key was now → AreMarked s was → AreMarked s now
AreMarked-vacant s key was now vacant same marked k n p at of =
    ⊎_elim
    (λ e. absurd (none-some n (sym vacant ∙ ap (get s) (sym e) ∙ at)))
    (λ ne.
    let its = marked k n p at of in
    let stays = same k ne its.0 in
    (stays.0, stays.1 ∙ its.1))
    (cases_eq k key)

-- one group more, with its mark
pub AreMarked-added : (old new : Slab Cgroup) (key : ℕ) (n : Cgroup) (parent : Group) (marks : List ℕ) → Updates old new key (Some n) → n.parent ≡ Some parent
    → key < length marks → slice_index_or marks key 0 ≡ mark_of parent (string_bytes n.name) → AreMarked old marks → AreMarked new marks
AreMarked-added old new key n parent marks updates is within noted marked k m p at of =
    ⊎_elim
    (λ e.
    let one : n ≡ m = same_Some n m (sym updates.changed ∙ ap (get new) (sym e) ∙ at) in
    let its : parent ≡ p = same_Some parent p (sym is ∙ ap (λ (x : Cgroup). x.parent) one ∙ of) in (
      subst (λ (q : ℕ). q < length marks) (sym e) within,
      ap (λ (q : ℕ). slice_index_or marks q 0) e ∙ noted ∙ ap (λ (g : Group). mark_of g (string_bytes n.name)) its ∙ ap (λ (x : Cgroup). mark_of p (string_bytes x.name)) one,
    ))
    (λ ne. marked k m p (sym (updates.others k ne) ∙ at) of)
    (cases_eq k key)

-- one group less
pub AreMarked-removed : (old new : Slab Cgroup) (key : ℕ) (was now : List ℕ) → Updates old new key None → AreSameBut key was now → AreMarked old was → AreMarked new now
AreMarked-removed old new key was now updates same marked k m p at of =
    ⊎_elim
    (λ e. absurd (none-some m (sym updates.changed ∙ ap (get new) (sym e) ∙ at)))
    (λ ne.
    let its = marked k m p (sym (updates.others k ne) ∙ at) of in
    let stays = same k ne its.0 in
    (stays.0, stays.1 ∙ its.1))
    (cases_eq k key)

module _ (s : Slab Cgroup) (marks : List ℕ) (parent : Group) (name : List ℕ) (marked : AreMarked s marks) where
  -- the mark of a child that is kept is there
  its_mark : (key : ℕ) (n : Cgroup) → get s key ≡ Some n → (is_parent n.parent parent && pointwise nat_eq (string_bytes n.name) name) ≡ true
      → list_any (λ m. m == mark_of parent name) marks ≡ true
  its_mark key n at is =
      let parts : (is_parent n.parent parent ≡ true) × (pointwise nat_eq (string_bytes n.name) name ≡ true) = and_parts (is_parent n.parent parent) (pointwise nat_eq (string_bytes n.name) name) is in
      let named : string_bytes n.name ≡ name = (bytes_eq-Decides (string_bytes n.name) name).0 parts.1 in
      let its = marked key n parent at (is_parent-some n.parent parent parts.0) in
      list_any_at (λ m. m == mark_of parent name) marks key 0 its.0 (eq-eqb (slice_index_or marks key 0) (mark_of parent name) (its.1 ∙ ap (mark_of parent) named))

  -- where the mark is not there, the child is not
  pub no_child : list_any (λ m. m == mark_of parent name) marks ≡ false → (keys : List ℕ) → child_among (entries_kept s keys) parent name ≡ None
  no_child none [] = refl
  no_child none (key ∷ older) =
      elim (get s key) as (λ o. get s key ≡ o → child_among (before o (entries_kept s older)) parent name ≡ None) [
        | None ↦ λ _. no_child none older
        | Some n ↦ λ at.
            elim (is_parent n.parent parent && pointwise nat_eq (string_bytes n.name) name)
            as (λ t. (is_parent n.parent parent && pointwise nat_eq (string_bytes n.name) name) ≡ t → child_among (entry_of_kept n ∷ entries_kept s older) parent name ≡ None) [
              | true ↦ λ is. absurd (both_ways (list_any (λ m. m == mark_of parent name) marks) none (its_mark key n at is))
              | false ↦ λ is. rw is (no_child none older)
            ] refl
      ] refl
