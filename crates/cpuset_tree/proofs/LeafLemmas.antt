-- A group that is nobody's parent is brought up to date alone.
use Rattle.std.proofs.Common.{◌≡◌, ℕ, ◌<◌, ◌≤◌, List, [], ◌∷◌, refl, sym, ap, ◌∙◌, subst, arith, ⊎_elim}
use Rattle.std.proofs.lemmas.Bool.{cases_eq}
use Rattle.std.proofs.lemmas.Option.{same_Some}
use Rattle.std.specs.Prelude.{◌≢◌, Option, Some}
use Rattle.faults.specs.TestLaws.{mapped}
use Rattle.slab.specs.Slab.{Slab, get}
use Rattle.cpu_set.specs.Ids.{Ids}
use Rattle.cpuset_tree.specs.declared.groups.Group.{Group}
use Rattle.cpuset_tree.specs.declared.groups.Cgroup.{Cgroup}
use Rattle.cpuset_tree.specs.declared.groups.Resource.{Resource}
use Rattle.cpuset_tree.specs.declared.groups.Resource.TheVariants.{Cpus, Mems}
use Rattle.cpuset_tree.specs.Kept.{entries_kept, IsInOrder, KeepsEffective, AllKept, AreParentsUpTo, effective_kept, stands, with_effective, passed, IsGranted, ElsewhereGranted, ChangesAt, bare, OnlyKeptDiffers}
use Rattle.cpuset_tree.proofs.PlaceLemmas.{SamePlaces, SamePlaces-from_kept, same_from_change, IsInOrder-same}
use Rattle.cpuset_tree.proofs.ParentLemmas.{was_there, AreParentsUpTo-same}
use Rattle.cpuset_tree.proofs.RefreshLemmas.{at_parent, kept_among, stands-effective, stands_alike, own_change, passed_changed, passed_bare}

group_at-same : (old new : Slab Cgroup) (key : ℕ) (g : Group) → SamePlaces old new → ((n : Cgroup) → get old key ≡ Some n → n.group ≡ g)
    → (n : Cgroup) → get new key ≡ Some n → n.group ≡ g
group_at-same old new key g same here n at =
    let was = was_there old new same key n at in
    ap (λ (q : Group × Option Group). q.0) (sym was.2) ∙ here was.0 was.1

-- a group that is given what it is to have is granted that
given_granted : (r : Resource) (mid new : Slab Cgroup) (top : Ids) (n : Cgroup)
    → ((p : Group) → n.parent ≡ Some p → effective_kept r (get new p.key) ≡ effective_kept r (get mid p.key))
    → IsGranted r new top (with_effective r (stands r mid top n) n)
given_granted Cpus mid new top n same = sym (stands_alike Cpus mid new top n same)
given_granted Mems mid new top n same = sym (stands_alike Mems mid new top n same)

given_parent : (r : Resource) (ids : Ids) (n : Cgroup) → (with_effective r ids n).parent ≡ n.parent
given_parent Cpus ids n = refl
given_parent Mems ids n = refl

module _ (r : Resource) (mid new : Slab Cgroup) (top : Ids) (g : Group) (change : ChangesAt mid new g.key (passed r mid top g.serial)) where
  pub leaf_differs : OnlyKeptDiffers r mid new
  leaf_differs = same_from_change (passed r mid top g.serial) (bare r) (passed_bare r mid top g.serial) mid new g.key change

  leaf_places : SamePlaces mid new
  leaf_places = SamePlaces-from_kept r mid new leaf_differs

  module _ (newest : ℕ) (newer : newest < g.serial) (here : (n : Cgroup) → get mid g.key ≡ Some n → n.group ≡ g)
      (elsewhere : ElsewhereGranted r mid top g.key) (bound : AreParentsUpTo mid newest) where
    -- what is kept of another group is what it was
    other_kept : (p : Group) → p.key ≢ g.key → effective_kept r (get new p.key) ≡ effective_kept r (get mid p.key)
    other_kept p ne = ap (effective_kept r) (change.others p.key ne)

    granted : (key : ℕ) (m : Cgroup) → get new key ≡ Some m → ((p : Group) → m.parent ≡ Some p → p.key ≢ g.key) → IsGranted r new top m
    granted key m at other =
        ⊎_elim
        (λ e.
        let was = mapped (passed r mid top g.serial) (get mid g.key) m (sym change.changed ∙ ap (get new) (sym e) ∙ at) in
        let is : with_effective r (stands r mid top was.0) was.0 ≡ m = sym (passed_changed r mid top g.serial was.0 (own_change g was.0 (here was.0 was.1))) ∙ was.2 in
        let parent : m.parent ≡ was.0.parent = ap (λ (x : Cgroup). x.parent) (sym is) ∙ given_parent r (stands r mid top was.0) was.0 in
        subst (λ (x : Cgroup). IsGranted r new top x) is (given_granted r mid new top was.0 (λ p of. other_kept p (other p (parent ∙ of)))))
        (λ ne. elsewhere key m ne (sym (change.others key ne) ∙ at) ∙ sym (stands_alike r mid new top m (λ p of. other_kept p (other p of))))
        (cases_eq key g.key)

    -- the group is no parent
    not_parent : (next key : ℕ) (older : List ℕ) (m : Cgroup) → get new key ≡ Some m → IsInOrder new next older
        → (p : Group) → m.parent ≡ Some p → (x : Cgroup) → get new p.key ≡ Some x → x.group ≡ p → p.key ≢ g.key
    not_parent next key older m at order p of x there is e =
        let one : p ≡ g = sym is ∙ group_at-same mid new g.key g leaf_places here x (ap (get new) (sym e) ∙ there) in
        let serial : p.serial ≡ g.serial = ap (λ (h : Group). h.serial) one in
        let low : p.serial ≤ newest = AreParentsUpTo-same mid new newest leaf_places bound key m p at of in
        absurd (omega arith)

    kept : (next : ℕ) (keys : List ℕ) → IsInOrder new next keys → AllKept r new top keys
    kept next [] _ = tt
    kept next (k ∷ older) (m, at, knows, below, parent, rest) =
        let of_older : AllKept r new top older = kept m.group.serial older rest in
        let other : (p : Group) → m.parent ≡ Some p → p.key ≢ g.key = λ p of.
        let x = kept_among new m.group.serial older rest p (at_parent new older m parent p of) in
        not_parent m.group.serial k older m at rest p of x.0 x.1 x.2 in (
          (λ n is. subst (λ (x : Cgroup). KeepsEffective r top (entries_kept new older) x) (same_Some m n (sym at ∙ is))
              (granted k m at other ∙ stands-effective r new top m.group.serial older m rest of_older parent)),
          of_older,
        )

    pub leaf_kept : (next : ℕ) (keys : List ℕ) → IsInOrder mid next keys → AllKept r new top keys
    leaf_kept next keys order = kept next keys (IsInOrder-same mid new leaf_places next keys order)
