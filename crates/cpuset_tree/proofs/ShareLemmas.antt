-- A change that leaves each group's place and its share of one resource keeps what is in effect of that resource.
use Rattle.std.proofs.Common.{◌≡◌, ℕ, List, [], ◌∷◌, if◌then◌else◌, refl, sym, ap, ◌∙◌, subst}
use Rattle.std.proofs.lemmas.Option.{same_Some, none-some}
use Rattle.std.specs.Prelude.{Option, Some, None, option_map}
use Rattle.faults.specs.TestLaws.{mapped}
use Rattle.slab.specs.Slab.{Slab, get}
use Rattle.cpu_set.specs.Ids.{Ids}
use Rattle.cpuset_tree.specs.declared.groups.Group.{Group}
use Rattle.cpuset_tree.specs.declared.groups.Cgroup.{Cgroup}
use Rattle.cpuset_tree.specs.declared.groups.Resource.{Resource}
use Rattle.cpuset_tree.specs.declared.groups.Resource.TheVariants.{Cpus, Mems}
use Rattle.cpuset_tree.specs.declared.groups.Share.{Share}
use Rattle.cpuset_tree.specs.TreeState.{GroupEntry}
use Rattle.cpuset_tree.specs.Groups.{same_group}
use Rattle.cpuset_tree.specs.Effective.{standing, effective}
use Rattle.cpuset_tree.specs.Kept.{entry_of_kept, before, entries_kept, share_of, requested_of, AllKept}

-- a group, its parent, and its share of a resource
abbrev pub Held : Type 0
Held = Group × Option Group × Share

abbrev pub held : Resource → Cgroup → Held
held r n = (n.group, n.parent, share_of r n)

abbrev pub SameHeld : Resource → Slab Cgroup → Slab Cgroup → Type 0
SameHeld r old new = (key : ℕ) → option_map (held r) (get new key) ≡ option_map (held r) (get old key)

-- what is in effect with one group more
abbrev above_with : Ids → Held → (Group → Ids) → Group → Ids
above_with top h above p = if same_group h.0 p then standing h.1 h.2.requested top above else above p

effective-held : (r : Resource) (top : Ids) (n : Cgroup) (older : List GroupEntry) (p : Group)
    → effective (requested_of r) top (entry_of_kept n ∷ older) p ≡ above_with top (held r n) (effective (requested_of r) top older) p
effective-held Cpus top n older p = refl
effective-held Mems top n older p = refl

effective-before : (r : Resource) (top : Ids) (o q : Option Cgroup) → option_map (held r) q ≡ option_map (held r) o → (l m : List GroupEntry)
    → effective (requested_of r) top m ≡ effective (requested_of r) top l → effective (requested_of r) top (before q m) ≡ effective (requested_of r) top (before o l)
effective-before r top None None e l m same = same
effective-before r top None (Some y) e l m same = absurd (none-some (held r y) (sym e))
effective-before r top (Some x) None e l m same = absurd (none-some (held r x) e)
effective-before r top (Some x) (Some y) e l m same = λ i p. at p i
  where
    at : (p : Group) → effective (requested_of r) top (entry_of_kept y ∷ m) p ≡ effective (requested_of r) top (entry_of_kept x ∷ l) p
    at p =
        effective-held r top y m p
        ∙ ap (λ (h : Held). above_with top h (effective (requested_of r) top m) p) (same_Some (held r y) (held r x) e)
        ∙ ap (λ (f : Group → Ids). above_with top (held r x) f p) same
        ∙ sym (effective-held r top x l p)

module _ (r : Resource) (old new : Slab Cgroup) (same : SameHeld r old new) (top : Ids) where
  effective-same : (keys : List ℕ) → effective (requested_of r) top (entries_kept new keys) ≡ effective (requested_of r) top (entries_kept old keys)
  effective-same [] = refl
  effective-same (k ∷ older) = effective-before r top (get old k) (get new k) (same k) (entries_kept old older) (entries_kept new older) (effective-same older)

  -- what is kept of a group, by what it holds
  abbrev keeps : Held → (Group → Ids) → Type 0
  keeps h above = h.2.effective ≡ standing h.1 h.2.requested top above

  pub AllKept-same : (keys : List ℕ) → AllKept r old top keys → AllKept r new top keys
  AllKept-same [] kept = tt
  AllKept-same (k ∷ older) kept = (
    (λ n at.
        let was : (m : Cgroup) × (get old k ≡ Some m) × (held r m ≡ held r n) = mapped (held r) (get old k) (held r n) (sym (same k) ∙ ap (option_map (held r)) at) in
        subst (λ (h : Held). keeps h (effective (requested_of r) top (entries_kept new older))) was.2
        (subst (λ (f : Group → Ids). keeps (held r was.0) f) (sym (effective-same older)) (kept.0 was.0 was.1))),
    AllKept-same older kept.1,
  )
