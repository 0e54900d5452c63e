-- No group has a newer parent than the newest that there was, through each change of a tree.
use Rattle.std.proofs.Common.{◌≡◌, ℕ, ◌≤◌, sym, ap, ◌∙◌, subst, arith, ⊎_elim}
use Rattle.std.proofs.lemmas.Bool.{cases_eq}
use Rattle.std.proofs.lemmas.Option.{same_Some, none-some}
use Rattle.std.specs.Prelude.{Option, Some, None, option_map}
use Rattle.faults.specs.TestLaws.{mapped}
use Rattle.slab.specs.Slab.{Slab, get, Updates}
use Rattle.cpuset_tree.specs.declared.groups.Group.{Group}
use Rattle.cpuset_tree.specs.declared.groups.Cgroup.{Cgroup}
use Rattle.cpuset_tree.specs.Kept.{AreParentsUpTo}
use Rattle.cpuset_tree.proofs.PlaceLemmas.{place, SamePlaces}

-- where groups and parents stay, a group that is there was there
pub was_there : (old new : Slab Cgroup) → SamePlaces old new → (key : ℕ) (n : Cgroup) → get new key ≡ Some n → (m : Cgroup) × (get old key ≡ Some m) × (place m ≡ place n)
was_there old new same key n at = mapped place (get old key) (place n) (sym (same key) ∙ ap (option_map place) at)

pub AreParentsUpTo-same : (old new : Slab Cgroup) (newest : ℕ) → SamePlaces old new → AreParentsUpTo old newest → AreParentsUpTo new newest
AreParentsUpTo-same old new newest same bound key n p at of =
    let was = was_there old new same key n at in
    bound key was.0 p was.1 (ap (λ (q : Group × Option Group). q.1) was.2 ∙ of)

-- a group alone that has no parent
pub AreParentsUpTo-first : (old new : Slab Cgroup) (key : ℕ) (n : Cgroup) → Updates old new key (Some n) → ((k : ℕ) → get old k ≡ None) → n.parent ≡ None
    → AreParentsUpTo new 0
AreParentsUpTo-first old new key n updates empty none k m p at of =
    ⊎_elim
    (λ e. absurd (none-some p (sym none ∙ ap (λ (x : Cgroup). x.parent) (same_Some n m (sym updates.changed ∙ ap (get new) (sym e) ∙ at)) ∙ of)))
    (λ ne. absurd (none-some m (sym (updates.others k ne ∙ empty k) ∙ at)))
    (cases_eq k key)

-- one group more
pub AreParentsUpTo-added : (old new : Slab Cgroup) (key newest now : ℕ) (n : Cgroup) (parent : Group) → Updates old new key (Some n) → n.parent ≡ Some parent
    → parent.serial ≤ now → newest ≤ now → AreParentsUpTo old newest → AreParentsUpTo new now
AreParentsUpTo-added old new key newest now n parent updates is own rises bound k m p at of =
    ⊎_elim
    (λ e.
    let one : n ≡ m = same_Some n m (sym updates.changed ∙ ap (get new) (sym e) ∙ at) in
    let its : parent ≡ p = same_Some parent p (sym is ∙ ap (λ (x : Cgroup). x.parent) one ∙ of) in
    subst (λ (g : Group). g.serial ≤ now) its own)
    (λ ne. let low : p.serial ≤ newest = bound k m p (sym (updates.others k ne) ∙ at) of in omega arith)
    (cases_eq k key)

-- one group less
pub AreParentsUpTo-removed : (old new : Slab Cgroup) (key newest : ℕ) → Updates old new key None → AreParentsUpTo old newest → AreParentsUpTo new newest
AreParentsUpTo-removed old new key newest updates bound k m p at of =
    ⊎_elim
    (λ e. absurd (none-some m (sym updates.changed ∙ ap (get new) (sym e) ∙ at)))
    (λ ne. bound k m p (sym (updates.others k ne) ∙ at) of)
    (cases_eq k key)
