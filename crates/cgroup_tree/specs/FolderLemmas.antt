-- The folder of a group, by those of its parents.
use Rattle.std.proofs.Common.{◌≡◌, ℕ, zero, suc, ◌<◌, refl, sym, ap, ◌∙◌, arith}
use Rattle.std.specs.Prelude.{List, [], ◌∷◌, ◌++◌, Option, Some, None, option_map}
use Rattle.std.proofs.lemmas.List.{append_assoc}
use Rattle.std.proofs.lemmas.Option.{same_Some, none-some}
use Rattle.cpuset_tree.specs.declared.Group.{Group}
use Rattle.cpuset_tree.specs.TreeState.{GroupEntry, TreeState}
use Rattle.cpuset_tree.specs.Groups.{entry_of}
use Rattle.cpuset_tree.specs.Places.{place_in, place_of}
use Rattle.cpuset_tree.specs.TreeWellFormed.{IsWellFormed}
use Rattle.cpuset_tree.specs.TreeLemmas.{parent_is_there}
use Rattle.cgroup_tree.specs.Paths.{folder, folder_at, folder_within, below}

-- the parent of a place is older
older_in : (s : TreeState) (g p : Group) (name : List ℕ) → IsWellFormed s → (o : Option GroupEntry) → entry_of s g ≡ o → place_in o ≡ Some (p, name) → p.serial < g.serial
older_in s g p name well None at is = absurd (none-some (p, name) is)
older_in s g p name well (Some e) at is = of_parent e.parent refl
  where
    of_parent : (parent : Option Group) → e.parent ≡ parent → p.serial < g.serial
    of_parent None above = absurd (none-some (p, name) (sym (ap (option_map (λ (q : Group). (q, e.name))) above) ∙ is))
    of_parent (Some q) above =
        let same : (q, e.name) ≡ (p, name) = same_Some (q, e.name) (p, name) (sym (ap (option_map (λ (r : Group). (r, e.name))) above) ∙ is) in
        let which : q ≡ p = ap (λ (x : Group × List ℕ). x.0) same in
        (parent_is_there s g p e well at (above ∙ ap Some which)).1

pub older : (s : TreeState) (g p : Group) (name : List ℕ) → IsWellFormed s → place_of s g ≡ Some (p, name) → p.serial < g.serial
older s g p name well is = older_in s g p name well (entry_of s g) refl is

-- over more parents than its serial a group's folder is one
pub folder_enough : (s : TreeState) → IsWellFormed s → (n m : ℕ) (g : Group) → g.serial < n → g.serial < m → folder_within n s g ≡ folder_within m s g
unfolding folder_within
folder_enough s well zero m g low high = absurd (omega (arith, low))
folder_enough s well (suc n) zero g low high = absurd (omega (arith, high))
folder_enough s well (suc n) (suc m) g low high = at (λ p lower. folder_enough s well n m p (omega (arith, lower, low)) (omega (arith, lower, high))) (place_of s g) refl
  where
    at : ((p : Group) → p.serial < g.serial → folder_within n s p ≡ folder_within m s p) → (o : Option (Group × List ℕ)) → place_of s g ≡ o
        → folder_at (folder_within n s) o ≡ folder_at (folder_within m s) o
    at enough None is = refl
    at enough (Some place) is = ap (λ (above : List ℕ). above ++ below place.1) (enough place.0 (older s g place.0 place.1 well is))

-- the folder of a group: its parent's, and its name
pub folder_below : (s : TreeState) (g p : Group) (name : List ℕ) → IsWellFormed s → place_of s g ≡ Some (p, name) → folder s g ≡ folder s p ++ below name
unfolding folder_within
folder_below s g p name well is =
    let lower : p.serial < g.serial = older s g p name well is in
    ap (folder_at (folder_within g.serial s)) is
    ∙ ap (λ (above : List ℕ). above ++ below name) (folder_enough s well g.serial (suc p.serial) p lower (omega (arith)))

pub folder_none : (s : TreeState) (g : Group) → place_of s g ≡ None → folder s g ≡ []
unfolding folder_within
folder_none s g is = ap (folder_at (folder_within g.serial s)) is

abbrev pub slash : List ℕ
slash = 47 ∷ []

-- the folder of a group behind a text: its parent's, a slash and its name
pub pushed : (text : List ℕ) (s : TreeState) (g p : Group) (name : List ℕ) → IsWellFormed s → place_of s g ≡ Some (p, name)
    → ((text ++ folder s p) ++ slash) ++ name ≡ text ++ folder s g
pushed text s g p name well is =
    append_assoc (text ++ folder s p) slash name
    ∙ append_assoc text (folder s p) (below name)
    ∙ ap (λ (path : List ℕ). text ++ path) (sym (folder_below s g p name well is))
