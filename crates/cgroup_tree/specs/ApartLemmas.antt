-- Groups with plain names that differ below one parent have folders that differ.
use Rattle.std.proofs.Common.{◌≡◌, ℕ, zero, suc, ◌+◌, ◌<◌, true, false, refl, sym, ap, ◌∙◌, subst, arith}
use Rattle.std.specs.List.{list_any}
use Rattle.std.specs.Prelude.{List, [], ◌∷◌, ◌++◌, length, Option, Some, None, is_some, ◌||◌, option_map}
use Rattle.std.proofs.lemmas.Bool.{both_ways}
use Rattle.std.proofs.lemmas.List.{length-append}
use Rattle.std.proofs.lemmas.Option.{same_Some, none-some}
use Rattle.cpuset_tree.specs.declared.Group.{Group}
use Rattle.cpuset_tree.specs.TreeState.{GroupEntry, TreeState}
use Rattle.cpuset_tree.specs.Groups.{same_group, entry_among, entry_of, has_group}
use Rattle.cpuset_tree.specs.GroupLemmas.{same_group-equal, entry_among-here, entry_among-there}
use Rattle.cpuset_tree.specs.Places.{place_in, place_of}
use Rattle.cpuset_tree.specs.TreeWellFormed.{IsFalling, ParentIsAmong, IsWellFormed}
use Rattle.cpuset_tree.specs.TreeLemmas.{parent_is_there}
use Rattle.kernel_model.specs.Names.{HaveOwnNames}
use Rattle.cgroup_tree.specs.Paths.{is_slash, folder, below}
use Rattle.cgroup_tree.specs.FolderLemmas.{older, folder_below, folder_none}
use Rattle.cgroup_tree.specs.Standing.{AreApart, HavePlainNames, PlainNamesApart}

-- a path is its folder and its name in one way
unfoldable pub rest : List ℕ → List ℕ
rest [] = []
rest (x ∷ xs) = xs

first : List ℕ → ℕ
first [] = 0
first (x ∷ xs) = x

slash_behind : (xs a : List ℕ) → list_any is_slash (xs ++ below a) ≡ true
slash_behind [] a = refl
slash_behind (x ∷ xs) a =
    elim (is_slash x) as (λ b. (b || list_any is_slash (xs ++ below a)) ≡ true) [ true ↦ refl | false ↦ slash_behind xs a ]

pub one_split : (xs ys a b : List ℕ) → list_any is_slash a ≡ false → list_any is_slash b ≡ false → xs ++ below a ≡ ys ++ below b → (xs ≡ ys) × (a ≡ b)
unfolding rest first
one_split [] [] a b plain also e = (refl, ap rest e)
one_split [] (y ∷ ys) a b plain also e = absurd (both_ways (list_any is_slash a) plain (ap (list_any is_slash) (ap rest e) ∙ slash_behind ys b))
one_split (x ∷ xs) [] a b plain also e = absurd (both_ways (list_any is_slash b) also (ap (list_any is_slash) (sym (ap rest e)) ∙ slash_behind xs a))
one_split (x ∷ xs) (y ∷ ys) a b plain also e =
    let tail : (xs ≡ ys) × (a ≡ b) = one_split xs ys a b plain also (ap rest e) in
    let head : x ≡ y = ap first e in
    (ap (λ (n : ℕ). n ∷ xs) head ∙ ap (λ (ns : List ℕ). y ∷ ns) tail.0, tail.1)

pub there_in : (o : Option GroupEntry) → is_some (place_in o) ≡ true → is_some o ≡ true
there_in None placed = placed
there_in (Some e) placed = refl

-- only one group has no parent
lone : (next : ℕ) (groups : List GroupEntry) (g h : Group) (e f : GroupEntry) → IsFalling next groups → entry_among groups g ≡ Some e → e.parent ≡ None
    → entry_among groups h ≡ Some f → f.parent ≡ None → same_group g h ≡ true
lone next [] g h e f falling at none there also = absurd (none-some e at)
lone next (x ∷ older) g h e f falling at none there also =
    elim (same_group x.group g) as (λ t. same_group x.group g ≡ t → same_group g h ≡ true) [
      | true ↦ λ here. elim (same_group x.group h) as (λ t. same_group x.group h ≡ t → same_group g h ≡ true) [
        | true ↦ λ same.
            subst (λ (k : Group). same_group k h ≡ true) (same_group-equal x.group g here) same
        | false ↦ λ other.
            let is : x ≡ e = same_Some x e (sym (entry_among-here x older g here) ∙ at) in
            let last : older ≡ [] = subst (λ (p : Option Group). ParentIsAmong p older) (ap (λ (y : GroupEntry). y.parent) is ∙ none) falling.1 in
            absurd (none-some f (sym (ap (λ (l : List GroupEntry). entry_among l h) last) ∙ (sym (entry_among-there x older h other) ∙ there)))
      ] refl
      | false ↦ λ away. elim (same_group x.group h) as (λ t. same_group x.group h ≡ t → same_group g h ≡ true) [
        | true ↦ λ here.
            let is : x ≡ f = same_Some x f (sym (entry_among-here x older h here) ∙ there) in
            let last : older ≡ [] = subst (λ (p : Option Group). ParentIsAmong p older) (ap (λ (y : GroupEntry). y.parent) is ∙ also) falling.1 in
            absurd (none-some e (sym (ap (λ (l : List GroupEntry). entry_among l g) last) ∙ (sym (entry_among-there x older g away) ∙ at)))
        | false ↦ λ other. lone x.group.serial older g h e f falling.2 (sym (entry_among-there x older g away) ∙ at) none
            (sym (entry_among-there x older h other) ∙ there) also
      ] refl
    ] refl

-- the entry of a group that has a place
pub record Entry (s : TreeState) (g p : Group) (name : List ℕ) : Type 0 where
  pub entry : GroupEntry
  pub there : entry_of s g ≡ Some entry
  pub above : entry.parent ≡ Some p
  pub named : entry.name ≡ name

entry_at : (s : TreeState) (g p : Group) (name : List ℕ) (e : GroupEntry) (parent : Option Group) → entry_of s g ≡ Some e → e.parent ≡ parent
    → option_map {U = Group × List ℕ} (λ q. (q, e.name)) parent ≡ Some (p, name) → Entry s g p name
entry_at s g p name e None at above is = absurd (none-some (p, name) is)
entry_at s g p name e (Some q) at above is =
    let same : (q, e.name) ≡ (p, name) = same_Some (q, e.name) (p, name) is in
    record { entry = e; there = at; above = above ∙ ap Some (ap (λ (x : Group × List ℕ). x.0) same); named = ap (λ (x : Group × List ℕ). x.1) same }

entry_in : (s : TreeState) (g p : Group) (name : List ℕ) (o : Option GroupEntry) → entry_of s g ≡ o → place_in o ≡ Some (p, name) → Entry s g p name
entry_in s g p name None at is = absurd (none-some (p, name) is)
entry_in s g p name (Some e) at is = entry_at s g p name e e.parent at refl is

pub entry_placed : (s : TreeState) (g p : Group) (name : List ℕ) → place_of s g ≡ Some (p, name) → Entry s g p name
entry_placed s g p name is = entry_in s g p name (entry_of s g) refl is

no_parent : (name : List ℕ) (parent : Option Group) → option_map {U = Group × List ℕ} (λ p. (p, name)) parent ≡ None → parent ≡ None
no_parent name None is = refl
no_parent name (Some p) is = absurd (none-some (p, name) (sym is))

pub some_of : {A : Type 0} (o : Option A) → is_some o ≡ true → (x : A) × (o ≡ Some x)
some_of None some = absurd (both_ways false refl some)
some_of (Some x) some = (x, refl)

module _ (s : TreeState) (well : IsWellFormed s) (own : HaveOwnNames s.groups) (plain : HavePlainNames s) where
  -- no two groups that are there, the first with a serial below n, have one folder
  abbrev Differ : ℕ → Type 0
  Differ n = (g h : Group) (e f : GroupEntry) → g.serial < n → entry_of s g ≡ Some e → entry_of s h ≡ Some f → folder s g ≡ folder s h → same_group g h ≡ true

  nothing_below : (h q : Group) (name : List ℕ) → place_of s h ≡ Some (q, name) → folder s h ≡ [] → ⊥
  nothing_below h q name is none =
      let long : length (folder s q ++ below name) ≡ length (folder s q) + length (below name) = length-append (folder s q) (below name) in
      let short : length (folder s q ++ below name) ≡ 0 = ap length (sym (folder_below s h q name well is) ∙ none) in
      absurd (omega (arith, long, short))

  two_placed : (n : ℕ) → Differ n → (g h p q : Group) (a b : List ℕ) → g.serial < suc n → place_of s g ≡ Some (p, a) → place_of s h ≡ Some (q, b)
      → folder s g ≡ folder s h → same_group g h ≡ true
  two_placed n differ g h p q a b low at there same =
      let split : (folder s p ≡ folder s q) × (a ≡ b) = one_split (folder s p) (folder s q) a b (plain g p a at) (plain h q b there)
      (sym (folder_below s g p a well at) ∙ same ∙ folder_below s h q b well there) in
      let e : Entry s g p a = entry_placed s g p a at in
      let f : Entry s h q b = entry_placed s h q b there in
      let lower : p.serial < g.serial = older s g p a well at in
      let above = some_of (entry_of s p) (parent_is_there s g p e.entry well e.there e.above).0 in
      let beside = some_of (entry_of s q) (parent_is_there s h q f.entry well f.there f.above).0 in
      let parents : p ≡ q = same_group-equal p q (differ p q above.0 beside.0 (omega (arith, lower, low)) above.1 beside.1 split.0) in
      own g h e.entry f.entry e.there f.there (e.above ∙ ap Some parents ∙ sym f.above) (e.named ∙ split.1 ∙ sym f.named)

  by_places : (n : ℕ) → Differ n → (g h : Group) (e f : GroupEntry) → g.serial < suc n → entry_of s g ≡ Some e → entry_of s h ≡ Some f → folder s g ≡ folder s h
      → (o : Option (Group × List ℕ)) → place_of s g ≡ o → (u : Option (Group × List ℕ)) → place_of s h ≡ u → same_group g h ≡ true
  by_places n differ g h e f low at there same None here None beside =
      lone s.next_serial s.groups g h e f well.falling at (no_parent e.name e.parent (sym (ap place_in at) ∙ here)) there
      (no_parent f.name f.parent (sym (ap place_in there) ∙ beside))
  by_places n differ g h e f low at there same None here (Some v) beside = absurd (nothing_below h v.0 v.1 beside (sym same ∙ folder_none s g here))
  by_places n differ g h e f low at there same (Some u) here None beside = absurd (nothing_below g u.0 u.1 here (same ∙ folder_none s h beside))
  by_places n differ g h e f low at there same (Some u) here (Some v) beside = two_placed n differ g h u.0 v.0 u.1 v.1 low here beside same

  differ_below : (n : ℕ) → Differ n
  differ_below zero g h e f low at there same = absurd (omega (arith, low))
  differ_below (suc n) g h e f low at there same = by_places n (differ_below n) g h e f low at there same (place_of s g) refl (place_of s h) refl

  apart : AreApart s
  apart g h here beside same =
      let at = some_of (entry_of s g) (there_in (entry_of s g) here) in
      let there = some_of (entry_of s h) (there_in (entry_of s h) beside) in
      differ_below (suc g.serial) g h at.0 there.0 (omega (arith)) at.1 there.1 same

  -- a group whose folder is that of a name in a parent's is there, below that parent and of that name
  pub one_folder_there : (h parent q : Group) (name label : List ℕ) → list_any is_slash name ≡ false → place_of s h ≡ Some (q, label) → has_group s parent ≡ true
      → folder s h ≡ folder s parent ++ below name → (q ≡ parent) × (label ≡ name)
  one_folder_there h parent q name label plain_name at there same =
      let split : (folder s q ≡ folder s parent) × (label ≡ name) =
      one_split (folder s q) (folder s parent) label name (plain h q label at) plain_name (sym (folder_below s h q label well at) ∙ same) in
      let e : Entry s h q label = entry_placed s h q label at in
      let above = some_of (entry_of s q) (parent_is_there s h q e.entry well e.there e.above).0 in
      let beside = some_of (entry_of s parent) there in
      (same_group-equal q parent (differ_below (suc q.serial) q parent above.0 beside.0 (omega (arith)) above.1 beside.1 split.0), split.1)

pub plain_names_apart : PlainNamesApart
plain_names_apart s well own plain = apart s well own plain
