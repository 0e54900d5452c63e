-- Folders that are made and removed, and what the files of the others have.
use Rattle.std.proofs.Common.{◌≡◌, ℕ, zero, suc, ◌<◌, Bool, true, false, refl, sym, ap, ◌∙◌, subst, arith}
use Rattle.std.specs.Prelude.{List, [], ◌∷◌, ◌++◌, length, drop, Option, Some, None, is_some, ◌||◌, if◌then◌else◌}
use Rattle.std.specs.Str.{bytes_eq}
use Rattle.std.proofs.lemmas.Bool.{both_ways, false_from_ne_true}
use Rattle.std.proofs.lemmas.List.{append_assoc, append_cancel_left}
use Rattle.std.proofs.lemmas.Slice.Eq.{bytes_eq-Decides}
use Rattle.cpu_set.specs.Ids.{Ids}
use Rattle.cpuset_tree.specs.declared.Group.{Group}
use Rattle.cpuset_tree.specs.TreeState.{GroupEntry, TreeState}
use Rattle.cpuset_tree.specs.Groups.{same_group, entry_of, has_group, requested_cpus, requested_mems, cpus_in, mems_in}
use Rattle.cpuset_tree.specs.GroupLemmas.{same_group-equal, other_serial}
use Rattle.cpuset_tree.specs.Places.{place_in, place_of}
use Rattle.cpuset_tree.specs.TreeAnswers.{AddsGroup}
use Rattle.cpuset_tree.specs.TreeChanges.{without_group}
use Rattle.cpuset_tree.specs.TreeLaws.{GroupAdded}
use Rattle.cpuset_tree.specs.TreeLemmas.{added_leaves, removed_leaves, parent_is_there, serial_is_given}
use Rattle.cpuset_tree.specs.TreeWellFormed.{IsWellFormed}
use Rattle.cgroup_tree.specs.Asked.{Deed, Remark, Made, Removed, Unmade, Written, Compared, Told, Asked, path_of, remark_on, done, refused, refusal}
use Rattle.cgroup_tree.specs.Mirrored.{looked, looks_behind}
use Rattle.cgroup_tree.specs.Paths.{folder, folder_at, folder_within, below, cpus_file, mems_file, partition_file, partition_line, controls_file, controls_line}
use Rattle.cgroup_tree.specs.FolderLemmas.{older, folder_below}
use Rattle.cgroup_tree.specs.ApartLemmas.{there_in, one_split, entry_placed}
use Rattle.cgroup_tree.specs.Standing.{text_in, IsLineOf, IsMemsLineOf, StandsFor, AreApart, FoldersStand}
use Rattle.cgroup_tree.specs.StandingLemmas.{writes_stand, written_elsewhere, two_files, one_folder}

-- where groups and their parents stand in the same places, their folders are the same
at_place : (s t : TreeState) (P : Group → Type 0) (n : ℕ) → ((p : Group) → P p → folder_within n t p ≡ folder_within n s p)
    → (o : Option (Group × List ℕ)) → ((p : Group) (name : List ℕ) → o ≡ Some (p, name) → P p) → folder_at (folder_within n t) o ≡ folder_at (folder_within n s) o
at_place s t P n same None up = refl
at_place s t P n same (Some place) up = ap (λ (above : List ℕ). above ++ below place.1) (same place.0 (up place.0 place.1 refl))

folder_kept : (s t : TreeState) (P : Group → Type 0) → ((p : Group) → P p → place_of t p ≡ place_of s p)
    → ((g p : Group) (name : List ℕ) → P g → place_of s g ≡ Some (p, name) → P p) → (n : ℕ) (g : Group) → P g → folder_within n t g ≡ folder_within n s g
unfolding folder_within
folder_kept s t P same up zero g in_it = refl
folder_kept s t P same up (suc n) g in_it =
    ap (folder_at (folder_within n t)) (same g in_it)
    ∙ at_place s t P n (folder_kept s t P same up n) (place_of s g) (λ p name is. up g p name in_it is)

-- the files of a new folder, and those of another
made_here : (calls : List Asked) (path file : List ℕ) → path ++ cpus_file ≡ file → text_in (done (Made path) ∷ calls) file ≡ None
unfolding text_in
made_here calls path file is =
    ap (λ (b : Bool). if b || bytes_eq (path ++ mems_file) file then None else text_in calls file) ((bytes_eq-Decides (path ++ cpus_file) file).1 is)

made_here_too : (calls : List Asked) (path file : List ℕ) → path ++ mems_file ≡ file → text_in (done (Made path) ∷ calls) file ≡ None
unfolding text_in
made_here_too calls path file is =
    elim (bytes_eq (path ++ cpus_file) file) as (λ (b : Bool). (if b || bytes_eq (path ++ mems_file) file then None else text_in calls file) ≡ None) [
      | true ↦ refl
      | false ↦ ap (λ (b : Bool). if b then None else text_in calls file) ((bytes_eq-Decides (path ++ mems_file) file).1 is)
    ]

made_elsewhere : (calls : List Asked) (path file : List ℕ) → (path ++ cpus_file ≡ file → ⊥) → (path ++ mems_file ≡ file → ⊥)
    → text_in (done (Made path) ∷ calls) file ≡ text_in calls file
unfolding text_in
made_elsewhere calls path file cpus mems =
    ap (λ (b : Bool). if b || bytes_eq (path ++ mems_file) file then None else text_in calls file) (false_from_ne_true (bytes_eq (path ++ cpus_file) file) (λ e. cpus ((bytes_eq-Decides (path ++ cpus_file) file).0 e)))
    ∙ ap (λ (b : Bool). if b then None else text_in calls file) (false_from_ne_true (bytes_eq (path ++ mems_file) file) (λ e. mems ((bytes_eq-Decides (path ++ mems_file) file).0 e)))

-- the file by which controllers are passed on is no list
not_controls : (root here there : List ℕ) → root ++ (here ++ controls_file) ≡ root ++ (there ++ cpus_file) → ⊥
not_controls root here there e =
    let split = one_split here there (drop 1 controls_file) (drop 1 cpus_file) refl refl (append_cancel_left root (here ++ controls_file) (there ++ cpus_file) e) in
    absurd (omega (arith, ap length split.1))

not_controls_too : (root here there : List ℕ) → root ++ (here ++ controls_file) ≡ root ++ (there ++ mems_file) → ⊥
not_controls_too root here there e =
    let split = one_split here there (drop 1 controls_file) (drop 1 mems_file) refl refl (append_cancel_left root (here ++ controls_file) (there ++ mems_file) e) in
    absurd (omega (arith, ap length split.1))

-- a group that is added: what folders there are
module _ (s new : TreeState) (parent g : Group) (name : List ℕ) (well : IsWellFormed s) (formed : IsWellFormed new) (adds : AddsGroup s parent name g new) where
  pub leaves : GroupAdded s new parent name g
  leaves = added_leaves s new parent name g adds

  pub place_added : place_of new g ≡ Some (parent, name)
  place_added = ap place_in leaves.there

  differs : (p : Group) → p.serial < s.next_serial → same_group g p ≡ false
  differs p old = other_serial g p (λ e. absurd (omega (arith, e, old, leaves.serial)))

  pub folder_stays : (p : Group) → p.serial < s.next_serial → folder new p ≡ folder s p
  folder_stays p old = folder_kept s new (λ (q : Group). q.serial < s.next_serial) (λ q older_q. ap place_in (leaves.others q (differs q older_q)))
      (λ a b label older_a is. let lower : b.serial < a.serial = older s a b label well is in omega (arith, lower, older_a)) (suc p.serial) p old

  pub folder_added : folder new g ≡ folder s parent ++ below name
  folder_added =
      let lower : parent.serial < g.serial = older new g parent name formed place_added in
      folder_below new g parent name formed place_added ∙ ap (λ (f : List ℕ). f ++ below name) (folder_stays parent (omega (arith, lower, leaves.serial)))

  pub is_old : (h : Group) → same_group g h ≡ false → is_some (place_of new h) ≡ true → h.serial < s.next_serial
  is_old h other placed = serial_is_given s h well (there_in (entry_of s h) (sym (ap (λ (o : Option GroupEntry). is_some (place_in o)) (leaves.others h other)) ∙ placed))

-- a folder that is made
module _ (root : List ℕ) (memory : Ids) (s new : TreeState) (parent g : Group) (name : List ℕ) (calls : List Asked) (well : IsWellFormed s) (formed : IsWellFormed new)
    (apart : AreApart new) (adds : AddsGroup s parent name g new) (stands : StandsFor root memory s calls) where
  added : GroupAdded s new parent name g
  added = leaves s new parent g name well formed adds

  abbrev path : List ℕ
  path = root ++ (folder s parent ++ below name)

  abbrev asked : List Asked
  asked = done (Made path) ∷ done (Written (root ++ (folder s parent ++ controls_file)) controls_line) ∷ calls

  place_new : place_of new g ≡ Some (parent, name)
  place_new = place_added s new parent g name well formed adds

  folder_old : (p : Group) → p.serial < s.next_serial → folder new p ≡ folder s p
  folder_old p old = folder_stays s new parent g name well formed adds p old

  folder_new : folder new g ≡ folder s parent ++ below name
  folder_new = folder_added s new parent g name well formed adds

  file_new : (file : List ℕ) → path ++ file ≡ root ++ (folder new g ++ file)
  file_new file = append_assoc root (folder s parent ++ below name) file ∙ ap (λ (f : List ℕ). root ++ (f ++ file)) (sym folder_new)

  old_of : (h : Group) → same_group g h ≡ false → is_some (place_of new h) ≡ true → h.serial < s.next_serial
  old_of h other placed = is_old s new parent g name well formed adds h other placed

  placed_was : (h : Group) → same_group g h ≡ false → is_some (place_of new h) ≡ true → is_some (place_of s h) ≡ true
  placed_was h other placed = sym (ap (λ (o : Option GroupEntry). is_some (place_in o)) (added.others h other)) ∙ placed

  another : (h : Group) → same_group g h ≡ false → is_some (place_of new h) ≡ true → folder new g ≡ folder new h → ⊥
  another h other placed e = both_ways (same_group g h) other (apart g h (ap is_some place_new) placed e)

  cpus_of_other : (h : Group) → same_group g h ≡ false → is_some (place_of new h) ≡ true → text_in asked (root ++ (folder new h ++ cpus_file)) ≡ text_in calls (root ++ (folder s h ++ cpus_file))
  cpus_of_other h other placed =
      let file = root ++ (folder new h ++ cpus_file) in
      made_elsewhere (done (Written (root ++ (folder s parent ++ controls_file)) controls_line) ∷ calls) path file
      (λ e. another h other placed (one_folder root (folder new g) (folder new h) cpus_file (sym (file_new cpus_file) ∙ e)))
      (λ e. two_files root (folder new h) (folder new g) (sym e ∙ file_new mems_file))
      ∙ written_elsewhere calls (root ++ (folder s parent ++ controls_file)) controls_line file (not_controls root (folder s parent) (folder new h))
      ∙ ap (λ (f : List ℕ). text_in calls (root ++ (f ++ cpus_file))) (folder_old h (old_of h other placed))

  mems_of_other : (h : Group) → same_group g h ≡ false → is_some (place_of new h) ≡ true → text_in asked (root ++ (folder new h ++ mems_file)) ≡ text_in calls (root ++ (folder s h ++ mems_file))
  mems_of_other h other placed =
      let file = root ++ (folder new h ++ mems_file) in
      made_elsewhere (done (Written (root ++ (folder s parent ++ controls_file)) controls_line) ∷ calls) path file
      (λ e. two_files root (folder new g) (folder new h) (sym (file_new cpus_file) ∙ e))
      (λ e. another h other placed (one_folder root (folder new g) (folder new h) mems_file (sym (file_new mems_file) ∙ e)))
      ∙ written_elsewhere calls (root ++ (folder s parent ++ controls_file)) controls_line file (not_controls_too root (folder s parent) (folder new h))
      ∙ ap (λ (f : List ℕ). text_in calls (root ++ (f ++ mems_file))) (folder_old h (old_of h other placed))

  cpus_made : (h : Group) → is_some (place_of new h) ≡ true → IsLineOf (text_in asked (root ++ (folder new h ++ cpus_file))) (requested_cpus new h)
  cpus_made h placed =
      elim (same_group g h) as (λ t. same_group g h ≡ t → IsLineOf (text_in asked (root ++ (folder new h ++ cpus_file))) (requested_cpus new h)) [
        | true ↦ λ is. subst (λ (k : Group). IsLineOf (text_in asked (root ++ (folder new k ++ cpus_file))) (requested_cpus new k)) (same_group-equal g h is)
            (rw (made_here (done (Written (root ++ (folder s parent ++ controls_file)) controls_line) ∷ calls) path (root ++ (folder new g ++ cpus_file)) (file_new cpus_file)) (ap cpus_in added.there))
        | false ↦ λ other. rw (cpus_of_other h other placed, added.cpus h) (stands.cpus h (placed_was h other placed))
      ] refl

  mems_made : (h : Group) → is_some (place_of new h) ≡ true → IsMemsLineOf memory (text_in asked (root ++ (folder new h ++ mems_file))) (requested_mems new h)
  mems_made h placed =
      elim (same_group g h) as (λ t. same_group g h ≡ t → IsMemsLineOf memory (text_in asked (root ++ (folder new h ++ mems_file))) (requested_mems new h)) [
        | true ↦ λ is. subst (λ (k : Group). IsMemsLineOf memory (text_in asked (root ++ (folder new k ++ mems_file))) (requested_mems new k)) (same_group-equal g h is)
            (rw (made_here_too (done (Written (root ++ (folder s parent ++ controls_file)) controls_line) ∷ calls) path (root ++ (folder new g ++ mems_file)) (file_new mems_file)) (ap mems_in added.there))
        | false ↦ λ other. rw (mems_of_other h other placed, added.mems h) (stands.mems h (placed_was h other placed))
      ] refl

removed_nowhere : (calls : List Asked) (path file : List ℕ) → text_in (done (Removed path) ∷ calls) file ≡ text_in calls file
unfolding text_in
removed_nowhere calls path file = refl

unmade_nowhere : (calls : List Asked) (path file : List ℕ) → text_in (done (Unmade path) ∷ calls) file ≡ text_in calls file
unfolding text_in
unmade_nowhere calls path file = refl

-- a folder that is unmade
pub gone : (root : List ℕ) (memory : Ids) (s : TreeState) (path : List ℕ) (calls : List Asked) → StandsFor root memory s calls
    → StandsFor root memory s (done (Unmade path) ∷ calls)
gone root memory s path calls stands = record {
  cpus = λ h placed. rw (unmade_nowhere calls path (root ++ (folder s h ++ cpus_file))) (stands.cpus h placed);
  mems = λ h placed. rw (unmade_nowhere calls path (root ++ (folder s h ++ mems_file))) (stands.mems h placed);
}

compared_nowhere : (calls : List Asked) (path line file : List ℕ) → text_in (done (Compared path line) ∷ calls) file ≡ text_in calls file
unfolding text_in
compared_nowhere calls path line file = refl

told_nowhere : (calls : List Asked) (path : List ℕ) (remark : Remark) (file : List ℕ) → text_in (done (Told path remark) ∷ calls) file ≡ text_in calls file
unfolding text_in
told_nowhere calls path remark file = refl

-- what is told
pub noted : (root : List ℕ) (memory : Ids) (s : TreeState) (path : List ℕ) (remark : Remark) (calls : List Asked) → StandsFor root memory s calls
    → StandsFor root memory s (done (Told path remark) ∷ calls)
noted root memory s path remark calls stands = record {
  cpus = λ h placed. rw (told_nowhere calls path remark (root ++ (folder s h ++ cpus_file))) (stands.cpus h placed);
  mems = λ h placed. rw (told_nowhere calls path remark (root ++ (folder s h ++ mems_file))) (stands.mems h placed);
}

-- what is refused and told
pub refused_and_told : (root : List ℕ) (memory : Ids) (s : TreeState) (deed : Deed) (calls : List Asked) → StandsFor root memory s calls
    → StandsFor root memory s (refusal deed ++ calls)
refused_and_told root memory s deed calls stands =
    noted root memory s (path_of deed) (remark_on deed) (refused deed ∷ calls) (writes_stand.refused root memory s deed calls stands)

-- a file that is compared, and is as it has to be
pub compared : (root : List ℕ) (memory : Ids) (s : TreeState) (path line : List ℕ) (calls : List Asked) → StandsFor root memory s calls
    → StandsFor root memory s (done (Compared path line) ∷ calls)
compared root memory s path line calls stands = record {
  cpus = λ h placed. rw (compared_nowhere calls path line (root ++ (folder s h ++ cpus_file))) (stands.cpus h placed);
  mems = λ h placed. rw (compared_nowhere calls path line (root ++ (folder s h ++ mems_file))) (stands.mems h placed);
}

-- a file that is looked at, whatever it has
pub looked_at : (root : List ℕ) (memory : Ids) (s : TreeState) (path line : List ℕ) (same : Bool) (calls : List Asked) → StandsFor root memory s calls
    → StandsFor root memory s (looked (Compared path line) same ++ calls)
looked_at root memory s path line true calls stands = compared root memory s path line calls stands
looked_at root memory s path line false calls stands = refused_and_told root memory s (Compared path line) calls stands

-- the files that are looked at behind a write
pub looked_behind : (partition : Bool) (root : List ℕ) (memory : Ids) (s : TreeState) (path line : List ℕ) (same intact : Bool) (write : Asked) (calls : List Asked) → StandsFor root memory s (write ∷ calls)
    → StandsFor root memory s ((looks_behind partition root (Compared path line) same intact ++ write ∷ []) ++ calls)
looked_behind false root memory s path line same intact write calls stands =
    rw (append_assoc (looked (Compared path line) same) (write ∷ []) calls) (looked_at root memory s path line same (write ∷ calls) stands)
looked_behind true root memory s path line same intact write calls stands =
    let partition : List Asked = looked (Compared (root ++ partition_file) partition_line) intact in
    let effect : List Asked = looked (Compared path line) same in
    rw (append_assoc (partition ++ effect) (write ∷ []) calls, append_assoc partition effect (write ∷ calls))
    (looked_at root memory s (root ++ partition_file) partition_line intact (effect ++ write ∷ calls) (looked_at root memory s path line same (write ∷ calls) stands))

-- the controllers that are passed on
pub passed_on : (root : List ℕ) (memory : Ids) (s : TreeState) (parent : Group) (calls : List Asked) → StandsFor root memory s calls
    → StandsFor root memory s (done (Written (root ++ (folder s parent ++ controls_file)) controls_line) ∷ calls)
passed_on root memory s parent calls stands = record {
  cpus = λ h placed. rw (written_elsewhere calls (root ++ (folder s parent ++ controls_file)) controls_line (root ++ (folder s h ++ cpus_file))
      (not_controls root (folder s parent) (folder s h))) (stands.cpus h placed);
  mems = λ h placed. rw (written_elsewhere calls (root ++ (folder s parent ++ controls_file)) controls_line (root ++ (folder s h ++ mems_file))
      (not_controls_too root (folder s parent) (folder s h))) (stands.mems h placed);
}

-- a folder that is made where no group gets it
pub unmade : (root : List ℕ) (memory : Ids) (s : TreeState) (parent : Group) (name : List ℕ) (calls : List Asked)
    → ((h : Group) → is_some (place_of s h) ≡ true → folder s h ≡ folder s parent ++ below name → ⊥)
    → StandsFor root memory s calls → StandsFor root memory s (done (Made (root ++ (folder s parent ++ below name))) ∷ calls)
unmade root memory s parent name calls none stands =
    let within : List ℕ = folder s parent ++ below name in
    record {
      cpus = λ h placed. rw (made_elsewhere calls (root ++ within) (root ++ (folder s h ++ cpus_file))
          (λ e. none h placed (sym (one_folder root within (folder s h) cpus_file (sym (append_assoc root within cpus_file) ∙ e))))
          (λ e. two_files root (folder s h) within (sym e ∙ append_assoc root within mems_file))) (stands.cpus h placed);
      mems = λ h placed. rw (made_elsewhere calls (root ++ within) (root ++ (folder s h ++ mems_file))
          (λ e. two_files root within (folder s h) (sym (append_assoc root within cpus_file) ∙ e))
          (λ e. none h placed (sym (one_folder root within (folder s h) mems_file (sym (append_assoc root within mems_file) ∙ e))))) (stands.mems h placed);
    }

-- a group that is removed: what folders are left
module _ (s : TreeState) (g : Group) (formed : IsWellFormed (without_group s g)) where
  others_left : (h : Group) → has_group (without_group s g) h ≡ true → same_group g h ≡ false
  others_left h there =
      false_from_ne_true (same_group g h) (λ is.
      both_ways (has_group (without_group s g) h) (ap (has_group (without_group s g)) (sym (same_group-equal g h is)) ∙ ap is_some (removed_leaves s g).gone) there)

  pub there_left : (h : Group) → is_some (place_of (without_group s g) h) ≡ true → has_group (without_group s g) h ≡ true
  there_left h placed = there_in (entry_of (without_group s g) h) placed

  pub entry_left : (h : Group) → has_group (without_group s g) h ≡ true → entry_of s h ≡ entry_of (without_group s g) h
  entry_left h there = sym ((removed_leaves s g).others h (others_left h there))

  pub folder_left : (h : Group) → has_group (without_group s g) h ≡ true → folder s h ≡ folder (without_group s g) h
  folder_left h there = folder_kept (without_group s g) s (λ (q : Group). has_group (without_group s g) q ≡ true) (λ q at. ap place_in (entry_left q at))
      (λ a b label at is. let e = entry_placed (without_group s g) a b label is in (parent_is_there (without_group s g) a b e.entry formed e.there e.above).0) (suc h.serial) h there

-- a folder that is removed
module _ (root : List ℕ) (memory : Ids) (s : TreeState) (g : Group) (path : List ℕ) (calls : List Asked) (formed : IsWellFormed (without_group s g)) (stands : StandsFor root memory s calls) where
  abbrev left : TreeState
  left = without_group s g

  cpus_left : (h : Group) → is_some (place_of left h) ≡ true → IsLineOf (text_in (done (Removed path) ∷ calls) (root ++ (folder left h ++ cpus_file))) (requested_cpus left h)
  cpus_left h placed =
      let there : has_group left h ≡ true = there_left s g formed h placed in
      rw (removed_nowhere calls path (root ++ (folder left h ++ cpus_file)), sym (folder_left s g formed h there), sym (ap cpus_in (entry_left s g formed h there)))
      (stands.cpus h (ap (λ (o : Option GroupEntry). is_some (place_in o)) (entry_left s g formed h there) ∙ placed))

  mems_left : (h : Group) → is_some (place_of left h) ≡ true → IsMemsLineOf memory (text_in (done (Removed path) ∷ calls) (root ++ (folder left h ++ mems_file))) (requested_mems left h)
  mems_left h placed =
      let there : has_group left h ≡ true = there_left s g formed h placed in
      rw (removed_nowhere calls path (root ++ (folder left h ++ mems_file)), sym (folder_left s g formed h there), sym (ap mems_in (entry_left s g formed h there)))
      (stands.mems h (ap (λ (o : Option GroupEntry). is_some (place_in o)) (entry_left s g formed h there) ∙ placed))

pub folders_stand : FoldersStand
folders_stand = record {
  made = λ root memory s new parent g name calls well formed apart adds stands. record {
    cpus = cpus_made root memory s new parent g name calls well formed apart adds stands;
    mems = mems_made root memory s new parent g name calls well formed apart adds stands;
  };
  removed = λ root memory s g path calls formed stands. record {
    cpus = cpus_left root memory s g path calls formed stands;
    mems = mems_left root memory s g path calls formed stands;
  };
}
