-- The laws of standing, proved.
use Rattle.std.proofs.Common.{◌≡◌, ℕ, zero, suc, Bool, true, false, refl, sym, ap, ◌∙◌, arith}
use Rattle.std.specs.Prelude.{List, [], ◌∷◌, ◌++◌, length, Option, Some, None, is_some, option_map, if◌then◌else◌}
use Rattle.std.specs.Str.{bytes_eq}
use Rattle.std.proofs.lemmas.Bool.{both_ways, false_from_ne_true}
use Rattle.std.proofs.lemmas.List.{append_cancel_left, append_cancel_right, length-append}
use Rattle.std.proofs.lemmas.Slice.Eq.{bytes_eq-Decides}
use Rattle.cpu_set.specs.Ids.{Ids}
use Rattle.cpuset_tree.specs.declared.Group.{Group}
use Rattle.cpuset_tree.specs.TreeState.{GroupEntry, TreeState}
use Rattle.cpuset_tree.specs.Groups.{same_group, entry_of, requested_cpus, requested_mems}
use Rattle.cpuset_tree.specs.GroupLemmas.{same_group-equal}
use Rattle.cpuset_tree.specs.Places.{place_in, place_of}
use Rattle.cpuset_tree.specs.Effective.{granted}
use Rattle.cpuset_tree.specs.TreeChanges.{requesting_cpus, requesting_mems, with_cpus, with_mems}
use Rattle.cpuset_tree.specs.TreeLemmas.{entry_of-with_cpus, entry_of-with_mems, writes_request}
use Rattle.cgroup_tree.specs.Asked.{Deed, Written, Asked, done, refused}
use Rattle.cgroup_tree.specs.Paths.{folder, folder_at, folder_within, below, cpus_file, mems_file, kill_file, kill_line, list_line}
use Rattle.cgroup_tree.specs.Standing.{text_in, IsLineOf, IsMemsLineOf, StandsFor, AreApart, WritesStand}
use Rattle.cgroup_tree.specs.ApartLemmas.{there_in, rest}

-- the file that was written, and another
written_here : (calls : List Asked) (path line : List ℕ) → text_in (done (Written path line) ∷ calls) path ≡ Some line
unfolding text_in
written_here calls path line = ap (λ (b : Bool). if b then Some line else text_in calls path) ((bytes_eq-Decides path path).1 refl)

pub written_elsewhere : (calls : List Asked) (path line file : List ℕ) → (path ≡ file → ⊥) → text_in (done (Written path line) ∷ calls) file ≡ text_in calls file
unfolding text_in
written_elsewhere calls path line file differs =
    ap (λ (b : Bool). if b then Some line else text_in calls file) (false_from_ne_true (bytes_eq path file) (λ e. differs ((bytes_eq-Decides path file).0 e)))

refused_nowhere : (calls : List Asked) (deed : Deed) (file : List ℕ) → text_in (refused deed ∷ calls) file ≡ text_in calls file
unfolding text_in
refused_nowhere calls deed file = refl

-- files of one name in folders that differ, and of the two names
pub ends_alike : (xs ys a b : List ℕ) → length a ≡ length b → xs ++ a ≡ ys ++ b → a ≡ b
unfolding rest
ends_alike [] [] a b long e = e
ends_alike [] (y ∷ ys) a b long e = absurd (omega (arith, long, ap length e, length-append ys b))
ends_alike (x ∷ xs) [] a b long e = absurd (omega (arith, long, ap length e, length-append xs a))
ends_alike (x ∷ xs) (y ∷ ys) a b long e = ends_alike xs ys a b long (ap rest e)

ninth : List ℕ → ℕ
ninth (a ∷ b ∷ c ∷ d ∷ e ∷ f ∷ g ∷ h ∷ i ∷ others) = i
ninth others = 0

pub two_files : (root here there : List ℕ) → root ++ (here ++ cpus_file) ≡ root ++ (there ++ mems_file) → ⊥
unfolding ninth
two_files root here there e =
    let same : cpus_file ≡ mems_file = ends_alike here there cpus_file mems_file refl (append_cancel_left root (here ++ cpus_file) (there ++ mems_file) e) in
    let letter : 99 ≡ 109 = ap ninth same in
    absurd (omega (arith, letter))

pub one_folder : (root here there file : List ℕ) → root ++ (here ++ file) ≡ root ++ (there ++ file) → here ≡ there
one_folder root here there file e = append_cancel_right here there file (append_cancel_left root (here ++ file) (there ++ file) e)

-- groups that stand in the same places have the same folders
folder_at_same : (here there : Group → List ℕ) → ((p : Group) → here p ≡ there p) → (o : Option (Group × List ℕ)) → folder_at here o ≡ folder_at there o
folder_at_same here there same None = refl
folder_at_same here there same (Some place) = ap (λ (above : List ℕ). above ++ below place.1) (same place.0)

pub folder_same : (s t : TreeState) → ((p : Group) → place_of t p ≡ place_of s p) → (n : ℕ) (g : Group) → folder_within n t g ≡ folder_within n s g
unfolding folder_within
folder_same s t same zero g = refl
folder_same s t same (suc n) g =
    ap (folder_at (folder_within n t)) (same g) ∙ folder_at_same (folder_within n t) (folder_within n s) (λ p. folder_same s t same n p) (place_of s g)

-- the file by which processes are ended is no list
not_cpus : (root here there : List ℕ) → root ++ (here ++ kill_file) ≡ root ++ (there ++ cpus_file) → ⊥
unfolding ninth
not_cpus root here there e =
    let same : kill_file ≡ cpus_file = ends_alike here there kill_file cpus_file refl (append_cancel_left root (here ++ kill_file) (there ++ cpus_file) e) in
    let letter : 107 ≡ 99 = ap ninth same in
    absurd (omega (arith, letter))

not_mems : (root here there : List ℕ) → root ++ (here ++ kill_file) ≡ root ++ (there ++ mems_file) → ⊥
unfolding ninth
not_mems root here there e =
    let same : kill_file ≡ mems_file = ends_alike here there kill_file mems_file refl (append_cancel_left root (here ++ kill_file) (there ++ mems_file) e) in
    let letter : 107 ≡ 109 = ap ninth same in
    absurd (omega (arith, letter))

-- a write leaves the places
place_requesting : (g : Group) (cpus : Ids) (e : GroupEntry) → place_in (Some (requesting_cpus g cpus e)) ≡ place_in (Some e)
place_requesting g cpus e =
    elim (same_group e.group g) as (λ t. place_in (Some (if t then record e { cpus = cpus } else e)) ≡ place_in (Some e)) [ true ↦ refl | false ↦ refl ]

place_written : (g : Group) (cpus : Ids) (o : Option GroupEntry) (new : Option GroupEntry)
    → new ≡ option_map (requesting_cpus g cpus) o → place_in new ≡ place_in o
place_written g cpus None new is = ap place_in is
place_written g cpus (Some e) new is = ap place_in is ∙ place_requesting g cpus e

pub places_written : (s : TreeState) (g : Group) (cpus : Ids) (p : Group) → place_of (with_cpus s g cpus) p ≡ place_of s p
places_written s g cpus p = place_written g cpus (entry_of s p) (entry_of (with_cpus s g cpus) p) (entry_of-with_cpus s g cpus p)

place_requesting_mems : (g : Group) (mems : Ids) (e : GroupEntry) → place_in (Some (requesting_mems g mems e)) ≡ place_in (Some e)
place_requesting_mems g mems e =
    elim (same_group e.group g) as (λ t. place_in (Some (if t then record e { mems = mems } else e)) ≡ place_in (Some e)) [ true ↦ refl | false ↦ refl ]

place_written_mems : (g : Group) (mems : Ids) (o : Option GroupEntry) (new : Option GroupEntry)
    → new ≡ option_map (requesting_mems g mems) o → place_in new ≡ place_in o
place_written_mems g mems None new is = ap place_in is
place_written_mems g mems (Some e) new is = ap place_in is ∙ place_requesting_mems g mems e

pub places_written_mems : (s : TreeState) (g : Group) (mems : Ids) (p : Group) → place_of (with_mems s g mems) p ≡ place_of s p
places_written_mems s g mems p = place_written_mems g mems (entry_of s p) (entry_of (with_mems s g mems) p) (entry_of-with_mems s g mems p)

-- a write of the CPUs of a group
module _ (root : List ℕ) (memory : Ids) (s : TreeState) (g : Group) (cpus : Ids) (calls : List Asked) (apart : AreApart s)
    (here : is_some (place_of s g) ≡ true) (stands : StandsFor root memory s calls) where
  abbrev new : TreeState
  new = with_cpus s g cpus

  abbrev path : List ℕ
  path = root ++ (folder s g ++ cpus_file)

  abbrev asked : List Asked
  asked = done (Written path (list_line cpus)) ∷ calls

  folder_is : (h : Group) → folder new h ≡ folder s h
  folder_is h = folder_same s new (places_written s g cpus) (suc h.serial) h

  placed_was : (h : Group) → is_some (place_of new h) ≡ true → is_some (place_of s h) ≡ true
  placed_was h placed = sym (ap is_some (places_written s g cpus h)) ∙ placed

  own : (h : Group) → g ≡ h → IsLineOf (text_in asked (root ++ (folder new h ++ cpus_file))) (requested_cpus new h)
  own h is =
      let file : root ++ (folder new h ++ cpus_file) ≡ path = ap (λ (f : List ℕ). root ++ (f ++ cpus_file)) (folder_is h ∙ ap (folder s) (sym is)) in
      let text : text_in asked (root ++ (folder new h ++ cpus_file)) ≡ Some (list_line cpus) = ap (text_in asked) file ∙ written_here calls path (list_line cpus) in
      let requested : requested_cpus new h ≡ cpus = ap (requested_cpus new) (sym is) ∙ (writes_request.0 s g cpus).own (there_in (entry_of s g) here) in
      rw (text, requested) refl

  other : (h : Group) → same_group g h ≡ false → is_some (place_of s h) ≡ true → IsLineOf (text_in asked (root ++ (folder new h ++ cpus_file))) (requested_cpus new h)
  other h differs placed =
      let file : root ++ (folder new h ++ cpus_file) ≡ root ++ (folder s h ++ cpus_file) = ap (λ (f : List ℕ). root ++ (f ++ cpus_file)) (folder_is h) in
      let text : text_in asked (root ++ (folder new h ++ cpus_file)) ≡ text_in calls (root ++ (folder s h ++ cpus_file)) =
      ap (text_in asked) file ∙ written_elsewhere calls path (list_line cpus) (root ++ (folder s h ++ cpus_file))
      (λ e. both_ways (same_group g h) differs (apart g h here placed (one_folder root (folder s g) (folder s h) cpus_file e))) in
      rw (text, (writes_request.0 s g cpus).others h differs) (stands.cpus h placed)

  cpus_stand : (h : Group) → is_some (place_of new h) ≡ true → IsLineOf (text_in asked (root ++ (folder new h ++ cpus_file))) (requested_cpus new h)
  cpus_stand h placed =
      elim (same_group g h) as (λ t. same_group g h ≡ t → IsLineOf (text_in asked (root ++ (folder new h ++ cpus_file))) (requested_cpus new h)) [
        | true ↦ λ is. own h (same_group-equal g h is)
        | false ↦ λ differs. other h differs (placed_was h placed)
      ] refl

  mems_stand : (h : Group) → is_some (place_of new h) ≡ true → IsMemsLineOf memory (text_in asked (root ++ (folder new h ++ mems_file))) (requested_mems new h)
  mems_stand h placed =
      let file : root ++ (folder new h ++ mems_file) ≡ root ++ (folder s h ++ mems_file) = ap (λ (f : List ℕ). root ++ (f ++ mems_file)) (folder_is h) in
      let text : text_in asked (root ++ (folder new h ++ mems_file)) ≡ text_in calls (root ++ (folder s h ++ mems_file)) =
      ap (text_in asked) file ∙ written_elsewhere calls path (list_line cpus) (root ++ (folder s h ++ mems_file)) (λ e. two_files root (folder s g) (folder s h) e) in
      rw (text, (writes_request.0 s g cpus).mems h) (stands.mems h (placed_was h placed))

  cpus_written : StandsFor root memory new asked
  cpus_written = record { cpus = cpus_stand; mems = mems_stand }

-- a write of its memory nodes
module _ (root : List ℕ) (memory : Ids) (s : TreeState) (g : Group) (mems : Ids) (calls : List Asked) (apart : AreApart s)
    (here : is_some (place_of s g) ≡ true) (stands : StandsFor root memory s calls) where
  abbrev after : TreeState
  after = with_mems s g mems

  abbrev file_of_mems : List ℕ
  file_of_mems = root ++ (folder s g ++ mems_file)

  abbrev wanted : List Asked
  wanted = done (Written file_of_mems (list_line (granted mems memory))) ∷ calls

  folder_stays : (h : Group) → folder after h ≡ folder s h
  folder_stays h = folder_same s after (places_written_mems s g mems) (suc h.serial) h

  placed_before : (h : Group) → is_some (place_of after h) ≡ true → is_some (place_of s h) ≡ true
  placed_before h placed = sym (ap is_some (places_written_mems s g mems h)) ∙ placed

  own_mems : (h : Group) → g ≡ h → IsMemsLineOf memory (text_in wanted (root ++ (folder after h ++ mems_file))) (requested_mems after h)
  own_mems h is =
      let file : root ++ (folder after h ++ mems_file) ≡ file_of_mems = ap (λ (f : List ℕ). root ++ (f ++ mems_file)) (folder_stays h ∙ ap (folder s) (sym is)) in
      let text : text_in wanted (root ++ (folder after h ++ mems_file)) ≡ Some (list_line (granted mems memory)) =
      ap (text_in wanted) file ∙ written_here calls file_of_mems (list_line (granted mems memory)) in
      let requested : requested_mems after h ≡ mems = ap (requested_mems after) (sym is) ∙ (writes_request.1 s g mems).own (there_in (entry_of s g) here) in
      rw (text, requested) refl

  other_mems : (h : Group) → same_group g h ≡ false → is_some (place_of s h) ≡ true
      → IsMemsLineOf memory (text_in wanted (root ++ (folder after h ++ mems_file))) (requested_mems after h)
  other_mems h differs placed =
      let file : root ++ (folder after h ++ mems_file) ≡ root ++ (folder s h ++ mems_file) = ap (λ (f : List ℕ). root ++ (f ++ mems_file)) (folder_stays h) in
      let text : text_in wanted (root ++ (folder after h ++ mems_file)) ≡ text_in calls (root ++ (folder s h ++ mems_file)) =
      ap (text_in wanted) file ∙ written_elsewhere calls file_of_mems (list_line (granted mems memory)) (root ++ (folder s h ++ mems_file))
      (λ e. both_ways (same_group g h) differs (apart g h here placed (one_folder root (folder s g) (folder s h) mems_file e))) in
      rw (text, (writes_request.1 s g mems).others h differs) (stands.mems h placed)

  mems_hold : (h : Group) → is_some (place_of after h) ≡ true → IsMemsLineOf memory (text_in wanted (root ++ (folder after h ++ mems_file))) (requested_mems after h)
  mems_hold h placed =
      elim (same_group g h) as (λ t. same_group g h ≡ t → IsMemsLineOf memory (text_in wanted (root ++ (folder after h ++ mems_file))) (requested_mems after h)) [
        | true ↦ λ is. own_mems h (same_group-equal g h is)
        | false ↦ λ differs. other_mems h differs (placed_before h placed)
      ] refl

  cpus_hold : (h : Group) → is_some (place_of after h) ≡ true → IsLineOf (text_in wanted (root ++ (folder after h ++ cpus_file))) (requested_cpus after h)
  cpus_hold h placed =
      let file : root ++ (folder after h ++ cpus_file) ≡ root ++ (folder s h ++ cpus_file) = ap (λ (f : List ℕ). root ++ (f ++ cpus_file)) (folder_stays h) in
      let text : text_in wanted (root ++ (folder after h ++ cpus_file)) ≡ text_in calls (root ++ (folder s h ++ cpus_file)) =
      ap (text_in wanted) file
      ∙ written_elsewhere calls file_of_mems (list_line (granted mems memory)) (root ++ (folder s h ++ cpus_file)) (λ e. two_files root (folder s h) (folder s g) (sym e)) in
      rw (text, (writes_request.1 s g mems).cpus h) (stands.cpus h (placed_before h placed))

  mems_written : StandsFor root memory after wanted
  mems_written = record { cpus = cpus_hold; mems = mems_hold }

pub writes_stand : WritesStand
writes_stand = record {
  cpus = cpus_written;
  mems = mems_written;
  killed = λ root memory s g calls stands. record {
    cpus = λ h placed. rw (written_elsewhere calls (root ++ (folder s g ++ kill_file)) kill_line (root ++ (folder s h ++ cpus_file))
        (not_cpus root (folder s g) (folder s h))) (stands.cpus h placed);
    mems = λ h placed. rw (written_elsewhere calls (root ++ (folder s g ++ kill_file)) kill_line (root ++ (folder s h ++ mems_file))
        (not_mems root (folder s g) (folder s h))) (stands.mems h placed);
  };
  refused = λ root memory s deed calls stands. record {
    cpus = λ g placed. rw (refused_nowhere calls deed (root ++ (folder s g ++ cpus_file))) (stands.cpus g placed);
    mems = λ g placed. rw (refused_nowhere calls deed (root ++ (folder s g ++ mems_file))) (stands.mems g placed);
  };
}
