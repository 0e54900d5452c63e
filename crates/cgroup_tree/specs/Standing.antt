-- What the files of a cgroup tree have, if they do what they are asked for and nobody else writes them.
-- From: cgroup v2, `cpuset.cpus`, `cpuset.mems`.
use Rattle.std.specs.List.{list_any}
use Rattle.std.specs.Prelude.{◌≡◌, ℕ, true, false, ◌||◌, if◌then◌else◌, List, [], ◌∷◌, ◌++◌, Option, Some, None, is_some}
use Rattle.std.specs.FinSet as set
use Rattle.std.specs.Str.{bytes_eq}
use Rattle.cpu_set.specs.Ids.{Ids}
use Rattle.cpuset_tree.specs.declared.Group.{Group}
use Rattle.cpuset_tree.specs.TreeState.{TreeState}
use Rattle.cpuset_tree.specs.Groups.{same_group, requested_cpus, requested_mems}
use Rattle.cpuset_tree.specs.Places.{place_of}
use Rattle.cpuset_tree.specs.Effective.{granted}
use Rattle.cpuset_tree.specs.TreeChanges.{with_cpus, with_mems, without_group}
use Rattle.cpuset_tree.specs.TreeAnswers.{AddsGroup}
use Rattle.cgroup_tree.specs.Asked.{Deed, Made, Removed, Unmade, Written, Compared, Locked, Told, Named, Asked, done, refused}
use Rattle.cpuset_tree.specs.TreeWellFormed.{IsWellFormed}
use Rattle.kernel_model.specs.Names.{HaveOwnNames}
use Rattle.cgroup_tree.specs.Paths.{is_slash, folder, below, cpus_file, mems_file, controls_file, controls_line, kill_file, kill_line, list_line}

-- the text of a file once this was done, given what it was: the files of a new folder have none
abbrev pub text_after : Deed → List ℕ → Option (List ℕ) → Option (List ℕ)
text_after (Made path) file text = if bytes_eq (path ++ cpus_file) file || bytes_eq (path ++ mems_file) file then None else text
text_after (Removed path) file text = text
text_after (Unmade path) file text = text
text_after (Written path line) file text = if bytes_eq path file then Some line else text
text_after (Compared path line) file text = text
text_after (Locked path) file text = text
text_after (Told path remark) file text = text
text_after (Named path strangers) file text = text

-- the text that a file has after these calls, the newest first, if files do what they answer
unfoldable pub text_in : List Asked → List ℕ → Option (List ℕ)
text_in [] file = None
text_in (call ∷ before) file = if call.done then text_after call.deed file (text_in before file) else text_in before file

-- a file is the line of a set; one that was not written yet stands for the empty set
abbrev pub IsLineOf : Option (List ℕ) → Ids → Type 0
IsLineOf None ids = ids ≡ set.empty
IsLineOf (Some line) ids = line ≡ list_line ids

-- a file is the line of those of some nodes that have memory
abbrev pub IsMemsLineOf : Ids → Option (List ℕ) → Ids → Type 0
IsMemsLineOf memory None ids = ids ≡ set.empty
IsMemsLineOf memory (Some line) ids = line ≡ list_line (granted ids memory)

-- each group's files have what it requests, where these nodes are the ones that have memory
pub record StandsFor (root : List ℕ) (memory : Ids) (s : TreeState) (calls : List Asked) : Type 0 where
  pub cpus : (g : Group) → is_some (place_of s g) ≡ true → IsLineOf (text_in calls (root ++ (folder s g ++ cpus_file))) (requested_cpus s g)
  pub mems : (g : Group) → is_some (place_of s g) ≡ true → IsMemsLineOf memory (text_in calls (root ++ (folder s g ++ mems_file))) (requested_mems s g)

-- no two groups have one folder
abbrev pub AreApart : TreeState → Type 0
AreApart s = (g h : Group) → is_some (place_of s g) ≡ true → is_some (place_of s h) ≡ true → folder s g ≡ folder s h → same_group g h ≡ true

-- the name of each group but the root is one of a folder: it has no slash
abbrev pub HavePlainNames : TreeState → Type 0
HavePlainNames s = (g p : Group) (name : List ℕ) → place_of s g ≡ Some (p, name) → list_any is_slash name ≡ false

-- so it is where names are plain and children of one group differ in theirs
abbrev pub PlainNamesApart : Type 0
PlainNamesApart = (s : TreeState) → IsWellFormed s → HaveOwnNames s.groups → HavePlainNames s → AreApart s

-- a write that was done keeps it so, and one that was refused
pub record WritesStand : Type 0 where
  pub cpus : (root : List ℕ) (memory : Ids) (s : TreeState) (g : Group) (cpus : Ids) (calls : List Asked) → AreApart s → is_some (place_of s g) ≡ true
      → StandsFor root memory s calls → StandsFor root memory (with_cpus s g cpus) (done (Written (root ++ (folder s g ++ cpus_file)) (list_line cpus)) ∷ calls)
  pub mems : (root : List ℕ) (memory : Ids) (s : TreeState) (g : Group) (mems : Ids) (calls : List Asked) → AreApart s → is_some (place_of s g) ≡ true
      → StandsFor root memory s calls → StandsFor root memory (with_mems s g mems) (done (Written (root ++ (folder s g ++ mems_file)) (list_line (granted mems memory))) ∷ calls)
  pub killed : (root : List ℕ) (memory : Ids) (s : TreeState) (g : Group) (calls : List Asked)
      → StandsFor root memory s calls → StandsFor root memory s (done (Written (root ++ (folder s g ++ kill_file)) kill_line) ∷ calls)
  pub refused : (root : List ℕ) (memory : Ids) (s : TreeState) (deed : Deed) (calls : List Asked) → StandsFor root memory s calls
      → StandsFor root memory s (refused deed ∷ calls)

-- so do a folder that was made, in which the parent's controllers were passed on before, and one that was removed
pub record FoldersStand : Type 0 where
  pub made : (root : List ℕ) (memory : Ids) (s new : TreeState) (parent g : Group) (name : List ℕ) (calls : List Asked) → IsWellFormed s → IsWellFormed new → AreApart new
      → AddsGroup s parent name g new → StandsFor root memory s calls
      → StandsFor root memory new (done (Made (root ++ (folder s parent ++ below name))) ∷ done (Written (root ++ (folder s parent ++ controls_file)) controls_line) ∷ calls)
  pub removed : (root : List ℕ) (memory : Ids) (s : TreeState) (g : Group) (path : List ℕ) (calls : List Asked) → IsWellFormed (without_group s g)
      → StandsFor root memory s calls → StandsFor root memory (without_group s g) (done (Removed path) ∷ calls)
