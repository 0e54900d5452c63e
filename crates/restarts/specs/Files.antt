-- What the files of a tree name when a run ends in the midst of a call.
-- From: cgroup v2, `cpuset.cpus`.
use Rattle.std.specs.Prelude.{◌≡◌, ◌≢◌, ◌⊎◌, ℕ, true, List, [], ◌∷◌, ◌++◌, Some, Ok, is_some}
use Rattle.std.specs.FinSet as set
use Rattle.cpu_set.specs.Ids.{Ids}
use Rattle.cpu_set.specs.Members.{InRange}
use Rattle.cpuset_tree.specs.declared.Group.{Group}
use Rattle.cpuset_tree.specs.Groups.{requested_cpus}
use Rattle.cpuset_tree.specs.Places.{place_of}
use Rattle.cpuset_tree.specs.TreeState.{TreeState}
use Rattle.kernel_model.specs.KernelState.{KernelState}
use Rattle.cgroup_tree.specs.Asked.{Asked}
use Rattle.cgroup_tree.specs.Events.{Event, Past, Happens, AsksFor}
use Rattle.cgroup_tree.specs.Paths.{folder, cpus_file}
use Rattle.cgroup_tree.specs.Site.{Site}
use Rattle.cgroup_tree.specs.Standing.{text_in, StandsFor}
use Rattle.runtime.specs.Answered.{NamesCpus}

-- P holds of these calls, the newest first, and of those that were made at each moment before
abbrev pub AtEachMoment : (List Asked → Type 0) → List Asked → Type 0
AtEachMoment P [] = P []
AtEachMoment P (call ∷ before) = P (call ∷ before) × AtEachMoment P before

-- in the midst of a call of the kernel the files stand for what is requested before it or after it. So it is when a file is
-- written and the model is not yet.
abbrev pub MomentsStand : Type 0
MomentsStand =
    (site : Site) (past : List Event) (event : Event) (old new : KernelState) (before these : List Asked) → Past site past old before
    → Happens old event new → AsksFor site.root site.memory site.partition old event new these
    → AtEachMoment (λ so_far. StandsFor site.root site.memory old.tree (so_far ++ before) ⊎ StandsFor site.root site.memory new.tree (so_far ++ before)) these

-- a file has a list and a line feed, and the list of an `adopt` that is this one names these CPUs
pub record IsFileOf (calls : List Asked) (file : List ℕ) (cpus : Ids) : Type 0 where
  pub list : List ℕ
  pub text : text_in calls file ≡ Some (list ++ 10 ∷ [])
  pub names : NamesCpus list (Ok cpus)

-- the file of a group that requests some CPUs has their list, where files stand for the tree
abbrev pub FilesNameCpus : Type 0
FilesNameCpus =
    (root : List ℕ) (memory : Ids) (s : TreeState) (calls : List Asked) (g : Group) → StandsFor root memory s calls → is_some (place_of s g) ≡ true
    → requested_cpus s g ≢ set.empty → InRange (requested_cpus s g) → IsFileOf calls (root ++ (folder s g ++ cpus_file)) (requested_cpus s g)
