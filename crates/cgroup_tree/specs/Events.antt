-- What was called of a mirrored kernel, and what each call asked of the files.
use Rattle.std.specs.Prelude.{◌≡◌, ◌⊎◌, ℕ, Bool, List, [], ◌∷◌, ◌++◌, Option, Some, None, Result, Ok, Err}
use Rattle.faults.specs.declared.or_memory.OrMemory.{OrMemory}
use Rattle.faults.specs.declared.or_memory.OrMemory.TheVariants.{Memory, Fault}
use Rattle.cpu_set.specs.Ids.{Ids}
use Rattle.cpuset_tree.specs.declared.Group.{Group}
use Rattle.cpuset_tree.specs.Places.{place_of}
use Rattle.cpuset_tree.specs.Effective.{effective_cpus, granted}
use Rattle.kernel_model.specs.declared.KernelFault.{KernelFault}
use Rattle.kernel_model.specs.declared.KernelFault.TheVariants.{Failed}
use Rattle.kernel_model.specs.Trace.{WritingCall, MadeGroup, RemovedGroup, WroteCpus, WroteMems, EndedGroup}
use Rattle.kernel_model.specs.KernelState.{KernelState}
use Rattle.kernel_model.specs.WellFormed.{IsWellFormed}
use Rattle.kernel_model.specs.Cases.{IsMade, Forks, Exits, GoesOffline, ComesOnline}
use Rattle.cgroup_tree.specs.Asked.{Deed, Made, Removed, Unmade, Written, Compared, Asked, NoRoom, NoName, IsLeft, Opening, done, refusal, notice}
use Rattle.cgroup_tree.specs.Paths.{folder, below, list_line, cpus_file, cpus_in_effect, mems_file, kill_file, controls_file, kill_line, controls_line}
use Rattle.cgroup_tree.specs.Mirrored.{IsNamed, looks_behind}
use Rattle.cgroup_tree.specs.Site.{Begins, Site, opening}

-- a writing call with what it answered, or an event of the kernel with its answer
pub data Event : Type 0 where
  Wrote : WritingCall → Event
  Forked : ℕ → Result ℕ (OrMemory KernelFault) → Event
  Exited : ℕ → Result (Unit {0}) KernelFault → Event
  WentOffline : ℕ → Result (Unit {0}) KernelFault → Event
  CameOnline : ℕ → Result (Unit {0}) KernelFault → Event

-- a call is its case of the model
abbrev pub Happens : KernelState → Event → KernelState → Type 0
Happens old (Wrote call) new = IsMade old call new
Happens old (Forked parent r) new = Forks old parent r new
Happens old (Exited pid r) new = Exits old pid r new
Happens old (WentOffline cpu r) new = GoesOffline old cpu r new
Happens old (CameOnline cpu r) new = ComesOnline old cpu r new

-- the writing calls among them
abbrev pub writes_among : List Event → List WritingCall
writes_among [] = []
writes_among (Wrote call ∷ past) = call ∷ writes_among past
writes_among (Forked parent r ∷ past) = writes_among past
writes_among (Exited pid r ∷ past) = writes_among past
writes_among (WentOffline cpu r ∷ past) = writes_among past
writes_among (CameOnline cpu r ∷ past) = writes_among past

-- what a write asked of the files, the newest first: where it is Ok this, which was done; where it failed this, which was refused
-- and told; and nothing where something stood against it
abbrev pub IsAsked : {A : Type 0} → Deed → Result A KernelFault → List Asked → Type 0
IsAsked deed (Ok value) these = these ≡ done deed ∷ []
IsAsked deed (Err Failed) these = these ≡ refusal deed
IsAsked deed (Err fault) these = these ≡ []

-- the same of a group that has a place; the root's own files are left, whatever was answered, and if it failed this is told
abbrev pub IsAskedAt : {P A : Type 0} → Option P → (root : List ℕ) → Deed → Result A KernelFault → List Asked → Type 0
IsAskedAt None root deed (Err Failed) these = these ≡ notice root IsLeft
IsAskedAt None root deed answer these = these ≡ []
IsAskedAt (Some place) root deed answer these = IsAsked deed answer these

-- of a write of CPUs, behind which these looks are taken
abbrev pub AreAskedAndLooked : {A : Type 0} → (write : Deed) → (looks : Bool → Bool → List Asked) → Result A KernelFault → List Asked → Type 0
AreAskedAndLooked write looks (Ok value) these = (same : Bool) × (intact : Bool) × (these ≡ looks same intact ++ done write ∷ [])
AreAskedAndLooked write looks (Err Failed) these = these ≡ refusal write
AreAskedAndLooked write looks (Err fault) these = these ≡ []

-- nothing was asked for, and why not was told of a folder of this name
abbrev pub IsNoticed : List ℕ → List Asked → Type 0
IsNoticed name these = (these ≡ notice name NoRoom) ⊎ (these ≡ notice name NoName)

-- of a new group of this name: the first and then the second, and the third where its allocation in the model failed
abbrev pub AreAsked : {A : Type 0} → (name : List ℕ) → Deed → Deed → Deed → Result A (OrMemory KernelFault) → List Asked → Type 0
AreAsked name first then undone (Ok value) these = these ≡ done then ∷ done first ∷ []
AreAsked name first then undone (Err Memory) these =
    (these ≡ done undone ∷ done then ∷ done first ∷ []) ⊎ (these ≡ refusal undone ++ done then ∷ done first ∷ [])
AreAsked name first then undone (Err (Fault Failed)) these = (these ≡ refusal then ++ done first ∷ []) ⊎ (these ≡ refusal first) ⊎ IsNoticed name these
AreAsked name first then undone (Err (Fault fault)) these = these ≡ []

-- where the root group's folder is this, these nodes have memory, and the root has to be a partition root or not
module _ (root : List ℕ) (memory : Ids) (partition : Bool) where
  -- the file of a group, or its folder
  abbrev pub file_of : KernelState → Group → List ℕ → List ℕ
  file_of k g file = root ++ (folder k.tree g ++ file)

  -- what a call asks of the files, by its answer; behind a write of CPUs they are compared with what the group has in effect then,
  -- and the root's partition file with `root` if the root has to be a partition root
  abbrev pub AsksFor : KernelState → Event → KernelState → List Asked → Type 0
  AsksFor k (Wrote (MadeGroup parent name r)) new these =
      AreAsked name (Written (file_of k parent controls_file) controls_line) (Made (file_of k parent (below name))) (Unmade (file_of k parent (below name))) r these
      × IsNamed name r
  AsksFor k (Wrote (RemovedGroup g r)) new these = IsAsked (Removed (file_of k g [])) r these
  AsksFor k (Wrote (WroteCpus g cpus r)) new these =
      AreAskedAndLooked (Written (file_of k g cpus_file) (list_line cpus))
      (looks_behind partition root (Compared (file_of new g cpus_in_effect) (list_line (effective_cpus new.tree g)))) r these
  AsksFor k (Wrote (WroteMems g mems r)) new these = IsAsked (Written (file_of k g mems_file) (list_line (granted mems memory))) r these
  AsksFor k (Wrote (EndedGroup g r)) new these = IsAskedAt (place_of k.tree g) root (Written (file_of k g kill_file) kill_line) r these
  AsksFor k event new these = these ≡ []

module _ (site : Site) where
  -- a kernel as it began: of the root group alone
  pub record IsNew (k : KernelState) : Type 0 where
    pub well : IsWellFormed k
    pub first : Begins site.first k

  -- these calls led from such a kernel to this one, and asked for this; the newest stands first in both
  unfoldable pub Past : List Event → KernelState → List Asked → Type 0
  Past [] k asked = IsNew k × (asked ≡ [])
  Past (event ∷ past) k asked =
      (old : KernelState) × (before : List Asked) × (these : List Asked)
      × Past past old before × Happens old event k × AsksFor site.root site.memory site.partition old event k these × (asked ≡ these ++ before)

-- all that was asked of the files is what the calls of the kernel stand for, in their order, from its beginning on. The writing
-- calls among these are just those that the kernel was asked for. The files are opened so, and keep other
-- programs from the root.
pub record IsMirrored {F : Type 0} (asked : F → Opening → List Asked → Type 0) (site : Site) (k : KernelState) (files : F) : Type 0 where
  pub past : List Event
  pub calls : List Asked
  pub was : Past site past k calls
  pub told : writes_among past ≡ k.trace
  pub made : asked files (opening site) calls

-- a mirrored kernel that has this root, these nodes with memory, and a root that has to be a partition root or not
pub record IsMirroredAt {F : Type 0} (asked : F → Opening → List Asked → Type 0) (site : Site) (root : List ℕ) (memory : Ids) (partition : Bool) (k : KernelState) (files : F) : Type 0 where
  pub mirrored : IsMirrored asked site k files
  pub root_is : root ≡ site.root
  pub memory_is : memory ≡ site.memory
  pub partition_is : partition ≡ site.partition
