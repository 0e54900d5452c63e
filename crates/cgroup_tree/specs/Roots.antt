-- What the root of a cgroup tree has to be before a run begins, and why it is refused.
-- From: cgroup v2, "Core Interface Files", `cgroup.controllers`, `cpuset.cpus.effective`, `cpuset.mems.effective`,
-- `cpuset.cpus.partition`; cpuset(7), List Format.
use Rattle.std.specs.Prelude.{◌≡◌, ◌≢◌, ◌⊎◌, ◌==◌, ◌||◌, ⊤, ℕ, Bool, true, false, if◌then◌else◌, List, [], ◌∷◌, ◌++◌, codes, bytes_eq, Option, Some, None, Result, Ok, Err}
use Rattle.std.specs.FinSet as set
use Rattle.std.specs.List.{list_any, slice_split}
use Rattle.std.specs.declared.io.ErrorKind.{ErrorKind}
use Rattle.std.specs.declared.io.ErrorKind.TheVariants.{NotADirectory, OutOfMemory}
use Rattle.cpu_set.specs.Ids.{Ids}
use Rattle.cpu_set.specs.declared.TheConstants.{CPU_LIMIT}
use Rattle.cpu_list.specs.FirstFault.{first_fault}
use Rattle.cpu_list.specs.ListText.{IsSetOf}
use Rattle.cgroup_tree.specs.Asked.{Asked, Stranger, Remark, Lacks, HasBesides, NoList, Holds, IsAbsent, Locked, Named, Told, done, refused}
use Rattle.cgroup_tree.specs.Paths.{cpus_in_effect, partition_file, partition_line}
use Rattle.cgroup_tree.specs.declared.difference.Difference.{Difference}
use Rattle.cgroup_tree.specs.declared.difference.Difference.TheVariants as difference
use Rattle.cgroup_tree.specs.declared.fault.RootFault.{RootFault}
use Rattle.cgroup_tree.specs.declared.fault.RootFault.TheVariants as root_fault

-- what a look at a path may find: whether it is a folder; whether another program has it; what the file has, or none if it is
-- not there; the folders in it, each with the CPUs that it holds; the kind of error by which the look failed, or by which the
-- system can't lock it
pub data Finding : Type 0 where
  IsFolder : Bool → Finding
  IsTaken : Bool → Finding
  Has : Option (List ℕ) → Finding
  HasFolders : List Stranger → Finding
  Fails : ErrorKind → Finding
  CantLock : ErrorKind → Finding

-- whatever may be found now might have been found before
abbrev pub FindsNoMore : (old new : List ℕ → Finding → Type 0) → Type 0
FindsNoMore old new = (path : List ℕ) (what : Finding) → new path what → old path what

-- cgroup v2, "Core Interface Files" and "Cpuset Interface Files": what the groups below can be given, and what is in effect
abbrev pub controllers_file : List ℕ
controllers_file = codes "/cgroup.controllers"

abbrev pub mems_in_effect : List ℕ
mems_in_effect = codes "/cpuset.mems.effective"

-- the folder of the group of all containers
abbrev pub group_folder : List ℕ
group_folder = codes "/numarun"

-- a space or a line feed
abbrev pub is_gap : ℕ → Bool
is_gap b = b == 32 || b == 10

-- one of the words is the controller of cpusets
abbrev pub names_cpuset : List ℕ → Bool
names_cpuset text = list_any (λ word. bytes_eq word (codes "cpuset")) (slice_split is_gap text)

-- the text is a list of just these numbers
abbrev pub IsListOf : List ℕ → Ids → Type 0
IsListOf text ids = (first_fault CPU_LIMIT text ≡ None) × IsSetOf text ids

-- a failed look, of this kind: out of memory, or else told as it is
abbrev pub IsFaultOf : ErrorKind → RootFault → Type 0
IsFaultOf kind root_fault.Memory = kind ≡ OutOfMemory
IsFaultOf kind (root_fault.Unread told) = told ≡ kind
IsFaultOf kind _ = ⊥

-- a folder that the system can't lock, by an error of this kind
abbrev pub IsLockFaultOf : ErrorKind → RootFault → Type 0
IsLockFaultOf kind root_fault.Memory = kind ≡ OutOfMemory
IsLockFaultOf kind (root_fault.Unlocked told) = told ≡ kind
IsLockFaultOf kind _ = ⊥

-- the CPUs in effect are the online ones, or are not told
abbrev pub AreOnline : Ids → Option (List ℕ) → Type 0
AreOnline online None = ⊤
AreOnline online (Some text) = IsListOf text online

-- they are others
abbrev pub AreOthers : Ids → Option (List ℕ) → Type 0
AreOthers online text = AreOnline online text → ⊥

-- the nodes in effect are these, all of the machine's; or they are not told, and these are all
abbrev pub HaveMemory : Ids → Ids → Option (List ℕ) → Type 0
HaveMemory nodes memory None = memory ≡ nodes
HaveMemory nodes memory (Some text) = IsListOf text memory × (set.is_subset memory nodes ≡ true)

-- there are others among them
abbrev pub HaveOthers : Ids → Option (List ℕ) → Type 0
HaveOthers nodes text = (memory : Ids) → HaveMemory nodes memory text → ⊥

-- the root is a valid partition root, whose load the scheduler balances
abbrev pub IsPartition : Option (List ℕ) → Type 0
IsPartition None = ⊥
IsPartition (Some text) = text ≡ partition_line

-- it is none
abbrev pub IsNoPartition : Option (List ℕ) → Type 0
IsNoPartition text = IsPartition text → ⊥

-- of a root's path, where looks at paths may find this
module _ (finds : List ℕ → Finding → Type 0) (root : List ℕ) where
  -- a file of the root was found to have this
  abbrev pub IsFound : List ℕ → (Option (List ℕ) → Type 0) → Type 0
  IsFound file Is = (text : Option (List ℕ)) × finds (root ++ file) (Has text) × Is text

  -- a file of the root, which can't be read; or memory for that was short
  abbrev pub CantRead : List ℕ → RootFault → Type 0
  CantRead file (root_fault.Unread kind) = finds (root ++ file) (Fails kind)
  CantRead file root_fault.Memory = ⊤
  CantRead file _ = ⊥

  -- what its groups can be given has cpusets, or is not told
  abbrev pub HasCpusets : Option (List ℕ) → Type 0
  HasCpusets None = ⊤
  HasCpusets (Some text) = names_cpuset text ≡ true

  abbrev pub LacksCpusets : Option (List ℕ) → Type 0
  LacksCpusets None = ⊥
  LacksCpusets (Some text) = names_cpuset text ≡ false

  -- the first look at the root: whether it is a folder
  abbrev pub LooksAtFolder : Result (Unit {0}) RootFault → Type 0
  LooksAtFolder (Ok done) = finds root (IsFolder true)
  LooksAtFolder (Err (root_fault.Unread kind)) = (finds root (IsFolder false) × (kind ≡ NotADirectory)) ⊎ finds root (Fails kind)
  LooksAtFolder (Err root_fault.Memory) = ⊤
  LooksAtFolder (Err _) = ⊥

  -- the second look: whether another program has it, or the system can't lock it
  abbrev pub LooksAtLock : {A : Type 0} → Result A RootFault → Type 0
  LooksAtLock (Ok lock) = finds root (IsTaken false)
  LooksAtLock (Err root_fault.Taken) = finds root (IsTaken true)
  LooksAtLock (Err (root_fault.Unlocked kind)) = finds root (CantLock kind)
  LooksAtLock (Err root_fault.Memory) = ⊤
  LooksAtLock (Err _) = ⊥

  -- the look at what its groups can be given: the controller of cpusets
  abbrev pub LooksAtControllers : Result (Unit {0}) RootFault → Type 0
  LooksAtControllers (Ok done) = IsFound controllers_file HasCpusets
  LooksAtControllers (Err root_fault.NoCpuset) = IsFound controllers_file LacksCpusets
  LooksAtControllers (Err why) = CantRead controllers_file why

  -- the look at its CPUs in effect
  abbrev pub LooksAtCpus : Ids → Result (Unit {0}) RootFault → Type 0
  LooksAtCpus online (Ok done) = IsFound cpus_in_effect (AreOnline online)
  LooksAtCpus online (Err root_fault.OtherMachine) = IsFound cpus_in_effect (AreOthers online)
  LooksAtCpus online (Err why) = CantRead cpus_in_effect why

  -- the look at its nodes in effect
  abbrev pub LooksAtMems : Ids → Result Ids RootFault → Type 0
  LooksAtMems nodes (Ok memory) = IsFound mems_in_effect (HaveMemory nodes memory)
  LooksAtMems nodes (Err root_fault.OtherMachine) = IsFound mems_in_effect (HaveOthers nodes)
  LooksAtMems nodes (Err why) = CantRead mems_in_effect why

  -- the look at its partition file, if it has to be a partition root; else nothing is looked at
  abbrev pub LooksAtPartition : Bool → Result (Unit {0}) RootFault → Type 0
  LooksAtPartition false (Ok done) = ⊤
  LooksAtPartition false (Err why) = ⊥
  LooksAtPartition true (Ok done) = IsFound partition_file IsPartition
  LooksAtPartition true (Err root_fault.NoPartition) = IsFound partition_file IsNoPartition
  LooksAtPartition true (Err why) = CantRead partition_file why

  -- the looks at a root that is a folder and that no other program has, in their order: what it tells of the machine, and whether
  -- it is a partition root if it has to be one
  abbrev pub LooksAtMachine : (online nodes : Ids) → (partition : Bool) → Result Ids RootFault → Type 0
  LooksAtMachine online nodes partition (Ok memory) =
      IsFound controllers_file HasCpusets × IsFound cpus_in_effect (AreOnline online) × LooksAtMems nodes (Ok memory)
      × LooksAtPartition partition (Ok tt)
  LooksAtMachine online nodes partition (Err root_fault.Memory) = ⊤
  LooksAtMachine online nodes partition (Err why) =
      LooksAtControllers (Err why)
      ⊎ (IsFound controllers_file HasCpusets × (LooksAtCpus online (Err why)
      ⊎ (IsFound cpus_in_effect (AreOnline online) × (LooksAtMems nodes (Err why)
      ⊎ (((memory : Ids) × LooksAtMems nodes (Ok memory)) × LooksAtPartition partition (Err why))))))

  -- the last look, where folders of a run before may be there: which there are; else none is looked for
  abbrev pub LooksAtStrangers : (adopt : Bool) → Result (List Stranger) RootFault → Type 0
  LooksAtStrangers false (Ok strangers) = strangers ≡ []
  LooksAtStrangers true (Ok strangers) = finds (root ++ group_folder) (HasFolders strangers)
  LooksAtStrangers adopt (Err root_fault.Memory) = ⊤
  LooksAtStrangers true (Err (root_fault.Unread kind)) = finds (root ++ group_folder) (Fails kind)
  LooksAtStrangers adopt (Err why) = ⊥

  -- the nodes of a root that have memory and the folders of a run before, or why it is refused: the first of the looks that is
  -- against it; an allocation may fail anywhere
  abbrev pub AnswersRoot : (online nodes : Ids) → (partition adopt : Bool) → Result (Ids × List Stranger) RootFault → Type 0
  AnswersRoot online nodes partition adopt (Ok found) =
      finds root (IsFolder true) × finds root (IsTaken false) × LooksAtMachine online nodes partition (Ok found.0) × LooksAtStrangers adopt (Ok found.1)
  AnswersRoot online nodes partition adopt (Err root_fault.Memory) = ⊤
  AnswersRoot online nodes partition adopt (Err why) =
      LooksAtFolder (Err why)
      ⊎ (finds root (IsFolder true) × (LooksAtLock {A = Unit {0}} (Err why)
      ⊎ (finds root (IsTaken false) × (LooksAtMachine online nodes partition (Err why)
      ⊎ (((memory : Ids) × LooksAtMachine online nodes partition (Ok memory)) × LooksAtStrangers adopt (Err why))))))

-- what is told of a difference
abbrev pub remark_of : Difference → Remark
remark_of (difference.Lacks numbers) = Lacks numbers.now
remark_of (difference.HasBesides numbers) = HasBesides numbers.now
remark_of difference.NoList = NoList
remark_of (difference.Holds text) = Holds text.now
remark_of difference.Absent = IsAbsent

-- what is told of the file of a root that is no partition root: the text that it has, or that there is none
abbrev pub partition_remark : Option (List ℕ) → Remark
partition_remark None = IsAbsent
partition_remark (Some text) = Holds text

-- a remark on a file, unless there are no such numbers
abbrev pub TellsUnlessNone : List ℕ → Ids → Remark → List Asked → Type 0
TellsUnlessNone path numbers remark told = ((numbers ≡ set.empty) × (told ≡ [])) ⊎ ((numbers ≢ set.empty) × (told ≡ done (Told path remark) ∷ []))

-- of a file that has a list, the newest first: which numbers it lacks of the least that it has to have, and which it has besides
-- the most
abbrev pub TellsNumbers : List ℕ → (least most found : Ids) → List Asked → Type 0
TellsNumbers path least most found told = (lacks : List Asked) × (besides : List Asked)
    × TellsUnlessNone path (set.difference least found) (Lacks (set.difference least found)) lacks
    × TellsUnlessNone path (set.difference found most) (HasBesides (set.difference found most)) besides
    × (told ≡ besides ++ lacks)

-- what is told of a file that has this text: that it is no list; or which numbers it lacks, and which it has besides
abbrev pub TellsOthers : (path text : List ℕ) → (least most : Ids) → List Asked → Type 0
TellsOthers path text least most told =
    ((first_fault CPU_LIMIT text ≢ None) × (told ≡ done (Told path NoList) ∷ []))
    ⊎ ((found : Ids) × IsListOf text found × TellsNumbers path least most found told)

-- what was asked of the trees while a root was looked at, the newest first
module _ (finds : List ℕ → Finding → Type 0) (root : List ℕ) where
  -- a file of the root was read, and is another machine's by its text: this was told of it
  abbrev pub Tells : (file : List ℕ) → (Option (List ℕ) → Type 0) → (least most : Ids) → List Asked → Type 0
  Tells file IsOther least most told =
      (text : List ℕ) × finds (root ++ file) (Has (Some text)) × IsOther (Some text) × TellsOthers (root ++ file) text least most told

  -- by the look at its CPUs in effect
  abbrev pub CpusTell : Ids → Result (Unit {0}) RootFault → List Asked → Type 0
  CpusTell online (Err root_fault.OtherMachine) told = Tells cpus_in_effect (AreOthers online) online online told
  CpusTell online answer told = told ≡ []

  -- by the look at its nodes in effect, of which there may be fewer
  abbrev pub MemsTell : Ids → Result Ids RootFault → List Asked → Type 0
  MemsTell nodes (Err root_fault.OtherMachine) told = Tells mems_in_effect (HaveOthers nodes) set.empty nodes told
  MemsTell nodes answer told = told ≡ []

  -- its partition file was read, and is no partition root's: this was told of it
  abbrev pub TellsPartition : List Asked → Type 0
  TellsPartition told =
      (text : Option (List ℕ)) × finds (root ++ partition_file) (Has text) × IsNoPartition text
      × (told ≡ done (Told (root ++ partition_file) (partition_remark text)) ∷ [])

  -- by the look at its partition file
  abbrev pub PartitionTells : Result (Unit {0}) RootFault → List Asked → Type 0
  PartitionTells (Err root_fault.NoPartition) told = TellsPartition told
  PartitionTells answer told = told ≡ []

  -- by the looks behind the lock
  abbrev pub MachineTells : (online nodes : Ids) → Result Ids RootFault → List Asked → Type 0
  MachineTells online nodes (Ok memory) told = told ≡ []
  MachineTells online nodes (Err root_fault.OtherMachine) told =
      Tells cpus_in_effect (AreOthers online) online online told ⊎ Tells mems_in_effect (HaveOthers nodes) set.empty nodes told
  MachineTells online nodes (Err root_fault.NoPartition) told = TellsPartition told
  MachineTells online nodes (Err why) told = told ≡ []

  -- the folders of a run before are named, where they may be there
  abbrev pub names_strangers : (adopt : Bool) → List Stranger → List Asked
  names_strangers adopt strangers = if adopt then done (Named (root ++ group_folder) strangers) ∷ [] else []

  -- it was kept from other programs, and then this was asked
  abbrev pub behind_lock : List Asked → List Asked
  behind_lock told = told ++ done (Locked root) ∷ []

  -- while a root was opened: it was kept from other programs, and what it has was told where it is another machine's or no
  -- partition root. The folders of a run before were named where it was taken. Nothing that changes a file was asked.
  abbrev pub RootTells : (online nodes : Ids) → (adopt : Bool) → Result (Ids × List Stranger) RootFault → List Asked → Type 0
  RootTells online nodes adopt (Err root_fault.Taken) asked = asked ≡ refused (Locked root) ∷ []
  RootTells online nodes adopt (Err (root_fault.Unlocked kind)) asked = asked ≡ refused (Locked root) ∷ []
  RootTells online nodes adopt (Err root_fault.Memory) asked = (asked ≡ []) ⊎ (asked ≡ refused (Locked root) ∷ []) ⊎ (asked ≡ behind_lock [])
  RootTells online nodes adopt (Err (root_fault.Unread kind)) asked = (asked ≡ []) ⊎ (asked ≡ behind_lock [])
  RootTells online nodes adopt (Ok found) asked = asked ≡ behind_lock (names_strangers adopt found.1)
  RootTells online nodes adopt (Err why) asked = (told : List Asked) × MachineTells online nodes (Err why) told × (asked ≡ behind_lock told)
