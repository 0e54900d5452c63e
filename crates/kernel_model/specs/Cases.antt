-- One case for each call of a kernel: what it answers, and what it changes.
-- From: cgroup v2 for groups; ours for processes and counts.
use Rattle.std.specs.Prelude.{◌≡◌, ℕ, cond, List, Option, Result, Ok, Err}
use Rattle.std.specs.FinSet as set
use Rattle.faults.specs.declared.or_memory.OrMemory.{OrMemory}
use Rattle.faults.specs.declared.or_memory.OrMemory.TheVariants.{Memory, Fault}
use Rattle.faults.specs.Calls.{Decides, Grows}
use Rattle.faults.specs.First.{value_where}
use Rattle.cpu_set.specs.Ids.{Ids}
use Rattle.cpuset_tree.specs.declared.Group.{Group}
use Rattle.cpuset_tree.specs.Groups.{has_group}
use Rattle.cpuset_tree.specs.TreeState.{TreeState}
use Rattle.cpuset_tree.specs.TreeChanges.{without_group, with_cpus, with_mems, with_online}
use Rattle.cpuset_tree.specs.TreeAnswers.{AddsGroup}
use Rattle.proctable.specs.TableState.{TableState}
use Rattle.proctable.specs.TableChanges.{exited, ended_in}
use Rattle.proctable.specs.TableAnswers.{AddsProcess, ForksOf}
use Rattle.kernel_model.specs.declared.fault.KernelFault.{KernelFault}
use Rattle.kernel_model.specs.declared.fault.KernelFault.TheVariants.{NoGroup, Failed}
use Rattle.kernel_model.specs.Trace.{WritingCall, MadeGroup, RemovedGroup, WroteCpus, WroteMems, Spawned, EndedGroup, is_failed}
use Rattle.kernel_model.specs.KernelState.{KernelState, recorded, failed}
use Rattle.kernel_model.specs.Refusals.{make_refusal, remove_refusal, write_refusal, spawn_refusal, end_refusal, fork_refusal, exit_refusal, offline_refusal, online_refusal}

-- by how much the count of failures rises: by one if the write failed, else by nothing
abbrev pub rise : {A : Type 0} → Result A KernelFault → ℕ
rise (Ok value) = 0
rise (Err fault) = cond (is_failed fault) 1 0

abbrev pub rise_or_memory : {A : Type 0} → Result A (OrMemory KernelFault) → ℕ
rise_or_memory (Ok value) = 0
rise_or_memory (Err Memory) = 0
rise_or_memory (Err (Fault fault)) = cond (is_failed fault) 1 0

module _ {A : Type 0} (call : Result A KernelFault → WritingCall) (refusal : Option KernelFault) (Does : A → KernelState → Type 0) (old : KernelState) where
  -- a write is told, whatever it answers: the first thing that stands against it, and nothing else changes, or nothing, and it
  -- does what it is for; or it fails in place of any other answer, which is counted, and nothing else changes
  abbrev pub Writes : Result A KernelFault → KernelState → Type 0
  Writes (Ok value) new = Decides refusal Does (recorded (call (Ok value)) old) (Ok value) new
  Writes (Err Failed) new = new ≡ failed (call (Err Failed)) old
  Writes (Err fault) new = Decides refusal Does (recorded (call (Err fault)) old) (Err fault) new

module _ {A : Type 0} (call : Result A (OrMemory KernelFault) → WritingCall) (refusal : Option KernelFault) (Does : A → KernelState → Type 0) (old : KernelState) where
  -- a write that allocates
  abbrev pub GrowingWrites : Result A (OrMemory KernelFault) → KernelState → Type 0
  GrowingWrites (Ok value) new = Grows refusal Does (recorded (call (Ok value)) old) (Ok value) new
  GrowingWrites (Err Memory) new = Grows refusal Does (recorded (call (Err Memory)) old) (Err Memory) new
  GrowingWrites (Err (Fault Failed)) new = new ≡ failed (call (Err (Fault Failed))) old
  GrowingWrites (Err (Fault fault)) new = Grows refusal Does (recorded (call (Err (Fault fault))) old) (Err (Fault fault)) new

-- a change of the tree alone, and of the table alone
pub record InTree (Does : TreeState → Type 0) (old new : KernelState) : Type 0 where
  pub does : Does new.tree
  pub rest : new ≡ record old { tree = new.tree }

pub record InTable (Does : TableState → Type 0) (old new : KernelState) : Type 0 where
  pub does : Does new.table
  pub rest : new ≡ record old { table = new.table }

-- a group is made in the tree
abbrev pub MakesGroupOf : KernelState → Group → List ℕ → Group → KernelState → Type 0
MakesGroupOf old parent name g = InTree (AddsGroup old.tree parent name g) (recorded (MadeGroup parent name (Ok g)) old)

-- a group is made
abbrev pub MakesGroup : KernelState → Group → List ℕ → Result Group (OrMemory KernelFault) → KernelState → Type 0
MakesGroup old parent name = GrowingWrites (MadeGroup parent name) (make_refusal old parent name) (MakesGroupOf old parent name) old

-- a group is removed from the tree
abbrev pub RemovesGroupOf : KernelState → Group → Unit {0} → KernelState → Type 0
RemovesGroupOf old g v new = new ≡ record (recorded (RemovedGroup g (Ok v)) old) { tree = without_group old.tree g }

-- a group is removed
abbrev pub RemovesGroup : KernelState → Group → Result (Unit {0}) KernelFault → KernelState → Type 0
RemovesGroup old g = Writes (RemovedGroup g) (remove_refusal old g) (RemovesGroupOf old g) old

-- what CPUs a group requests is written in the tree
abbrev pub WritesCpusOf : KernelState → Group → Ids → Unit {0} → KernelState → Type 0
WritesCpusOf old g cpus v new = new ≡ record (recorded (WroteCpus g cpus (Ok v)) old) { tree = with_cpus old.tree g cpus }

-- what CPUs a group requests is written
abbrev pub WritesCpus : KernelState → Group → Ids → Result (Unit {0}) KernelFault → KernelState → Type 0
WritesCpus old g cpus = Writes (WroteCpus g cpus) (write_refusal old g) (WritesCpusOf old g cpus) old

-- what memory nodes a group requests is written in the tree
abbrev pub WritesMemsOf : KernelState → Group → Ids → Unit {0} → KernelState → Type 0
WritesMemsOf old g mems v new = new ≡ record (recorded (WroteMems g mems (Ok v)) old) { tree = with_mems old.tree g mems }

-- what memory nodes a group requests is written
abbrev pub WritesMems : KernelState → Group → Ids → Result (Unit {0}) KernelFault → KernelState → Type 0
WritesMems old g mems = Writes (WroteMems g mems) (write_refusal old g) (WritesMemsOf old g mems) old

-- a first process is made in the table: it belongs to itself
abbrev pub SpawnsIn : KernelState → Group → ℕ → KernelState → Type 0
SpawnsIn old g pid = InTable (AddsProcess old.table g pid pid) (recorded (Spawned g (Ok pid)) old)

-- a first process is made, which belongs to itself
abbrev pub Spawns : KernelState → Group → Result ℕ (OrMemory KernelFault) → KernelState → Type 0
Spawns old g = GrowingWrites (Spawned g) (spawn_refusal old g) (SpawnsIn old g) old

-- all processes of a group end in the table
abbrev pub EndsGroupOf : KernelState → Group → Unit {0} → KernelState → Type 0
EndsGroupOf old g v new = new ≡ record (recorded (EndedGroup g (Ok v)) old) { table = ended_in old.table g }

-- all processes of a group end
abbrev pub EndsGroup : KernelState → Group → Result (Unit {0}) KernelFault → KernelState → Type 0
EndsGroup old g = Writes (EndedGroup g) (end_refusal old g) (EndsGroupOf old g) old

-- a writing call is its case
abbrev pub IsMade : KernelState → WritingCall → KernelState → Type 0
IsMade old (MadeGroup parent name r) new = MakesGroup old parent name r new
IsMade old (RemovedGroup g r) new = RemovesGroup old g r new
IsMade old (WroteCpus g cpus r) new = WritesCpus old g cpus r new
IsMade old (WroteMems g mems r) new = WritesMems old g mems r new
IsMade old (Spawned g r) new = Spawns old g r new
IsMade old (EndedGroup g r) new = EndsGroup old g r new

-- a process forks in the table
abbrev pub ForksIn : KernelState → ℕ → ℕ → KernelState → Type 0
ForksIn old parent pid = InTable (ForksOf old.table parent pid) old

-- a process forks; this is no write, and is not told as one
abbrev pub Forks : KernelState → ℕ → Result ℕ (OrMemory KernelFault) → KernelState → Type 0
Forks old parent = Grows (fork_refusal old parent) (ForksIn old parent) old

-- a process ends, and all that belong to it if it is a first one
abbrev pub Exits : KernelState → ℕ → Result (Unit {0}) KernelFault → KernelState → Type 0
Exits old pid = Decides (exit_refusal old pid) (λ _ new. new ≡ record old { table = exited old.table pid }) old

-- a CPU goes offline, or stays so; what the groups request stays
abbrev pub GoesOffline : KernelState → ℕ → Result (Unit {0}) KernelFault → KernelState → Type 0
GoesOffline old cpu =
    Decides (offline_refusal old cpu) (λ _ new. new ≡ record old { tree = with_online old.tree (set.remove old.tree.online cpu) }) old

-- a CPU comes online, or stays so
abbrev pub ComesOnline : KernelState → ℕ → Result (Unit {0}) KernelFault → KernelState → Type 0
ComesOnline old cpu =
    Decides (online_refusal old cpu) (λ _ new. new ≡ record old { tree = with_online old.tree (set.insert old.tree.online cpu) }) old

-- a read of a group: this value, or that there is no such group
abbrev pub read_of : {A : Type 0} → KernelState → Group → A → Result A KernelFault
read_of k g = value_where (has_group k.tree g) NoGroup
