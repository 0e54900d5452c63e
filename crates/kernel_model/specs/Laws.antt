-- What each case leaves of a kernel, for those that stand on the trait alone.
use Rattle.std.specs.Prelude.{◌≡◌, ◌≢◌, ◌↔◌, ℕ, ◌+◌, ◌<◌, ◌≤◌, true, false, List, ◌∷◌, Some, None, is_some, Result, IfOk, OnErr}
use Rattle.std.specs.FinSet as set
use Rattle.faults.specs.declared.or_memory.OrMemory.{OrMemory}
use Rattle.cpu_set.specs.Ids.{Ids}
use Rattle.cpuset_tree.specs.declared.Group.{Group}
use Rattle.cpuset_tree.specs.declared.TheConstants.{SERIAL_LIMIT}
use Rattle.cpuset_tree.specs.Groups.{same_group, entry_of, has_group, has_children, child_of, is_root, requested_cpus, requested_mems}
use Rattle.cpuset_tree.specs.TreeLaws.{StandAlike, KeepsSerials, GroupAdded}
use Rattle.proctable.specs.declared.Process.{Process}
use Rattle.proctable.specs.declared.TheConstants.{LAST_PID}
use Rattle.proctable.specs.Processes.{process_of, is_alive, count_in}
use Rattle.proctable.specs.TableChanges.{ends_with}
use Rattle.proctable.specs.TableLaws.{ProcessAdded, SomeEnd}
use Rattle.kernel_model.specs.declared.fault.KernelFault.{KernelFault}
use Rattle.kernel_model.specs.declared.fault.KernelFault.TheVariants.{NoGroup, Exists, HasChildren, HasProcesses, IsRoot, NoPids, NoProcess, NoSerials, Reserved, NoCpu}
use Rattle.kernel_model.specs.declared.call.Call.{Call}
use Rattle.kernel_model.specs.declared.call.Reply.{Reply}
use Rattle.kernel_model.specs.Trace.{WritingCall}
use Rattle.kernel_model.specs.KernelState.{KernelState, writes, IsFirstKernel}
use Rattle.kernel_model.specs.Refusals.{make_refusal, remove_refusal, write_refusal, spawn_refusal, end_refusal, fork_refusal, exit_refusal, offline_refusal, online_refusal}
use Rattle.kernel_model.specs.Cases.{rise, rise_or_memory, MakesGroup, RemovesGroup, WritesCpus, WritesMems, Spawns, EndsGroup, Forks, Exits, GoesOffline, ComesOnline, IsMade}
use Rattle.kernel_model.specs.Runs.{Step, Run}
use Rattle.kernel_model.specs.WellFormed.{IsWellFormed}

-- the machine's part stays: the nodes, and which CPUs are present and which reserved
pub record KeepsMachine (old new : KernelState) : Type 0 where
  pub nodes : new.tree.nodes ≡ old.tree.nodes
  pub present : new.present ≡ old.present
  pub reserved : new.reserved ≡ old.reserved

-- the groups stay, with their parents, their names and all that they request, and no writing call was told and no failure counted
pub record KeepsGroups (old new : KernelState) : Type 0 where
  pub groups : new.tree.groups ≡ old.tree.groups
  pub next_serial : new.tree.next_serial ≡ old.tree.next_serial
  pub failures : new.failures ≡ old.failures
  pub trace : new.trace ≡ old.trace

-- the pids rise; a process that is there of a pid that was given before is the one that was there
pub record KeepsPids (old new : KernelState) : Type 0 where
  pub rise : old.table.next_pid ≤ new.table.next_pid
  pub same : (q : ℕ) (p : Process) → q < old.table.next_pid → process_of new.table q ≡ Some p → process_of old.table q ≡ Some p

-- a fork, an end of a process, a CPU that goes and one that comes leave what every group requests
pub record EventsKeepGroups : Type 0 where
  pub fork : (old new : KernelState) (parent : ℕ) (r : Result ℕ (OrMemory KernelFault)) → Forks old parent r new
      → KeepsGroups old new × (new.tree.online ≡ old.tree.online)
  pub exit : (old new : KernelState) (pid : ℕ) (r : Result (Unit {0}) KernelFault) → Exits old pid r new → KeepsGroups old new × (new.tree.online ≡ old.tree.online)
  pub offline : (old new : KernelState) (cpu : ℕ) (r : Result (Unit {0}) KernelFault) → GoesOffline old cpu r new → KeepsGroups old new × (new.table ≡ old.table)
  pub online : (old new : KernelState) (cpu : ℕ) (r : Result (Unit {0}) KernelFault) → ComesOnline old cpu r new → KeepsGroups old new × (new.table ≡ old.table)

-- a write of groups leaves the processes and the online CPUs
pub record WritesKeepProcesses : Type 0 where
  pub make : (old new : KernelState) (parent : Group) (name : List ℕ) (r : Result Group (OrMemory KernelFault)) → MakesGroup old parent name r new
      → (new.table ≡ old.table) × (new.tree.online ≡ old.tree.online)
  pub remove : (old new : KernelState) (g : Group) (r : Result (Unit {0}) KernelFault) → RemovesGroup old g r new
      → (new.table ≡ old.table) × (new.tree.online ≡ old.tree.online)
  pub cpus : (old new : KernelState) (g : Group) (cpus : Ids) (r : Result (Unit {0}) KernelFault) → WritesCpus old g cpus r new
      → (new.table ≡ old.table) × (new.tree.online ≡ old.tree.online)
  pub mems : (old new : KernelState) (g : Group) (mems : Ids) (r : Result (Unit {0}) KernelFault) → WritesMems old g mems r new
      → (new.table ≡ old.table) × (new.tree.online ≡ old.tree.online)

-- a write of processes leaves the tree
pub record WritesKeepTree : Type 0 where
  pub spawn : (old new : KernelState) (g : Group) (r : Result ℕ (OrMemory KernelFault)) → Spawns old g r new → new.tree ≡ old.tree
  pub end : (old new : KernelState) (g : Group) (r : Result (Unit {0}) KernelFault) → EndsGroup old g r new → new.tree ≡ old.tree

-- what a write of a group's CPUs leaves, whatever it answers. If it is Ok the group requests them, else the tree is as it
-- was. All other groups, all memory nodes and all places stay.
pub record CpusWriteLeaves (old : KernelState) (g : Group) (cpus : Ids) (r : Result (Unit {0}) KernelFault) (new : KernelState) : Type 0 where
  pub own : IfOk r (λ _. requested_cpus new.tree g ≡ cpus)
  pub refused : OnErr r (new.tree ≡ old.tree)
  pub others : (p : Group) → same_group g p ≡ false → requested_cpus new.tree p ≡ requested_cpus old.tree p
  pub apart : (p : Group) → same_group g p ≡ false → entry_of new.tree p ≡ entry_of old.tree p
  pub mems : (p : Group) → requested_mems new.tree p ≡ requested_mems old.tree p
  pub places : StandAlike old.tree new.tree

-- and the same of a write of its memory nodes
pub record MemsWriteLeaves (old : KernelState) (g : Group) (mems : Ids) (r : Result (Unit {0}) KernelFault) (new : KernelState) : Type 0 where
  pub own : IfOk r (λ _. requested_mems new.tree g ≡ mems)
  pub refused : OnErr r (new.tree ≡ old.tree)
  pub others : (p : Group) → same_group g p ≡ false → requested_mems new.tree p ≡ requested_mems old.tree p
  pub apart : (p : Group) → same_group g p ≡ false → entry_of new.tree p ≡ entry_of old.tree p
  pub cpus : (p : Group) → requested_cpus new.tree p ≡ requested_cpus old.tree p
  pub places : StandAlike old.tree new.tree

-- a new group is the only one that differs, and it requests nothing
pub record MakeLeaves (old : KernelState) (parent : Group) (name : List ℕ) (r : Result Group (OrMemory KernelFault)) (new : KernelState) : Type 0 where
  pub made : IfOk r (λ g. GroupAdded old.tree new.tree parent name g)
  pub refused : OnErr r (new.tree ≡ old.tree)
  pub cpus : (p : Group) → requested_cpus new.tree p ≡ requested_cpus old.tree p
  pub mems : (p : Group) → requested_mems new.tree p ≡ requested_mems old.tree p

-- a removed group is the only one that differs
pub record RemoveLeaves (old : KernelState) (g : Group) (r : Result (Unit {0}) KernelFault) (new : KernelState) : Type 0 where
  pub gone : IfOk r (λ _. entry_of new.tree g ≡ None)
  pub refused : OnErr r (new.tree ≡ old.tree)
  pub apart : (p : Group) → same_group g p ≡ false → entry_of new.tree p ≡ entry_of old.tree p

-- what each write of groups leaves of the groups, whatever it answers
pub record WritesLeaveGroups : Type 0 where
  pub make : (old new : KernelState) (parent : Group) (name : List ℕ) (r : Result Group (OrMemory KernelFault)) → MakesGroup old parent name r new
      → MakeLeaves old parent name r new
  pub remove : (old new : KernelState) (g : Group) (r : Result (Unit {0}) KernelFault) → RemovesGroup old g r new → RemoveLeaves old g r new
  pub cpus : (old new : KernelState) (g : Group) (cpus : Ids) (r : Result (Unit {0}) KernelFault) → WritesCpus old g cpus r new → CpusWriteLeaves old g cpus r new
  pub mems : (old new : KernelState) (g : Group) (mems : Ids) (r : Result (Unit {0}) KernelFault) → WritesMems old g mems r new → MemsWriteLeaves old g mems r new

-- a new process is the only one that differs
pub record SpawnLeaves (old : KernelState) (g : Group) (r : Result ℕ (OrMemory KernelFault)) (new : KernelState) : Type 0 where
  pub made : IfOk r (λ pid. ProcessAdded old.table new.table g pid pid)
  pub refused : OnErr r (new.table ≡ old.table)

-- and a forked one too, which is in its parent's group and belongs to its parent's first process
pub record ForkAdds (old new : KernelState) (parent pid : ℕ) : Type 0 where
  pub process : Process
  pub there : process_of old.table parent ≡ Some process
  pub added : ProcessAdded old.table new.table process.group process.first pid

pub record ForkLeaves (old : KernelState) (parent : ℕ) (r : Result ℕ (OrMemory KernelFault)) (new : KernelState) : Type 0 where
  pub made : IfOk r (ForkAdds old new parent)
  pub refused : OnErr r (new.table ≡ old.table)

-- only the processes of a group end with it, and then it has none
pub record EndLeaves (old : KernelState) (g : Group) (r : Result (Unit {0}) KernelFault) (new : KernelState) : Type 0 where
  pub ended : IfOk r (λ _. SomeEnd old.table new.table (λ p. same_group p.group g))
  pub empty : IfOk r (λ _. count_in new.table g ≡ 0)
  pub refused : OnErr r (new.table ≡ old.table)

-- the process and those that belong to it are the only ones that end with it
pub record ExitLeaves (old : KernelState) (pid : ℕ) (r : Result (Unit {0}) KernelFault) (new : KernelState) : Type 0 where
  pub ended : IfOk r (λ _. SomeEnd old.table new.table (ends_with pid))
  pub refused : OnErr r (new.table ≡ old.table)

-- what each call on processes leaves of them, whatever it answers
pub record CallsLeaveProcesses : Type 0 where
  pub spawn : (old new : KernelState) (g : Group) (r : Result ℕ (OrMemory KernelFault)) → Spawns old g r new → SpawnLeaves old g r new
  pub end : (old new : KernelState) (g : Group) (r : Result (Unit {0}) KernelFault) → IsWellFormed old → EndsGroup old g r new → EndLeaves old g r new
  pub fork : (old new : KernelState) (parent : ℕ) (r : Result ℕ (OrMemory KernelFault)) → Forks old parent r new → ForkLeaves old parent r new
  pub exit : (old new : KernelState) (pid : ℕ) (r : Result (Unit {0}) KernelFault) → IsWellFormed old → Exits old pid r new → ExitLeaves old pid r new

-- a write that fails is counted as a failure, and no other
pub record WritesCount : Type 0 where
  pub make : (old new : KernelState) (parent : Group) (name : List ℕ) (r : Result Group (OrMemory KernelFault)) → MakesGroup old parent name r new
      → new.failures ≡ old.failures + rise_or_memory r
  pub remove : (old new : KernelState) (g : Group) (r : Result (Unit {0}) KernelFault) → RemovesGroup old g r new → new.failures ≡ old.failures + rise r
  pub cpus : (old new : KernelState) (g : Group) (cpus : Ids) (r : Result (Unit {0}) KernelFault) → WritesCpus old g cpus r new → new.failures ≡ old.failures + rise r
  pub mems : (old new : KernelState) (g : Group) (mems : Ids) (r : Result (Unit {0}) KernelFault) → WritesMems old g mems r new → new.failures ≡ old.failures + rise r
  pub spawn : (old new : KernelState) (g : Group) (r : Result ℕ (OrMemory KernelFault)) → Spawns old g r new → new.failures ≡ old.failures + rise_or_memory r
  pub end : (old new : KernelState) (g : Group) (r : Result (Unit {0}) KernelFault) → EndsGroup old g r new → new.failures ≡ old.failures + rise r

-- each writing call is told, with what it answered, and no other
abbrev pub TellsEachWrite : Type 0
TellsEachWrite = (old : KernelState) (call : WritingCall) (new : KernelState) → IsMade old call new → new.trace ≡ call ∷ old.trace

-- each write is counted as a write, whatever it answers
pub record CountsEachWrite : Type 0 where
  pub make : (old new : KernelState) (parent : Group) (name : List ℕ) (r : Result Group (OrMemory KernelFault)) → MakesGroup old parent name r new
      → writes new ≡ writes old + 1
  pub remove : (old new : KernelState) (g : Group) (r : Result (Unit {0}) KernelFault) → RemovesGroup old g r new → writes new ≡ writes old + 1
  pub cpus : (old new : KernelState) (g : Group) (cpus : Ids) (r : Result (Unit {0}) KernelFault) → WritesCpus old g cpus r new → writes new ≡ writes old + 1
  pub mems : (old new : KernelState) (g : Group) (mems : Ids) (r : Result (Unit {0}) KernelFault) → WritesMems old g mems r new → writes new ≡ writes old + 1
  pub spawn : (old new : KernelState) (g : Group) (r : Result ℕ (OrMemory KernelFault)) → Spawns old g r new → writes new ≡ writes old + 1
  pub end : (old new : KernelState) (g : Group) (r : Result (Unit {0}) KernelFault) → EndsGroup old g r new → writes new ≡ writes old + 1

-- when nothing stands against a call
pub record NothingAgainst (k : KernelState) : Type 0 where
  pub make : (parent : Group) (name : List ℕ)
      → (make_refusal k parent name ≡ None) ↔ ((has_group k.tree parent ≡ true) × (child_of k.tree parent name ≡ None) × (k.tree.next_serial ≢ SERIAL_LIMIT))
  pub remove : (g : Group)
      → (remove_refusal k g ≡ None) ↔ ((has_group k.tree g ≡ true) × (is_root k.tree g ≡ false) × (has_children k.tree g ≡ false) × (count_in k.table g ≡ 0))
  pub write : (g : Group) → (write_refusal k g ≡ None) ↔ ((has_group k.tree g ≡ true) × (is_root k.tree g ≡ false))
  pub spawn : (g : Group) → (spawn_refusal k g ≡ None) ↔ ((has_group k.tree g ≡ true) × (k.table.next_pid ≤ LAST_PID))
  pub end : (g : Group) → (end_refusal k g ≡ None) ↔ (has_group k.tree g ≡ true)
  pub fork : (parent : ℕ) → (fork_refusal k parent ≡ None) ↔ ((is_alive k.table parent ≡ true) × (k.table.next_pid ≤ LAST_PID))
  pub exit : (pid : ℕ) → (exit_refusal k pid ≡ None) ↔ (is_alive k.table pid ≡ true)
  pub offline : (cpu : ℕ) → (offline_refusal k cpu ≡ None) ↔ ((set.contains k.present cpu ≡ true) × (set.contains k.reserved cpu ≡ false))
  pub online : (cpu : ℕ) → (online_refusal k cpu ≡ None) ↔ (set.contains k.present cpu ≡ true)

-- in each kernel it is known when nothing stands against a call
abbrev pub CallsAreFree : Type 0
CallsAreFree = (k : KernelState) → NothingAgainst k

-- what stands against a call that is refused by this; no call is refused by anything else
abbrev pub MakeCause : KernelState → Group → List ℕ → KernelFault → Type 0
MakeCause k parent name NoGroup = has_group k.tree parent ≡ false
MakeCause k parent name Exists = is_some (child_of k.tree parent name) ≡ true
MakeCause k parent name NoSerials = k.tree.next_serial ≡ SERIAL_LIMIT
MakeCause k parent name fault = ⊥

abbrev pub RemoveCause : KernelState → Group → KernelFault → Type 0
RemoveCause k g NoGroup = has_group k.tree g ≡ false
RemoveCause k g IsRoot = is_root k.tree g ≡ true
RemoveCause k g HasChildren = has_children k.tree g ≡ true
RemoveCause k g HasProcesses = 0 < count_in k.table g
RemoveCause k g fault = ⊥

abbrev pub WriteCause : KernelState → Group → KernelFault → Type 0
WriteCause k g NoGroup = has_group k.tree g ≡ false
WriteCause k g IsRoot = is_root k.tree g ≡ true
WriteCause k g fault = ⊥

abbrev pub SpawnCause : KernelState → Group → KernelFault → Type 0
SpawnCause k g NoGroup = has_group k.tree g ≡ false
SpawnCause k g NoPids = LAST_PID < k.table.next_pid
SpawnCause k g fault = ⊥

abbrev pub EndCause : KernelState → Group → KernelFault → Type 0
EndCause k g NoGroup = has_group k.tree g ≡ false
EndCause k g fault = ⊥

abbrev pub ForkCause : KernelState → ℕ → KernelFault → Type 0
ForkCause k parent NoProcess = is_alive k.table parent ≡ false
ForkCause k parent NoPids = LAST_PID < k.table.next_pid
ForkCause k parent fault = ⊥

abbrev pub ExitCause : KernelState → ℕ → KernelFault → Type 0
ExitCause k pid NoProcess = is_alive k.table pid ≡ false
ExitCause k pid fault = ⊥

abbrev pub OfflineCause : KernelState → ℕ → KernelFault → Type 0
OfflineCause k cpu NoCpu = set.contains k.present cpu ≡ false
OfflineCause k cpu Reserved = set.contains k.reserved cpu ≡ true
OfflineCause k cpu fault = ⊥

abbrev pub OnlineCause : KernelState → ℕ → KernelFault → Type 0
OnlineCause k cpu NoCpu = set.contains k.present cpu ≡ false
OnlineCause k cpu fault = ⊥

-- each refusal of a call has its cause, and no call is refused for anything else
pub record HasCauses (k : KernelState) : Type 0 where
  pub make : (parent : Group) (name : List ℕ) (fault : KernelFault) → make_refusal k parent name ≡ Some fault → MakeCause k parent name fault
  pub remove : (g : Group) (fault : KernelFault) → remove_refusal k g ≡ Some fault → RemoveCause k g fault
  pub write : (g : Group) (fault : KernelFault) → write_refusal k g ≡ Some fault → WriteCause k g fault
  pub spawn : (g : Group) (fault : KernelFault) → spawn_refusal k g ≡ Some fault → SpawnCause k g fault
  pub end : (g : Group) (fault : KernelFault) → end_refusal k g ≡ Some fault → EndCause k g fault
  pub fork : (parent : ℕ) (fault : KernelFault) → fork_refusal k parent ≡ Some fault → ForkCause k parent fault
  pub exit : (pid : ℕ) (fault : KernelFault) → exit_refusal k pid ≡ Some fault → ExitCause k pid fault
  pub offline : (cpu : ℕ) (fault : KernelFault) → offline_refusal k cpu ≡ Some fault → OfflineCause k cpu fault
  pub online : (cpu : ℕ) (fault : KernelFault) → online_refusal k cpu ≡ Some fault → OnlineCause k cpu fault

-- in each kernel each refusal has its cause
abbrev pub RefusalsHaveCauses : Type 0
RefusalsHaveCauses = (k : KernelState) → HasCauses k

-- each call leaves a kernel, and the machine's part of it, and gives no pid and no serial twice
pub record StepKeeps (old new : KernelState) : Type 0 where
  pub well_formed : IsWellFormed new
  pub machine : KeepsMachine old new
  pub pids : KeepsPids old new
  pub serials : KeepsSerials old.tree new.tree

-- the same of each case
pub record CasesKeep (old new : KernelState) : Type 0 where
  pub make : (parent : Group) (name : List ℕ) (r : Result Group (OrMemory KernelFault)) → MakesGroup old parent name r new → StepKeeps old new
  pub remove : (g : Group) (r : Result (Unit {0}) KernelFault) → RemovesGroup old g r new → StepKeeps old new
  pub cpus : (g : Group) (cpus : Ids) (r : Result (Unit {0}) KernelFault) → WritesCpus old g cpus r new → StepKeeps old new
  pub mems : (g : Group) (mems : Ids) (r : Result (Unit {0}) KernelFault) → WritesMems old g mems r new → StepKeeps old new
  pub spawn : (g : Group) (r : Result ℕ (OrMemory KernelFault)) → Spawns old g r new → StepKeeps old new
  pub end : (g : Group) (r : Result (Unit {0}) KernelFault) → EndsGroup old g r new → StepKeeps old new
  pub fork : (parent : ℕ) (r : Result ℕ (OrMemory KernelFault)) → Forks old parent r new → StepKeeps old new
  pub exit : (pid : ℕ) (r : Result (Unit {0}) KernelFault) → Exits old pid r new → StepKeeps old new
  pub offline : (cpu : ℕ) (r : Result (Unit {0}) KernelFault) → GoesOffline old cpu r new → StepKeeps old new
  pub online : (cpu : ℕ) (r : Result (Unit {0}) KernelFault) → ComesOnline old cpu r new → StepKeeps old new

-- each case leaves a kernel, and the machine's part of it, and gives no pid and no serial twice
abbrev pub EachCaseKeeps : Type 0
EachCaseKeeps = (old new : KernelState) → IsWellFormed old → CasesKeep old new

-- each call leaves a kernel, and the machine's part of it, and gives no pid and no serial twice
abbrev pub StepsKeep : Type 0
StepsKeep = (old new : KernelState) (call : Call) (r : Result Reply (OrMemory KernelFault)) → IsWellFormed old → Step old call r new → StepKeeps old new

-- each list of calls leaves a kernel, and the machine's part of it, and gives no pid and no serial twice
abbrev pub RunsKeep : Type 0
RunsKeep = (old new : KernelState) (calls : List Call) (replies : List (Result Reply (OrMemory KernelFault))) → IsWellFormed old → Run old calls replies new
    → StepKeeps old new

-- a group that is not there has no process; so a new one has none
abbrev pub EmptyWhereNoGroup : Type 0
EmptyWhereNoGroup = (k : KernelState) (g : Group) → IsWellFormed k → has_group k.tree g ≡ false → count_in k.table g ≡ 0

-- a kernel on which nothing was done is one, if some CPUs are reserved, these are online, and online ones are present
abbrev pub FirstIsWellFormed : Type 0
FirstIsWellFormed =
    (present reserved online nodes : Ids) (first_pid : ℕ) (k : KernelState) → reserved ≢ set.empty → set.is_subset reserved online ≡ true
    → set.is_subset online present ≡ true → IsFirstKernel present reserved online nodes first_pid k → IsWellFormed k
