-- What may happen while a hand-over is open, one event after another.
use Rattle.std.specs.Prelude.{◌≡◌, ℕ, ◌+◌, ◌-◌, ◌*◌, ◌<◌, ◌≤◌, false, List, [], ◌∷◌, length, Result}
use Rattle.std.specs.List.{AllByRecursion}
use Rattle.faults.specs.declared.OrMemory.{OrMemory}
use Rattle.cpuset_tree.specs.declared.Group.{Group}
use Rattle.cpuset_tree.specs.Groups.{same_group}
use Rattle.kernel_model.specs.declared.KernelFault.{KernelFault}
use Rattle.kernel_model.specs.declared.Call.{Call}
use Rattle.kernel_model.specs.declared.Call.TheVariants.{RemoveGroup, WriteCpus, WriteMems}
use Rattle.kernel_model.specs.declared.Reply.{Reply}
use Rattle.kernel_model.specs.KernelState.{KernelState, writes}
use Rattle.kernel_model.specs.WellFormed.{IsWellFormed}
use Rattle.kernel_model.specs.Cases.{rise}
use Rattle.kernel_model.specs.Runs.{Step}
use Rattle.apply_plan.specs.declared.entry.Entry.{Entry}
use Rattle.apply_plan.specs.declared.handover.Progress.{Progress}
use Rattle.apply_plan.specs.Holders.{IsSafe}
use Rattle.apply_plan.specs.Targets.{Targets, holders_of, IsHandover, ArePlaced}
use Rattle.apply_plan.specs.DueWrite.{Steps, writes_to_come, Between}

-- a step of the hand-over with its answer, or a call of somebody else with its reply
pub data Event : Type 0 where
  Stepped : Result Progress KernelFault → Event
  Called : Call → Result Reply (OrMemory KernelFault) → Event

-- the group is none of the entries'
abbrev pub IsNoEntrys : List Entry → Group → Type 0
IsNoEntrys entries g = AllByRecursion (λ e. same_group e.group g ≡ false) entries

-- somebody else writes and removes other groups alone; processes and CPUs may come and go, and groups be made, as they will
abbrev pub LeavesEntries : List Entry → Call → Type 0
LeavesEntries entries (RemoveGroup g) = IsNoEntrys entries g
LeavesEntries entries (WriteCpus g cpus) = IsNoEntrys entries g
LeavesEntries entries (WriteMems g mems) = IsNoEntrys entries g
LeavesEntries entries _ = Unit {0}

abbrev pub Happens : Targets → KernelState → Event → KernelState → Type 0
Happens h old (Stepped r) new = Steps h old r new
Happens h old (Called call r) new = LeavesEntries h.entries call × Step old call r new

-- events, each with the kernel after it
abbrev pub AllHappen : Targets → KernelState → List (Event × KernelState) → Type 0
AllHappen h k [] = Unit {0}
AllHappen h k (x ∷ later) = Happens h k x.0 x.1 × AllHappen h x.1 later

-- the entries' groups are there, below the root, and their processes' pids were given
pub record IsOpen (h : Targets) (k : KernelState) : Type 0 where
  pub handover : IsHandover h
  pub well_formed : IsWellFormed k
  pub placed : ArePlaced k h.entries
  pub given : AllByRecursion (λ e. e.pid < k.table.next_pid) h.entries

-- whatever happens, what was safe stays safe, after each single event
abbrev pub StaysSafe : Type 0
StaysSafe =
    (h : Targets) (k : KernelState) (run : List (Event × KernelState)) → IsOpen h k → IsSafe k h.reserved (holders_of h.entries) → AllHappen h k run
    → AllByRecursion (λ x. IsSafe x.1 h.reserved (holders_of h.entries)) run

-- whatever happens, each container requests what it did at first, or what it keeps of that, or its target
abbrev pub StaysBetween : Type 0
StaysBetween =
    (h : Targets) (k : KernelState) (run : List (Event × KernelState)) → IsOpen h k → AllHappen h k run → AllByRecursion (λ x. Between h k x.1) run

-- how many writing calls the hand-over made in an event, as the kernel counts them, beside one that failed
abbrev pub writes_of_event : KernelState → Event → KernelState → ℕ
writes_of_event k (Stepped r) next = writes next - writes k - rise r
writes_of_event k (Called call r) next = 0

-- how many writes of the hand-over succeed
abbrev pub writes_in : KernelState → List (Event × KernelState) → ℕ
writes_in k [] = 0
writes_in k (x ∷ later) = writes_of_event k x.0 x.1 + writes_in x.1 later

-- and the kernel after the last event
abbrev pub last_of : KernelState → List (Event × KernelState) → KernelState
last_of k [] = k
last_of k (x ∷ later) = last_of x.1 later

-- whatever happens between them, each write that succeeds is one less to come, and nothing is one more
abbrev pub EndsWithin : Type 0
EndsWithin =
    (h : Targets) (k : KernelState) (run : List (Event × KernelState)) → IsOpen h k → AllHappen h k run
    → writes_in k run + writes_to_come h (last_of k run) ≤ writes_to_come h k

-- at most two writes for each entry are to come
abbrev pub FewToCome : Type 0
FewToCome = (h : Targets) (k : KernelState) → writes_to_come h k ≤ 2 * length h.entries
