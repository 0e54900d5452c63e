-- What holds of each table, and what each change leaves of it.
use Rattle.std.specs.Prelude.{◌≡◌, ◌≢◌, ℕ, ◌<◌, Bool, true, false, Some, None}
use Rattle.cpuset_tree.specs.declared.Group.{Group}
use Rattle.cpuset_tree.specs.Groups.{same_group}
use Rattle.proctable.specs.declared.processes.Process.{Process}
use Rattle.proctable.specs.TableState.{TableState}
use Rattle.proctable.specs.Processes.{process_of, is_alive, count_in}
use Rattle.proctable.specs.TableChanges.{first_table, ends_with, exited as after_exit, ended_in}
use Rattle.proctable.specs.TableAnswers.{AddsProcess, ForksOf}
use Rattle.proctable.specs.TableWellFormed.{Belongs, IsWellFormed}

-- a new process is there, and all others stay
pub record ProcessAdded (t new : TableState) (g : Group) (first pid : ℕ) : Type 0 where
  pub there : process_of new pid ≡ Some (record { pid = pid; group = g; first = first })
  pub others : (q : ℕ) → q ≢ pid → process_of new q ≡ process_of t q
  pub differs : (q : ℕ) → is_alive t q ≡ true → q ≢ pid

-- a new process is there, and all others stay
abbrev pub AddedLeaves : Type 0
AddedLeaves = (t new : TableState) (g : Group) (first pid : ℕ) → AddsProcess t g first pid new → ProcessAdded t new g first pid

-- some processes end: those that do not end stay, those that end are there no more, and none comes
pub record SomeEnd (t new : TableState) (ends : Process → Bool) : Type 0 where
  pub stay : (q : ℕ) (p : Process) → process_of t q ≡ Some p → ends p ≡ false → process_of new q ≡ Some p
  pub end : (q : ℕ) (p : Process) → process_of t q ≡ Some p → ends p ≡ true → process_of new q ≡ None
  pub none : (q : ℕ) → process_of t q ≡ None → process_of new q ≡ None

-- after the end of a process those that belong to it are gone with it, and all others stay
abbrev pub ExitedLeaves : Type 0
ExitedLeaves = (t : TableState) (pid : ℕ) → IsWellFormed t → SomeEnd t (after_exit t pid) (ends_with pid)

-- after the end of a group's processes all others stay
abbrev pub EndedLeaves : Type 0
EndedLeaves = (t : TableState) (g : Group) → IsWellFormed t → SomeEnd t (ended_in t g) (λ p. same_group p.group g)

-- after the end of all processes of a group it has none
abbrev pub EndedIsEmpty : Type 0
EndedIsEmpty = (t : TableState) (g : Group) → count_in (ended_in t g) g ≡ 0

-- a process that is found is the one of that pid
abbrev pub FoundHasPid : Type 0
FoundHasPid = (t : TableState) (q : ℕ) (p : Process) → process_of t q ≡ Some p → p.pid ≡ q

-- the pid of a live process was given
abbrev pub PidIsGiven : Type 0
PidIsGiven = (t : TableState) (q : ℕ) → IsWellFormed t → is_alive t q ≡ true → q < t.next_pid

-- a group of which no process is counted has none
abbrev pub NoneWhereNoneCounted : Type 0
NoneWhereNoneCounted = (t : TableState) (g : Group) → count_in t g ≡ 0 → (q : ℕ) (p : Process) → process_of t q ≡ Some p → same_group p.group g ≡ false

-- a group that no process is in has none that is counted
abbrev pub NoneCountedWhereNone : Type 0
NoneCountedWhereNone =
    (t : TableState) (g : Group) → IsWellFormed t → ((q : ℕ) (p : Process) → process_of t q ≡ Some p → same_group p.group g ≡ false) → count_in t g ≡ 0

-- a live process belongs to a live first process of its group
abbrev pub LiveBelong : Type 0
LiveBelong = (t : TableState) (q : ℕ) (p : Process) → IsWellFormed t → process_of t q ≡ Some p → Belongs t.live p

-- a group has no process if all that it has would belong to one that is not alive
abbrev pub EmptyOnceFirstEnded : Type 0
EmptyOnceFirstEnded =
    (t : TableState) (g : Group) (first : ℕ) → IsWellFormed t → is_alive t first ≡ false
    → ((q : ℕ) (p : Process) → process_of t q ≡ Some p → same_group p.group g ≡ true → p.first ≡ first) → count_in t g ≡ 0

-- each change of a table that a call makes leaves a table
pub record StaysWellFormed (t : TableState) : Type 0 where
  pub spawned : (new : TableState) (g : Group) (pid : ℕ) → AddsProcess t g pid pid new → IsWellFormed new
  pub forked : (new : TableState) (parent pid : ℕ) → ForksOf t parent pid new → IsWellFormed new
  pub exited : (pid : ℕ) → IsWellFormed (after_exit t pid)
  pub ended : (g : Group) → IsWellFormed (ended_in t g)

-- each change of a table leaves a table
abbrev pub ChangesStayWellFormed : Type 0
ChangesStayWellFormed = (t : TableState) → IsWellFormed t → StaysWellFormed t

-- a table without processes is one
abbrev pub FirstIsWellFormed : Type 0
FirstIsWellFormed = (first_pid : ℕ) → IsWellFormed (first_table first_pid)
