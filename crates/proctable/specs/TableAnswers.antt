-- What each call of a table answers: the first thing that stands against it, in the order written here, or what it is for.
use Rattle.std.specs.Prelude.{◌≡◌, ℕ, Bool, false, nat_lt, nat_le, if◌then◌else◌, not, Option, Some, None, Result}
use Rattle.faults.specs.declared.or_memory.OrMemory.{OrMemory}
use Rattle.faults.specs.Calls.{Grows}
use Rattle.cpuset_tree.specs.declared.Group.{Group}
use Rattle.proctable.specs.declared.TheConstants.{LAST_PID}
use Rattle.proctable.specs.declared.fault.ProcFault.{ProcFault}
use Rattle.proctable.specs.declared.fault.ProcFault.TheVariants.{NoPids, NoProcess}
use Rattle.proctable.specs.declared.processes.Process.{Process}
use Rattle.proctable.specs.TableState.{TableState}
use Rattle.proctable.specs.Processes.{process_of, is_alive}
use Rattle.proctable.specs.TableChanges.{with_process}

-- whether a pid is left for one process more
abbrev pub has_pids : TableState → Bool
has_pids t = nat_le t.next_pid LAST_PID

-- what stands against one process more
abbrev pub spawn_refusal : TableState → Option ProcFault
spawn_refusal t = if nat_lt LAST_PID t.next_pid then Some NoPids else None

-- what stands against a fork
abbrev pub fork_refusal : TableState → ℕ → Option ProcFault
fork_refusal t parent = if not (is_alive t parent) then Some NoProcess else spawn_refusal t

-- what stands against the end of a process
abbrev pub exit_refusal : TableState → ℕ → Option ProcFault
exit_refusal t pid = if not (is_alive t pid) then Some NoProcess else None

-- a process more, of a pid that none has had
pub record AddsProcess (old : TableState) (g : Group) (first pid : ℕ) (new : TableState) : Type 0 where
  pub next : pid ≡ old.next_pid
  pub fresh : is_alive old pid ≡ false
  pub added : new ≡ with_process old g first

-- a first process is made, which belongs to itself
abbrev pub Spawns : TableState → Group → Result ℕ (OrMemory ProcFault) → TableState → Type 0
Spawns old g = Grows (spawn_refusal old) (λ pid. AddsProcess old g pid pid) old

-- a new process is in its parent's group, and belongs to its parent's first process
abbrev pub ForksOf : TableState → ℕ → ℕ → TableState → Type 0
ForksOf old parent pid new = (p : Process) × (process_of old parent ≡ Some p) × AddsProcess old p.group p.first pid new

-- a process is made, which belongs to its parent's first process and is in the same group
abbrev pub Forks : TableState → ℕ → Result ℕ (OrMemory ProcFault) → TableState → Type 0
Forks old parent = Grows (fork_refusal old parent) (ForksOf old parent) old
