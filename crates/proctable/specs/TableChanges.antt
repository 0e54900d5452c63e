-- What each call changes of a table.
use Rattle.std.specs.Prelude.{ℕ, ◌+◌, Bool, not, ◌||◌, ◌==◌, [], ◌∷◌, ◌++◌, filter}
use Rattle.cpuset_tree.specs.declared.Group.{Group}
use Rattle.cpuset_tree.specs.Groups.{same_group}
use Rattle.proctable.specs.declared.processes.Process.{Process}
use Rattle.proctable.specs.TableState.{TableState}

-- a table without processes
abbrev pub first_table : ℕ → TableState
first_table first_pid = record { live = []; next_pid = first_pid }

-- the table with one process more, which has the next pid, is in this group and belongs to this first process
abbrev pub with_process : TableState → Group → ℕ → TableState
with_process t g first =
    record { live = t.live ++ record { pid = t.next_pid; group = g; first = first } ∷ []; next_pid = t.next_pid + 1 }

-- whether the end of this pid's process ends the process: it is that one, or belongs to it
abbrev pub ends_with : ℕ → Process → Bool
ends_with pid p = (p.pid == pid) || (p.first == pid)

-- the table after the end of a process: the end of a first process ends all that belong to it
abbrev pub exited : TableState → ℕ → TableState
exited t pid = record t { live = filter (λ p. not (ends_with pid p)) t.live }

-- the table after the end of all processes of a group
abbrev pub ended_in : TableState → Group → TableState
ended_in t g = record t { live = filter (λ p. not (same_group p.group g)) t.live }
