-- What is looked up in a table.
use Rattle.std.specs.Prelude.{ℕ, Bool, ◌==◌, List, find, count_by, Option, is_some, option_map}
use Rattle.cpuset_tree.specs.declared.Group.{Group}
use Rattle.cpuset_tree.specs.Groups.{same_group}
use Rattle.proctable.specs.declared.processes.Process.{Process}
use Rattle.proctable.specs.TableState.{TableState}

-- the process of this pid among these
abbrev pub process_among : List Process → ℕ → Option Process
process_among live pid = find (λ p. p.pid == pid) live

-- the live process of this pid, if there is one
abbrev pub process_of : TableState → ℕ → Option Process
process_of t pid = process_among t.live pid

-- whether a process of this pid is alive
abbrev pub is_alive : TableState → ℕ → Bool
is_alive t pid = is_some (process_of t pid)

-- the group of a live process
abbrev pub group_of : TableState → ℕ → Option Group
group_of t pid = option_map (λ p. p.group) (process_of t pid)

-- how many live processes a group has
abbrev pub count_in : TableState → Group → ℕ
count_in t g = count_by (λ p. same_group p.group g) t.live
