-- Which values are tables.
use Rattle.std.specs.Prelude.{◌≡◌, ℕ, ◌+◌, ◌≤◌, List, [], ◌∷◌, Some}
use Rattle.proctable.specs.declared.processes.Process.{Process}
use Rattle.proctable.specs.TableState.{TableState}
use Rattle.proctable.specs.Processes.{process_among}

-- the pids rise, from `low` on and below `next`
abbrev pub RisesBelow : ℕ → ℕ → List Process → Type 0
RisesBelow low next [] = low ≤ next
RisesBelow low next (p ∷ later) = (low ≤ p.pid) × RisesBelow (p.pid + 1) next later

-- a process belongs to a first process among these, which belongs to itself and is in the same group
pub record Belongs (live : List Process) (p : Process) : Type 0 where
  pub first : Process
  pub alive : process_among live p.first ≡ Some first
  pub own : first.first ≡ p.first
  pub group : first.group ≡ p.group

-- the same of each of some processes
abbrev pub AllBelong : List Process → List Process → Type 0
AllBelong live [] = Unit {0}
AllBelong live (p ∷ later) = Belongs live p × AllBelong live later

-- pids rise, so none was given twice nor will be; each process belongs to a live first process of its group
pub record IsWellFormed (t : TableState) : Type 0 where
  pub rising : RisesBelow 0 t.next_pid t.live
  pub belong : AllBelong t.live t.live
