-- How a `ProcTable` keeps its processes. No public clause cites this module.
use Rattle.std.specs.Prelude.{◌≡◌, ◌≢◌, ℕ, ◌+◌, ◌*◌, ◌≤◌, true, cond, List, [], ◌∷◌, length, slice_index_or, ◌⊎◌, Option, Some, None, is_some}
use Rattle.cpuset_tree.specs.declared.Group.{Group}
use Rattle.proctable.specs.declared.TheConstants.{LAST_PID}
use Rattle.proctable.specs.declared.processes.Process.{Process}
use Rattle.proctable.specs.declared.slots.Slot.{Slot}
use Rattle.proctable.specs.TableState.{TableState}
use Rattle.proctable.specs.Processes.{process_of, process_among}
use Rattle.proctable.specs.TableWellFormed.{AllBelong}

-- those that live among the processes that are kept
abbrev pub live_of : List Slot → List Process
live_of [] = []
live_of (s ∷ later) = cond s.ended (live_of later) (s.process ∷ live_of later)

-- the process of a slot, where it lives
abbrev pub alive_in : Slot → Option Process
alive_in s = cond s.ended None (Some s.process)

-- the slot once its process has ended
abbrev pub over : Slot → Slot
over s = record { process = s.process; ended = true }

-- the pids rise, from `low` on and below `next`, also those of the processes that have ended
abbrev pub PidsRise : ℕ → ℕ → List Slot → Type 0
PidsRise low next [] = low ≤ next
PidsRise low next (s ∷ later) = (low ≤ s.process.pid) × PidsRise (s.process.pid + 1) next later

abbrev pub IsRising : List Slot → Type 0
IsRising slots = (next : ℕ) × PidsRise 0 next slots

-- so many of the slots have ended: all but those that live
abbrev pub AreEnded : List Slot → ℕ → Type 0
AreEnded slots ended = ended + length (live_of slots) ≡ length slots

-- the table is well formed, its next pid is at most one more than the last, and of its slots at most half have ended
pub record IsSound (slots : List Slot) (ended next : ℕ) : Type 0 where
  pub rising : PidsRise 0 next slots
  pub belong : AllBelong (live_of slots) (live_of slots)
  pub limit : next ≤ LAST_PID + 1
  pub counted : AreEnded slots ended
  pub few : 2 * ended ≤ length slots

-- a process of the next pid would be a first one, or belong to a live one of the group
abbrev pub BelongsNext : TableState → Group → ℕ → Type 0
BelongsNext t g first =
    (first ≡ t.next_pid) ⊎ ((q : Process) × (process_of t first ≡ Some q) × (q.first ≡ first) × (q.group ≡ g))

-- a value for the places past the last process
abbrev pub nobody : Slot
nobody = record { process = record { pid = 0; group = record { key = 0; serial = 0 }; first = 0 }; ended = true }

-- the pid at a place
abbrev pub pid_at : List Slot → ℕ → ℕ
pid_at slots i = (slice_index_or slots i nobody).process.pid

-- the live process of this pid is no first one
pub record EndsAlone (slots : List Slot) (pid : ℕ) : Type 0 where
  pub rising : IsRising slots
  pub belong : AllBelong (live_of slots) (live_of slots)
  pub other : (p : Process) → process_among (live_of slots) pid ≡ Some p → p.first ≢ pid
  pub alive : is_some (process_among (live_of slots) pid) ≡ true
