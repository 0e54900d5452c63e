-- The write that is due in a hand-over, by one state of the kernel.
use Rattle.std.specs.Prelude.{◌≡◌, ◌⊎◌, ℕ, ◌+◌, Bool, true, not, ◌&&◌, cond, List, [], ◌∷◌, ◌++◌, find, Option, Some, None, is_some, Result, Ok, Err}
use Rattle.std.specs.List.{AllByRecursion, sum_by}
use Rattle.cpu_set.specs.Ids.{Ids, is_same}
use Rattle.cpuset_tree.specs.Groups.{requested_cpus}
use Rattle.cpuset_tree.specs.TreeChanges.{with_cpus}
use Rattle.proctable.specs.Processes.{is_alive}
use Rattle.kernel_model.specs.declared.fault.KernelFault.{KernelFault}
use Rattle.kernel_model.specs.declared.fault.KernelFault.TheVariants.{Failed}
use Rattle.kernel_model.specs.Trace.{WritingCall, WroteCpus}
use Rattle.kernel_model.specs.KernelState.{KernelState, writes, recorded}
use Rattle.apply_plan.specs.declared.entry.Entry.{Entry}
use Rattle.apply_plan.specs.declared.scan.Write.{Write}
use Rattle.apply_plan.specs.declared.handover.Progress.{Progress}
use Rattle.apply_plan.specs.declared.handover.Progress.TheVariants.{More, Done}
use Rattle.apply_plan.specs.Kept.{kept}
use Rattle.apply_plan.specs.Targets.{Targets}

-- what the entry's group requests
abbrev pub held : KernelState → Entry → Ids
held k e = requested_cpus k.tree e.group

-- what the entry keeps of it
abbrev pub kept_of : KernelState → Ids → Entry → Ids
kept_of k reserved e = kept reserved e.target (held k e)

-- a live container that holds what it is to let go
abbrev pub must_release : KernelState → Ids → Entry → Bool
must_release k reserved e = is_alive k.table e.pid && not (is_same (kept_of k reserved e) (held k e))

-- a live container that does not hold its target
abbrev pub must_move : KernelState → Entry → Bool
must_move k e = is_alive k.table e.pid && not (is_same (held k e) e.target)

-- an entry lets go, or takes its target
abbrev pub release_of : KernelState → Ids → Entry → Write
release_of k reserved e = record { group = e.group; cpus = kept_of k reserved e }

abbrev pub move_of : Entry → Write
move_of e = record { group = e.group; cpus = e.target }

-- the first entry that must let go does; where there is none, the first that does not hold its target takes it
abbrev pub first_write : KernelState → Ids → Option Entry → Option Entry → Option Write
first_write k reserved (Some e) moves = Some (release_of k reserved e)
first_write k reserved None (Some e) = Some (move_of e)
first_write k reserved None None = None

abbrev pub due_write : KernelState → Ids → List Entry → Option Write
due_write k reserved entries = first_write k reserved (find (must_release k reserved) entries) (find (must_move k) entries)

-- the write that is due in one state of the kernel, if one is
abbrev pub due : Targets → KernelState → Option Write
due h k = due_write k h.reserved h.entries

-- the writing call that a write is, with its answer; none if there is no write
abbrev pub asks_for : Option Write → Result (Unit {0}) KernelFault → List WritingCall
asks_for None r = []
asks_for (Some w) r = WroteCpus w.group w.cpus r ∷ []

-- the kernel after a write, which is told
abbrev pub written : KernelState → Option Write → KernelState
written k None = k
written k (Some w) = record (recorded (WroteCpus w.group w.cpus (Ok tt)) k) { tree = with_cpus k.tree w.group w.cpus }

-- the kernel after a write that failed: it is told, and counted as a failure, and nothing else changed
abbrev pub missed : Option Write → KernelState → KernelState
missed d k = record k { failures = k.failures + 1; trace = asks_for d (Err Failed) ++ k.trace }

-- whether anything is due yet
abbrev pub progress_of : Option Write → Progress
progress_of None = Done
progress_of (Some w) = More

-- a step makes the write that is due and no other, and tells whether another is due after it; if that write fails it is
-- told and counted, and nothing else changes
abbrev pub Steps : Targets → KernelState → Result Progress KernelFault → KernelState → Type 0
Steps h old (Ok answer) new = (new ≡ written old (due h old)) × (answer ≡ progress_of (due h new))
Steps h old (Err fault) new = (fault ≡ Failed) × (new ≡ missed (due h old) old) × (is_some (due h old) ≡ true)

-- how many writes an entry waits for
abbrev pub writes_of : KernelState → Ids → Entry → ℕ
writes_of k reserved e =
    cond (must_release k reserved e) (cond (is_same (kept_of k reserved e) e.target) 1 2) (cond (must_move k e) 1 0)

-- how many writes are left in one state of the kernel
abbrev pub writes_to_come : Targets → KernelState → ℕ
writes_to_come h k = sum_by (writes_of k h.reserved) h.entries

-- each live container has its target
abbrev pub HasTarget : KernelState → Entry → Type 0
HasTarget k e = is_alive k.table e.pid ≡ true → held k e ≡ e.target

-- each live container requests its target
abbrev pub HaveTargets : KernelState → List Entry → Type 0
HaveTargets k entries = AllByRecursion (HasTarget k) entries

-- each container requests what it did at first, or what it keeps of that, or its target
abbrev pub IsBetween : Ids → KernelState → KernelState → Entry → Type 0
IsBetween reserved first k e =
    (held k e ≡ held first e) ⊎ (held k e ≡ kept reserved e.target (held first e)) ⊎ (held k e ≡ e.target)

-- each container requests what it did at first, what it keeps of that, or its target
abbrev pub Between : Targets → KernelState → KernelState → Type 0
Between h first k = AllByRecursion (IsBetween h.reserved first k) h.entries

-- if a write was due and succeeded, one less is to come; if it failed, as many as before
abbrev pub Lowers : Targets → KernelState → Result Progress KernelFault → KernelState → Type 0
Lowers h old (Ok answer) new = writes_to_come h old ≡ writes_to_come h new + cond (is_some (due h old)) 1 0
Lowers h old (Err fault) new = writes_to_come h old ≡ writes_to_come h new

-- how many writing calls a step makes: one if one is due, whether it fails or not, and else none
abbrev pub made_by_step : Targets → KernelState → ℕ
made_by_step h k = cond (is_some (due h k)) 1 0

-- the kernel was written once for each write that is less to come, and once for each that failed
abbrev pub Spends : Targets → KernelState → ℕ → KernelState → Type 0
Spends h old failures new = writes new + writes_to_come h new ≡ writes old + writes_to_come h old + failures
