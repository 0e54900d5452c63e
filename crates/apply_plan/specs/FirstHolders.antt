-- Who holds a CPU first, as a table of places tells it. No public clause cites this module.
use Rattle.std.specs.Prelude.{◌≡◌, ◌⊎◌, ℕ, ◌<◌, ◌≤◌, Bool, true, false, ◌&&◌, ◌||◌, List, get_or}
use Rattle.std.specs.FinSet as set
use Rattle.cpu_set.specs.Ids.{Ids}
use Rattle.proctable.specs.Processes.{is_alive}
use Rattle.kernel_model.specs.KernelState.{KernelState}
use Rattle.apply_plan.specs.declared.entry.Entry.{Entry}
use Rattle.apply_plan.specs.DueWrite.{held}

-- a live container holds the CPU; a pinned one, where not anyone counts
abbrev pub has_cpu : KernelState → Bool → ℕ → Entry → Bool
has_cpu k any q d = ((any || d.pinned) && is_alive k.table d.pid) && set.contains (held k d) q

-- of so many entries, from the first on: at each CPU that was seen stands the place of the first that holds it; the others nobody
-- holds, but for reserved ones
pub record AreFirsts (k : KernelState) (reserved : Ids) (entries : List Entry) (any : Bool) (upto : ℕ) (seen : Ids) (places : List ℕ) : Type 0 where
  pub outside : (q : ℕ) → set.contains seen q ≡ true → set.contains reserved q ≡ false
  pub within : (q : ℕ) → set.contains seen q ≡ true → get_or places q 0 < upto
  pub holds : (q : ℕ) (d : Entry) → set.contains seen q ≡ true → d ≡ get_or entries (get_or places q 0) d → has_cpu k any q d ≡ true
  pub first : (q j : ℕ) (d : Entry) → set.contains seen q ≡ true → j < get_or places q 0 → d ≡ get_or entries j d → has_cpu k any q d ≡ false
  pub none : (q j : ℕ) (d : Entry) → set.contains seen q ≡ false → set.contains reserved q ≡ false → j < upto → d ≡ get_or entries j d → has_cpu k any q d ≡ false

-- the least number that the table has at one of these CPUs, and the end where it has none
pub record IsLeastPlace (cpus : Ids) (places : List ℕ) (end least : ℕ) : Type 0 where
  pub below : (q : ℕ) → set.contains cpus q ≡ true → least ≤ get_or places q 0
  pub among : (least ≡ end) ⊎ ((q : ℕ) × ((set.contains cpus q ≡ true) × (get_or places q 0 ≡ least)))
