-- The writes of a hand-over as the program makes them, entry by entry. No public clause cites this module.
use Rattle.std.specs.Prelude.{◌≡◌, ℕ, zero, suc, Bool, true, false, not, cond, List, take, length, Option, Some, None, is_some, Result, Ok, Err}
use Rattle.std.specs.List.{AllByRecursion}
use Rattle.cpu_set.specs.Ids.{Ids, is_same}
use Rattle.kernel_model.specs.declared.fault.KernelFault.{KernelFault}
use Rattle.kernel_model.specs.declared.fault.KernelFault.TheVariants.{Failed}
use Rattle.kernel_model.specs.KernelState.{KernelState}
use Rattle.apply_plan.specs.declared.entry.Entry.{Entry}
use Rattle.apply_plan.specs.declared.scan.Write.{Write}
use Rattle.apply_plan.specs.Targets.{Targets, ArePlaced}
use Rattle.apply_plan.specs.Kept.{kept}
use Rattle.apply_plan.specs.DueWrite.{must_release, must_move, release_of, move_of, due, written, missed}

-- an entry whose container must move
abbrev pub moving : KernelState → Entry → Option Entry
moving k e = cond (must_move k e) (Some e) None

-- the write by which an entry that holds these CPUs lets go, if it must
abbrev pub release_from : Ids → Entry → Ids → Option Write
release_from reserved e cpus =
    cond (not (is_same (kept reserved e.target cpus) cpus)) (Some (record { group = e.group; cpus = kept reserved e.target cpus })) None

-- the write by which an entry lets go, if it must
abbrev pub its_release : KernelState → Ids → Entry → Option Write
its_release k reserved e = cond (must_release k reserved e) (Some (release_of k reserved e)) None

-- the write by which an entry takes its target, if it does not hold it
abbrev pub its_move : KernelState → Entry → Option Write
its_move k e = cond (must_move k e) (Some (move_of e)) None

-- a write is made, if there is one; where it fails it is told and counted, and nothing else changes
abbrev pub IsMadeIfAny : Option Write → KernelState → Result (Unit {0}) KernelFault → KernelState → Type 0
IsMadeIfAny w old (Ok _) new = new ≡ written old w
IsMadeIfAny w old (Err fault) new = (fault ≡ Failed) × (new ≡ missed w old) × (is_some w ≡ true)

-- that a write was made, or that it failed
abbrev pub done_of : Result ℕ KernelFault → Result (Unit {0}) KernelFault
done_of (Ok _) = Ok tt
done_of (Err fault) = Err fault

-- so many writes, each of which is due
abbrev pub Writes : Targets → ℕ → KernelState → KernelState → Type 0
Writes h zero old new = new ≡ old
Writes h (suc n) old new = (is_some (due h old) ≡ true) × Writes h n (written old (due h old)) new

-- some writes, each of which is due
abbrev pub HasWritten : Targets → KernelState → KernelState → Type 0
HasWritten h old new = (n : ℕ) × Writes h n old new

-- some writes, each of which is due, and one more that fails
pub record Stops (h : Targets) (old : KernelState) (error : KernelFault) (new : KernelState) : Type 0 where
  pub mid : KernelState
  pub made : HasWritten h old mid
  pub wanted : is_some (due h mid) ≡ true
  pub fault : error ≡ Failed
  pub is : new ≡ missed (due h mid) mid

-- no entry passes the test
abbrev pub NoneMust : (Entry → Bool) → List Entry → Type 0
NoneMust test entries = AllByRecursion (λ e. test e ≡ false) entries

-- the writes after which none of the first entries must let go any more
pub record HaveReleased (h : Targets) (count : ℕ) (old new : KernelState) : Type 0 where
  pub made : HasWritten h old new
  pub placed : ArePlaced new h.entries
  pub keep : NoneMust (must_release new h.reserved) (take count h.entries)

-- the writes after which none must let go, and each of the first entries that lives holds its target
pub record HaveMoved (h : Targets) (count : ℕ) (old new : KernelState) : Type 0 where
  pub made : HasWritten h old new
  pub placed : ArePlaced new h.entries
  pub keep : NoneMust (must_release new h.reserved) h.entries
  pub hold : NoneMust (must_move new) (take count h.entries)

-- what the walk leaves in which containers let go
abbrev pub LetsGo : Targets → KernelState → Result (Unit {0}) KernelFault → KernelState → Type 0
LetsGo h old (Ok _) new = HaveReleased h (length h.entries) old new
LetsGo h old (Err fault) new = Stops h old fault new

-- and the one in which they take their targets
abbrev pub TakesTargets : Targets → KernelState → Result (Unit {0}) KernelFault → KernelState → Type 0
TakesTargets h old (Ok _) new = HaveMoved h (length h.entries) old new
TakesTargets h old (Err fault) new = Stops h old fault new
