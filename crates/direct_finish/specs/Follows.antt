-- What part of a hand-over's writes leaves. No public clause cites this module.
use Rattle.std.specs.Prelude.{◌≡◌, ◌+◌, ◌≤◌, Bool, true, false, List, find, Some, is_none, Result, Ok, Err}
use Rattle.kernel_model.specs.declared.KernelFault.{KernelFault}
use Rattle.kernel_model.specs.declared.KernelFault.TheVariants.{Failed}
use Rattle.kernel_model.specs.KernelState.{KernelState}
use Rattle.apply_plan.specs.declared.scan.Write.{Write}
use Rattle.apply_plan.specs.Holders.{IsSafe}
use Rattle.apply_plan.specs.Targets.{Targets, holders_of, ArePlaced}
use Rattle.apply_plan.specs.DueWrite.{must_move, missed}
use Rattle.apply_plan.specs.MayWrite.{left_directly}
use Rattle.direct_finish.specs.declared.bounds.Bounds.{Bounds}
use Rattle.direct_finish.specs.FinishesDirectly.{Follow, after}
use Rattle.direct_finish.specs.Bounded.{AreBounded}

-- some writes, each of which was so when it was made
pub record HasWritten (P : KernelState → Write → Type 0) (old new : KernelState) : Type 0 where
  pub writes : List Write
  pub follow : Follow P old writes
  pub is : new ≡ after old writes

-- some such writes, and one more that failed
pub record Stops (P : KernelState → Write → Type 0) (old : KernelState) (fault : KernelFault) (new : KernelState) : Type 0 where
  pub mid : KernelState
  pub made : HasWritten P old mid
  pub fault_is : fault ≡ Failed
  pub tried : Write
  pub wanted : P mid tried
  pub is : new ≡ missed (Some tried) mid

-- some such writes, up to one that failed
abbrev pub Leaves : {A : Type 0} → (KernelState → Write → Type 0) → KernelState → Result A KernelFault → KernelState → Type 0
Leaves P old (Ok _) new = HasWritten P old new
Leaves P old (Err fault) new = Stops P old fault new

-- where some was written, fewer are left
abbrev pub Falls : Targets → KernelState → KernelState → Bool → Type 0
Falls h old new true = left_directly h new + 1 ≤ left_directly h old
Falls h old new false = new ≡ old

-- a turn ends a hand-over where nobody must move, or else fewer writes are left
abbrev pub Turns : Targets → KernelState → KernelState → Bool → Type 0
Turns h old new true = is_none (find (must_move new) h.entries) ≡ true
Turns h old new false = left_directly h new + 1 ≤ left_directly h old

-- what has to hold before a target is taken
pub record IsReady (h : Targets) (k : KernelState) (b : Bounds) : Type 0 where
  pub placed : ArePlaced k h.entries
  pub safe : IsSafe k h.reserved (holders_of h.entries)
  pub bounded : AreBounded k h.reserved h.entries b
