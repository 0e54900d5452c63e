-- What one step of a direct hand-over leaves, of plain states.
use Rattle.std.specs.Prelude.{◌≡◌, ℕ, ◌+◌, ◌≤◌, Result, Ok}
use Rattle.kernel_model.specs.declared.KernelFault.{KernelFault}
use Rattle.kernel_model.specs.KernelState.{KernelState, writes}
use Rattle.kernel_model.specs.Cases.{rise}
use Rattle.kernel_model.specs.Laws.{StepKeeps}
use Rattle.apply_plan.specs.declared.handover.Progress.{Progress}
use Rattle.apply_plan.specs.declared.handover.Progress.TheVariants.{More, Done}
use Rattle.apply_plan.specs.Holders.{IsSafe}
use Rattle.apply_plan.specs.Targets.{holders_of}
use Rattle.apply_plan.specs.DueWrite.{HaveTargets}
use Rattle.apply_plan.specs.Leaves.{KeepsRest}
use Rattle.apply_plan.specs.Runs.{IsOpen}
use Rattle.apply_plan.specs.MayWrite.{left_directly}
use Rattle.apply_plan.specs.Directed.{Directed, Least, Serves}
use Rattle.apply_plan.specs.OnWay.{AreOnWay}
use Rattle.apply_plan.specs.DirectWrite.{StepsDirectly, LowersDirectly, made_directly}
use Rattle.apply_plan.specs.Squeezes.{SqueezesOnlyStuck}

-- the kernel was written at most once for each write that fewer are left, and once for each that failed
abbrev pub SpendsDirectly : Directed → KernelState → ℕ → KernelState → Type 0
SpendsDirectly d old failures new = writes new + left_directly d.targets new ≤ writes old + left_directly d.targets old + failures

-- what one step leaves. The hand-over is still open, what was safe is safe, and nothing changed but the entries' sets and the
-- kernel's counts. If no write is due any more each live container has its target; if one still is, one less is left or fewer.
-- Each container is on its way, and only one that is stuck is squeezed. One writing call was made if a write was due, and else
-- none.
pub record StepLeavesDirectly (d : Directed) (least : Least) (old : KernelState) (r : Result Progress KernelFault) (new : KernelState) : Type 0 where
  pub open_still : IsOpen d.targets new
  pub safe : IsSafe old d.targets.reserved (holders_of d.targets.entries) → IsSafe new d.targets.reserved (holders_of d.targets.entries)
  pub rest : KeepsRest d.targets old new
  pub done : r ≡ Ok Done → HaveTargets new d.targets.entries
  pub falls : r ≡ Ok More → left_directly d.targets new + 1 ≤ left_directly d.targets old
  pub lowers : LowersDirectly d least old r new
  pub on_way : (first : KernelState) → AreOnWay d first old → AreOnWay d first new
  pub squeezes : SqueezesOnlyStuck d least old new
  pub counted : new.failures ≡ old.failures + rise r
  pub made : writes new ≡ writes old + made_directly d least old
  pub spends : SpendsDirectly d old (rise r) new
  pub kernel : StepKeeps old new

-- each step leaves this, of plain values
abbrev pub DirectStepsLeave : Type 0
DirectStepsLeave =
    (d : Directed) (least : Least) (old : KernelState) (r : Result Progress KernelFault) (new : KernelState) → Serves d least → IsOpen d.targets old
    → StepsDirectly d least old r new → StepLeavesDirectly d least old r new
