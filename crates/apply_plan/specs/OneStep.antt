-- What one step of a hand-over leaves, of plain states.
use Rattle.std.specs.Prelude.{◌≡◌, ◌+◌, Result, Ok}
use Rattle.kernel_model.specs.declared.KernelFault.{KernelFault}
use Rattle.kernel_model.specs.KernelState.{KernelState, writes}
use Rattle.kernel_model.specs.Cases.{rise}
use Rattle.kernel_model.specs.Laws.{StepKeeps}
use Rattle.apply_plan.specs.declared.handover.Progress.{Progress}
use Rattle.apply_plan.specs.declared.handover.Progress.TheVariants.{More, Done}
use Rattle.apply_plan.specs.Holders.{IsSafe}
use Rattle.apply_plan.specs.Targets.{Targets, holders_of}
use Rattle.apply_plan.specs.DueWrite.{Steps, writes_to_come, HaveTargets, Between, Lowers, made_by_step, Spends}
use Rattle.apply_plan.specs.Leaves.{KeepsRest}
use Rattle.apply_plan.specs.Runs.{IsOpen}

-- what one step leaves. The hand-over is still open, what was safe is safe, and nothing changed but the entries' sets and the
-- kernel's counts. If no write is due any more each live container has its target and none is to come; if one still is, one
-- less is to come. One writing call was made if a write was due, and else none.
pub record StepLeaves (h : Targets) (old : KernelState) (r : Result Progress KernelFault) (new : KernelState) : Type 0 where
  pub open_still : IsOpen h new
  pub safe : IsSafe old h.reserved (holders_of h.entries) → IsSafe new h.reserved (holders_of h.entries)
  pub rest : KeepsRest h old new
  pub done : r ≡ Ok Done → HaveTargets new h.entries
  pub falls : r ≡ Ok More → writes_to_come h old ≡ writes_to_come h new + 1
  pub lowers : Lowers h old r new
  pub between : (first : KernelState) → Between h first old → Between h first new
  pub counted : new.failures ≡ old.failures + rise r
  pub made : writes new ≡ writes old + made_by_step h old
  pub spends : Spends h old (rise r) new
  pub spent : r ≡ Ok Done → writes_to_come h new ≡ 0
  pub kernel : StepKeeps old new

-- each step leaves this, of plain values
abbrev pub StepsLeave : Type 0
StepsLeave =
    (h : Targets) (old : KernelState) (r : Result Progress KernelFault) (new : KernelState) → IsOpen h old → Steps h old r new → StepLeaves h old r new
