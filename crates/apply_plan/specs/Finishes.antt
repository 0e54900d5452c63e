-- The steps of a hand-over up to the one that ends it.
use Rattle.std.specs.Prelude.{◌≡◌, ℕ, zero, suc, Result, Ok, Err}
use Rattle.kernel_model.specs.declared.KernelFault.{KernelFault}
use Rattle.kernel_model.specs.KernelState.{KernelState}
use Rattle.apply_plan.specs.declared.handover.Progress.{Progress}
use Rattle.apply_plan.specs.declared.handover.Progress.TheVariants.{More, Done}
use Rattle.apply_plan.specs.Targets.{Targets}
use Rattle.apply_plan.specs.DueWrite.{Steps}

-- n steps, after each of which another write is due
abbrev pub StepsMore : Targets → ℕ → KernelState → KernelState → Type 0
StepsMore h zero old new = new ≡ old
StepsMore h (suc n) old new = (mid : KernelState) × Steps h old (Ok More) mid × StepsMore h n mid new

-- what the step answers that ends a hand-over: nothing is due after it, or its write failed
abbrev pub last_answer : Result (Unit {0}) KernelFault → Result Progress KernelFault
last_answer (Ok _) = Ok Done
last_answer (Err fault) = Err fault

-- the steps of a hand-over up to the one that ends it
pub record Finishes (h : Targets) (old : KernelState) (r : Result (Unit {0}) KernelFault) (new : KernelState) : Type 0 where
  pub steps : ℕ
  pub mid : KernelState
  pub more : StepsMore h steps old mid
  pub ends : Steps h mid (last_answer r) new
