-- What one of the writes leaves that may follow, of plain states.
use Rattle.std.specs.Prelude.{◌≡◌, ◌+◌, ◌≤◌, true, find, Some, is_none, is_some}
use Rattle.kernel_model.specs.KernelState.{KernelState}
use Rattle.kernel_model.specs.Laws.{StepKeeps}
use Rattle.apply_plan.specs.declared.scan.Write.{Write}
use Rattle.apply_plan.specs.Holders.{IsSafe}
use Rattle.apply_plan.specs.Targets.{holders_of, IsHandover, ArePlaced}
use Rattle.apply_plan.specs.DueWrite.{must_move, written}
use Rattle.apply_plan.specs.Leaves.{KeepsRest}
use Rattle.apply_plan.specs.Runs.{IsOpen}
use Rattle.apply_plan.specs.MayWrite.{left_directly}
use Rattle.apply_plan.specs.Directed.{Directed, Least, Serves}
use Rattle.apply_plan.specs.OnWay.{AreOnWay}
use Rattle.apply_plan.specs.DirectWrite.{due_directly}
use Rattle.apply_plan.specs.Squeezes.{SqueezesOnlyStuck}
use Rattle.direct_finish.specs.FinishesDirectly.{MayFollow}

-- the hand-over is still open, what was safe is safe, and nothing changed but what the entries request and the kernel's counts.
-- One write less is left, or fewer, each container is on its way, and only one that is stuck is squeezed.
pub record FollowerLeaves (d : Directed) (least : Least) (old new : KernelState) : Type 0 where
  pub open_still : IsOpen d.targets new
  pub safe : IsSafe old d.targets.reserved (holders_of d.targets.entries) → IsSafe new d.targets.reserved (holders_of d.targets.entries)
  pub rest : KeepsRest d.targets old new
  pub fewer : left_directly d.targets new + 1 ≤ left_directly d.targets old
  pub on_way : (first : KernelState) → AreOnWay d first old → AreOnWay d first new
  pub squeezes : SqueezesOnlyStuck d least old new
  pub kernel : StepKeeps old new

-- each write that may follow leaves this
abbrev pub FollowersLeave : Type 0
FollowersLeave =
    (d : Directed) (least : Least) (old : KernelState) (w : Write) → Serves d least → IsOpen d.targets old → MayFollow d least old w
    → FollowerLeaves d least old (written old (Some w))

-- while one may follow a single step has a write to make, and none is left once nobody must move
pub record StepsFollow (d : Directed) (least : Least) (k : KernelState) : Type 0 where
  pub some : (w : Write) → MayFollow d least k w → is_some (due_directly d least k) ≡ true
  pub none : is_none (find (must_move k) d.targets.entries) ≡ true → is_none (due_directly d least k) ≡ true

-- so it is wherever the entries' groups are there
abbrev pub EachStepFollows : Type 0
EachStepFollows = (d : Directed) (least : Least) (k : KernelState) → IsHandover d.targets → Serves d least → ArePlaced k d.targets.entries → StepsFollow d least k
