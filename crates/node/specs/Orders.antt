-- What a step of a hand-over is in each order, and what it leaves to do.
use Rattle.std.specs.Prelude.{◌≡◌, ℕ, ◌+◌, ◌≤◌, Some, Result, Ok, Err}
use Rattle.kernel_model.specs.declared.KernelFault.{KernelFault}
use Rattle.kernel_model.specs.declared.KernelFault.TheVariants.{Failed}
use Rattle.kernel_model.specs.KernelState.{KernelState}
use Rattle.machine.specs.Layout.{Layout}
use Rattle.apply_plan.specs.declared.Progress.{Progress}
use Rattle.apply_plan.specs.declared.Progress.TheVariants.{More}
use Rattle.apply_plan.specs.Targets.{Targets}
use Rattle.apply_plan.specs.declared.scan.Write.{Write}
use Rattle.apply_plan.specs.DueWrite.{Steps, written, missed, writes_to_come, made_by_step}
use Rattle.apply_plan.specs.Finishes as turn
use Rattle.apply_plan.specs.MayWrite.{left_directly}
use Rattle.apply_plan.specs.Directed.{Directed}
use Rattle.apply_plan.specs.DirectWrite.{StepsDirectly, made_directly}
use Rattle.direct_finish.specs.FinishesDirectly.{MayFollow, FinishesDirectly}
use Rattle.node.specs.declared.order.Order.{Order}
use Rattle.node.specs.declared.order.Order.TheVariants.{InTurn, Directly}
use Rattle.node.specs.NodeState.{Ongoing}
use Rattle.node.specs.LeastCores.{least_cores}

-- a hand-over as the direct order knows it
abbrev pub directed_of : Ongoing → Directed
directed_of o = record { targets = o.targets; allowed = o.allowed }

-- a step in this order
abbrev pub StepsBy : Order → Layout → Ongoing → KernelState → Result Progress KernelFault → KernelState → Type 0
StepsBy InTurn m o old r new = Steps o.targets old r new
StepsBy Directly m o old r new = StepsDirectly (directed_of o) (least_cores m) old r new

-- one of the writes that are made all at once, but for the one that ends them: in turn a step after which more are to come;
-- directly a write by which a container takes its target, of which no rival holds any, or the one that a single step makes
abbrev pub WritesBy : Order → Layout → Ongoing → KernelState → KernelState → Type 0
WritesBy InTurn m o old new = Steps o.targets old (Ok More) new
WritesBy Directly m o old new = (w : Write) × MayFollow (directed_of o) (least_cores m) old w × (new ≡ written old (Some w))

-- one of them that fails, by which they end: in turn that of a step; directly one that might have followed. It is told and counted,
-- and nothing else changes.
abbrev pub MissesBy : Order → Layout → Ongoing → KernelState → KernelFault → KernelState → Type 0
MissesBy InTurn m o old fault new = Steps o.targets old (Err fault) new
MissesBy Directly m o old fault new =
    (fault ≡ Failed) × ((w : Write) × MayFollow (directed_of o) (least_cores m) old w × (new ≡ missed (Some w) old))

-- all writes of a hand-over that are made at once: in turn those of steps; directly any of which each is such a write
abbrev pub FinishesBy : Order → Layout → Ongoing → KernelState → Result (Unit {0}) KernelFault → KernelState → Type 0
FinishesBy InTurn m o old r new = turn.Finishes o.targets old r new
FinishesBy Directly m o old r new = FinishesDirectly (directed_of o) (least_cores m) old r new

-- how many writes are left; in the direct order, at most
abbrev pub left_by : Order → Targets → KernelState → ℕ
left_by InTurn h k = writes_to_come h k
left_by Directly h k = left_directly h k

-- how many writes are left of a hand-over, in its order
abbrev pub left_of : Ongoing → KernelState → ℕ
left_of o k = left_by o.order o.targets k

-- a step after which more are to come leaves one write less; in the direct order one less, or fewer
abbrev pub FallsBy : Order → Targets → KernelState → KernelState → Type 0
FallsBy InTurn h old new = writes_to_come h old ≡ writes_to_come h new + 1
FallsBy Directly h old new = left_directly h new + 1 ≤ left_directly h old

-- how many writing calls a step makes: one if a write is due, whether it fails or not, and else none
abbrev pub made_by : Order → Layout → Ongoing → KernelState → ℕ
made_by InTurn m o k = made_by_step o.targets k
made_by Directly m o k = made_directly (directed_of o) (least_cores m) k
