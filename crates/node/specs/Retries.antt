-- Rebalances in a row while writes of the kernel fail: they end.
use Rattle.std.specs.Prelude.{◌≡◌, ◌⊎◌, ℕ, ◌+◌, ◌*◌, ◌<◌, ◌≤◌, Bool, true, false, not, List, filter, length, map, Result, Ok, Err}
use Rattle.std.specs.List.{AllByRecursion, list_any}
use Rattle.faults.specs.declared.OrMemory.{OrMemory}
use Rattle.faults.specs.declared.OrMemory.TheVariants.{Memory, Fault}
use Rattle.kernel_model.specs.declared.KernelFault.TheVariants.{Failed}
use Rattle.kernel_model.specs.KernelState.{writes}
use Rattle.node.specs.declared.fault.NodeFault.{NodeFault}
use Rattle.node.specs.declared.fault.NodeFault.TheVariants.{Kernel}
use Rattle.node.specs.declared.order.Order.{Order}
use Rattle.node.specs.declared.outcome.Outcome.{Outcome}
use Rattle.node.specs.NodeState.{NodeState, is_underway}
use Rattle.node.specs.IsNode.{IsNode}
use Rattle.node.specs.Written.{live_count}
use Rattle.node.specs.Machine.{Run}
use Rattle.node.specs.Machine.Event.{Rebalance}

-- what a rebalance answers
abbrev pub Answer : Type 0
Answer = Result Outcome (OrMemory NodeFault)

-- a plan or a shortage, or an allocation failed, which has nothing to do with the kernel
abbrev pub is_answer : Answer → Bool
is_answer (Ok outcome) = true
is_answer (Err Memory) = true
is_answer (Err (Fault fault)) = false

-- it is one of these, or a write of the kernel failed
abbrev pub IsAnswerOrFailed : Answer → Type 0
IsAnswerOrFailed answer = (is_answer answer ≡ true) ⊎ (answer ≡ Err (Fault (Kernel Failed)))

-- how many of these answers are that a write failed
abbrev pub failed_in : List Answer → ℕ
failed_in answers = length (filter (λ answer. not (is_answer answer)) answers)

-- what rebalances in a row come to. Each answers, or a write of it failed, which is counted. So if fewer writes fail than there
-- are rebalances, one of them answers. However many there are, at most two writes for each live container succeed, and as
-- many again for each that failed.
pub record RetriesLeave (old : NodeState) (answers : List Answer) (new : NodeState) : Type 0 where
  pub each : AllByRecursion IsAnswerOrFailed answers
  pub counted : new.kernel.failures ≡ old.kernel.failures + failed_in answers
  pub ends : new.kernel.failures < old.kernel.failures + length answers → list_any is_answer answers ≡ true
  pub few : writes new.kernel ≤ writes old.kernel + failed_in answers + (failed_in answers + 1) * (2 * live_count old)

-- rebalances in a row, each in its order and with its answer, leave that, if no hand-over is open before them
abbrev pub RetriesEnd : Type 0
RetriesEnd =
    (old : NodeState) (calls : List (Order × Answer)) (new : NodeState) → IsNode old → is_underway old.phase ≡ false
    → Run old (map (λ c. Rebalance c.0 c.1) calls) new → RetriesLeave old (map (λ c. c.1) calls) new
