-- What was worked out, and the steps that follow a plan.
use Rattle.std.proofs.Common.{◌≡◌, ℕ, refl, subst}
use Rattle.std.specs.Prelude.{Result, Ok}
use Rattle.kernel_model.specs.declared.KernelFault.{KernelFault}
use Rattle.node.specs.declared.order.Order.{Order}
use Rattle.node.specs.declared.outcome.Outcome.{Outcome}
use Rattle.node.specs.declared.outcome.Outcome.TheVariants.{Plan, Short}
use Rattle.node.specs.NodeState.{NodeState}
use Rattle.node.specs.Rebalance.{Begins, Finishes, Moves, Rebalances}

module _ (order : Order) (old mid : NodeState) (outcome : Outcome) (begun : Begins order old (Ok outcome) mid) where
  -- after a plan come the steps
  pub moves : (total : ℕ) → outcome ≡ Plan total → (r : Result (Unit {0}) KernelFault) (new : NodeState) → Finishes mid r new → Moves order old total r new
  moves total is r new f = record { mid = mid; begun = subst (λ (o : Outcome). Begins order old (Ok o) mid) is begun; finishes = f }

  pub plan_moved : (total : ℕ) → outcome ≡ Plan total → (new : NodeState) → Finishes mid (Ok tt) new → Rebalances order old (Ok outcome) new
  plan_moved total is new f = rw is (moves total is (Ok tt) new f)

-- after a shortage nothing does
pub short_left : (order : Order) (old new : NodeState) (outcome : Outcome) → ((total : ℕ) → outcome ≡ Plan total → ⊥) → Begins order old (Ok outcome) new → Rebalances order old (Ok outcome) new
short_left order old new (Plan total) none b = absurd (none total refl)
short_left order old new (Short wanted allowed) none b = b
