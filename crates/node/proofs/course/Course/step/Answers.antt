use Rattle.std.proofs.Common.{sym, subst}
use Rattle.node.specs.declared.course.Course.{Course}
use Rattle.node.specs.Orders.{StepsBy}
use Rattle.node.specs.Viewed.{order_seen, seen_by}
use Rattle.node.proofs.course.Course.step.Goals as goal

pub returns-in-Directly-clause-step : goal.returns-in-Directly-clause-step
returns-in-Directly-clause-step g c = λ found.
    subst (λ (x : Course). StepsBy (order_seen x) c.args.machine.now (seen_by x found) (g.K.Kernel.state c.args.kernel.now) c.step-in-Directly.result (g.K.Kernel.state c.step-in-Directly.new.kernel))
    (sym c.in-Directly.is) c.step-in-Directly.ensures.step
