use Rattle.std.proofs.Common.{sym, subst}
use Rattle.node.specs.declared.course.Course.{Course}
use Rattle.node.specs.Orders.{FinishesBy}
use Rattle.node.specs.Viewed.{order_seen, seen_by}
use Rattle.node.proofs.course.Course.finish.Goals as goal

pub returns-in-InTurn : goal.returns-in-InTurn
returns-in-InTurn g c = λ found.
    subst (λ (x : Course). FinishesBy (order_seen x) c.args.machine.now (seen_by x found) (g.K.Kernel.state c.args.kernel.now) c.finish.result (g.K.Kernel.state c.finish.new.kernel))
    (sym c.in-InTurn.is) c.finish.ensures.finishes

pub returns-in-Directly : goal.returns-in-Directly
returns-in-Directly g c = λ found.
    subst (λ (x : Course). FinishesBy (order_seen x) c.args.machine.now (seen_by x found) (g.K.Kernel.state c.args.kernel.now) c.finish_directly.result (g.K.Kernel.state c.finish_directly.new.kernel))
    (sym c.in-Directly.is) c.finish_directly.ensures.finishes
