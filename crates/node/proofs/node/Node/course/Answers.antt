use Rattle.node.proofs.PlanLemmas.{course_begins}
use Rattle.node.proofs.node.Node.course.Goals as goal

pub new-requires-in-Directly : goal.new-requires-in-Directly
new-requires-in-Directly g c =
    course_begins _ _ c.self.view_is c.self.invariant.node c.args.entries.items c.requires c.reserved-reserved.result c.reserved-reserved.ensures.reserved
    c.in_ok-allowed-in-Directly.allowed.items c.in_ok-allowed-in-Directly.ensures
