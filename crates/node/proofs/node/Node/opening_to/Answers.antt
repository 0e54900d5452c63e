use Rattle.std.proofs.Common.{sym, ap, rules}
use Rattle.node.specs.NodeState.{NodeState}
use Rattle.node.proofs.PlanLemmas.{entries_placed, entries_handed, opened_is, opened_stands}
use Rattle.node.proofs.node.Node.opening_to.Goals as goal

pub requests_of-requires : goal.requests_of-requires
requests_of-requires g c =
    entries_placed _ _ c.self.view_is c.self.invariant.node c.args.sets.now c.requires c.pool_of-pool.result (search rules) c.deref.result.now (search rules)

pub course-requires : goal.course-requires
course-requires g c =
    entries_handed _ _ c.self.view_is c.self.invariant.node c.args.sets.now c.requires c.pool_of-pool.result (search rules)
    c.in_ok-entries.entries.items (search rules) c.args.self.now.machine.reserved (ap (λ (n : NodeState). n.machine.reserved) (sym c.self.view_is))

pub returns-clause-ongoing : goal.returns-clause-ongoing
returns-clause-ongoing g c =
    opened_is _ _ c.self.view_is c.self.invariant.node c.args.sets.now c.requires c.pool_of-pool.result (search rules) c.in_ok-entries.entries.items (search rules)
    c.args.order c.in_ok-requested_at_begin.requested_at_begin.items (search rules) _ (c.in_ok-course.ensures c.in_ok-requested_at_begin.requested_at_begin.items)

pub returns-clause-stands : goal.returns-clause-stands
returns-clause-stands g c =
    opened_stands _ _ c.self.view_is c.self.invariant.node c.args.sets.now c.requires c.args.order _
    (opened_is _ _ c.self.view_is c.self.invariant.node c.args.sets.now c.requires c.pool_of-pool.result (search rules) c.in_ok-entries.entries.items (search rules)
    c.args.order c.in_ok-requested_at_begin.requested_at_begin.items (search rules) _ (c.in_ok-course.ensures c.in_ok-requested_at_begin.requested_at_begin.items))
