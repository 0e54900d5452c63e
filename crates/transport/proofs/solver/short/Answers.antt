use Rattle.transport.proofs.Shortage.{solved_shortage}
use Rattle.transport.proofs.solver.short.Goals as goal

pub returns-clause-solved : goal.returns-clause-solved
returns-clause-solved c =
    solved_shortage c.args.problem.now c.args.classes.now c.args.reached.now c.args.taken.now c.args.turns c.requires.grouping c.requires.stuck
    c.in_ok-members.members.items c.in_ok-members.ensures c.closed_rows_are_short.ensures c.a_shortage_leaves_no_plan.ensures
