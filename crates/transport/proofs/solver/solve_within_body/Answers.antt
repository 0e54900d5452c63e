use Rattle.transport.proofs.Pricing.{each_row_fits}
use Rattle.transport.proofs.solver.solve_within_body.Goals as goal

pub group-requires-clause-fit : goal.group-requires-clause-fit
group-requires-clause-fit c = each_row_fits c.args.problem.now c.requires
