use Rattle.network_simplex.proofs.Proposals.{each_row_fits}
use Rattle.network_simplex.proofs.proposal.propose_body.Goals as goal

pub group-requires-clause-fit : goal.group-requires-clause-fit
group-requires-clause-fit c = each_row_fits c.args.problem.now c.requires
