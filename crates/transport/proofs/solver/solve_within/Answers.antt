use Rattle.transport.proofs.Solving.{if_ok, if_some, limited_of, late_of, right_of, decided_of, dealt_of, prices_of_classes, turns_of}
use Rattle.transport.proofs.solver.solve_within.Goals as goal

pub returns : goal.returns
returns c =
    let rows = c.args.problem.now in
    let limit = c.args.limit in
    record {
      right = if_ok c.solve_within_body.result (if_some rows limit (right_of rows)) c.solve_within_body.ensures;
      decided = if_ok c.solve_within_body.result (if_some rows limit (decided_of rows)) c.solve_within_body.ensures;
      dealt = if_ok c.solve_within_body.result (if_some rows limit (dealt_of rows)) c.solve_within_body.ensures;
      priced = if_ok c.solve_within_body.result (if_some rows limit (prices_of_classes rows)) c.solve_within_body.ensures;
      turns = if_ok c.solve_within_body.result (if_some rows limit (turns_of rows)) c.solve_within_body.ensures;
      limited = if_ok c.solve_within_body.result (limited_of rows limit) c.solve_within_body.ensures;
      late = if_ok c.solve_within_body.result (late_of rows limit) c.solve_within_body.ensures;
    }
