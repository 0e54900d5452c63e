use Rattle.transport.proofs.Solving.{if_ok, right_of, decided_of, dealt_of, prices_of_classes, turns_of}
use Rattle.transport.proofs.solver.solve.Goals as goal

pub returns : goal.returns
returns c =
    let rows = c.args.problem.now in
    record {
      right = if_ok c.solve_body.result (right_of rows) c.solve_body.ensures;
      decided = if_ok c.solve_body.result (decided_of rows) c.solve_body.ensures;
      dealt = if_ok c.solve_body.result (dealt_of rows) c.solve_body.ensures;
      priced = if_ok c.solve_body.result (prices_of_classes rows) c.solve_body.ensures;
      turns = if_ok c.solve_body.result (turns_of rows) c.solve_body.ensures;
    }
