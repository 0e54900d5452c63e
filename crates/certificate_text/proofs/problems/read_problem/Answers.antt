use Rattle.certificate_text.proofs.ProblemLines.{is_problem_read}
use Rattle.certificate_text.proofs.problems.read_problem.Goals as goal

pub returns-clause-complete : goal.returns-clause-complete
returns-clause-complete c = is_problem_read c.args.text.now c.read_problem_body.result c.read_problem_body.ensures.ok c.read_problem_body.ensures.error
