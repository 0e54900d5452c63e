use Rattle.certificate_text.proofs.ProblemRows.{one_problem}
use Rattle.certificate_text.proofs.ProblemsWritten.{read_problems_can_be_written}
use Rattle.certificate_text.proofs.laws.problem_texts.Goals as goal

pub returns-clause-problem : goal.returns-clause-problem
returns-clause-problem c = one_problem

pub returns-clause-written : goal.returns-clause-written
returns-clause-written c = read_problems_can_be_written c.lists_stay_below.ensures
