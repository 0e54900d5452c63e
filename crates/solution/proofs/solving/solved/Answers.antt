use Rattle.solution.proofs.Solutions.{solution}
use Rattle.solution.proofs.solving.solved.Goals as goal

pub returns-clause-solution : goal.returns-clause-solution
returns-clause-solution c = solution c.args.problem c.requires.fit c.certificate_of.result c.certificate_of.ensures.decided

pub returns-clause-stands : goal.returns-clause-stands
returns-clause-stands c = c.written_texts_are_read.ensures c.certificate_of.result c.certificate_of.ensures.can c.certificate_of.ensures.held
