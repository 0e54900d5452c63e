use Rattle.solution.proofs.DecidingLemmas.{can_write, held, decides}
use Rattle.solution.proofs.deciding.certificate_of.Goals as goal

pub returns-clause-can : goal.returns-clause-can
returns-clause-can c =
    rw c.answered.ensures.is (can_write c.args.problem c.args.weights c.what_is_within_the_limits.ensures.all c.requires.writable _ c.requires.answer)

pub returns-clause-held : goal.returns-clause-held
returns-clause-held c =
    let fits = rw c.answered.ensures.is at c.answered.ensures.held in
    rw c.answered.ensures.is (held c.args.problem c.args.weights c.what_is_within_the_limits.ensures.all c.requires.writable _ c.requires.answer fits)

pub returns-clause-decided : goal.returns-clause-decided
returns-clause-decided c =
    rw c.answered.ensures.is (decides _ _ _ c.requires.answer c.requires.needed)
