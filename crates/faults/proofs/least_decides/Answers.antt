use Rattle.faults.specs.FirstLaws.{first_below-none, first_below-at, first_below-same}
use Rattle.faults.proofs.least_decides.Goals as goal

pub returns-clause-none : goal.returns-clause-none
returns-clause-none g c = first_below-none

pub returns-clause-least : goal.returns-clause-least
returns-clause-least g c = first_below-at

pub returns-clause-alike : goal.returns-clause-alike
returns-clause-alike g c = first_below-same
