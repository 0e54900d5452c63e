use Rattle.cpu_set.specs.LeastLaws.{least-first, least-difference, least-both}
use Rattle.cpu_set.proofs.laws.least_members.Goals as goal

pub returns-clause-first : goal.returns-clause-first
returns-clause-first c = least-first

pub returns-clause-difference : goal.returns-clause-difference
returns-clause-difference c = least-difference

pub returns-clause-both : goal.returns-clause-both
returns-clause-both c = least-both
