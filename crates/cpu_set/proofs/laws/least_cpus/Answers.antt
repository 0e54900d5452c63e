use Rattle.cpu_set.specs.LeastLaws.{least-some, least-passes, least-none}
use Rattle.cpu_set.proofs.laws.least_cpus.Goals as goal

pub returns-clause-is_least : goal.returns-clause-is_least
returns-clause-is_least c = least-some

pub returns-clause-passes : goal.returns-clause-passes
returns-clause-passes c = least-passes

pub returns-clause-none : goal.returns-clause-none
returns-clause-none c = least-none
