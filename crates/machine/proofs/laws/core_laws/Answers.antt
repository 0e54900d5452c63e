use Rattle.machine.specs.WholeLaws.{cores_in-within, cores_in-lowest, cores_in-rise, cores_in-cpus_of_cores, cpus_of_cores-within}
use Rattle.machine.proofs.laws.core_laws.Goals as goal

pub returns-clause-within : goal.returns-clause-within
returns-clause-within c = cores_in-within

pub returns-clause-lowest : goal.returns-clause-lowest
returns-clause-lowest c = cores_in-lowest

pub returns-clause-rise : goal.returns-clause-rise
returns-clause-rise c = cores_in-rise

pub returns-clause-back : goal.returns-clause-back
returns-clause-back c = cores_in-cpus_of_cores

pub returns-clause-filled : goal.returns-clause-filled
returns-clause-filled c = cpus_of_cores-within
