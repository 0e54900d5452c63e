use Rattle.machine.specs.WholeLaws.{whole_in-within, whole_in-whole, cpus_of_cores-cores_in, cpus_of_cores-IsWhole, cpus_of_cores-apart}
use Rattle.machine.proofs.laws.whole_laws.Goals as goal

pub returns-clause-within : goal.returns-clause-within
returns-clause-within c = whole_in-within

pub returns-clause-all : goal.returns-clause-all
returns-clause-all c = whole_in-whole

pub returns-clause-cores : goal.returns-clause-cores
returns-clause-cores c = cpus_of_cores-cores_in

pub returns-clause-whole : goal.returns-clause-whole
returns-clause-whole c = cpus_of_cores-IsWhole

pub returns-clause-apart : goal.returns-clause-apart
returns-clause-apart c = cpus_of_cores-apart
