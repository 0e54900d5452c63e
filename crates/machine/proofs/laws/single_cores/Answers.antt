use Rattle.machine.specs.CoreCountLaws.{all_are_whole, single_cores_in, single_cpus_of_cores}
use Rattle.machine.proofs.laws.single_cores.Goals as goal

pub returns-clause-whole : goal.returns-clause-whole
returns-clause-whole c = all_are_whole

pub returns-clause-cores : goal.returns-clause-cores
returns-clause-cores c = single_cores_in

pub returns-clause-cpus : goal.returns-clause-cpus
returns-clause-cpus c = single_cpus_of_cores
