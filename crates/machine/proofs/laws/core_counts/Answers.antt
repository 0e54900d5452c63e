use Rattle.machine.specs.CoreCountLaws.{cores_are_alike, len-whole_in}
use Rattle.machine.specs.CoreSumLaws.{cores_weigh_alike, cores_are_near}
use Rattle.machine.proofs.laws.core_counts.Goals as goal

pub returns-clause-cores : goal.returns-clause-cores
returns-clause-cores c = cores_are_alike

pub returns-clause-whole : goal.returns-clause-whole
returns-clause-whole c = len-whole_in

pub returns-clause-sums : goal.returns-clause-sums
returns-clause-sums c = cores_weigh_alike

pub returns-clause-near : goal.returns-clause-near
returns-clause-near c = cores_are_near
