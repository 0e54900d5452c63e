use Rattle.std.proofs.Common.{refl}
use Rattle.machine.specs.CoresFault.{cores_fault}
use Rattle.machine.proofs.CoreSteps.{all_own}
use Rattle.machine.proofs.cores.read_cores.Goals as goal

pub returns-in-None-clause-lowest : goal.returns-in-None-clause-lowest
returns-in-None-clause-lowest c = rw c.in-None.is (all_own _ c.each_cpu.ensures.room c.each_cpu.ensures.own)

pub returns-in-None-clause-fault : goal.returns-in-None-clause-fault
unfolding cores_fault
returns-in-None-clause-fault c = rw c.in-None.is refl
