use Rattle.machine.proofs.NoFaultLaws.{sound_is_read}
use Rattle.machine.proofs.laws.sound_machines_are_read.Goals as goal

pub returns : goal.returns
returns c = sound_is_read
