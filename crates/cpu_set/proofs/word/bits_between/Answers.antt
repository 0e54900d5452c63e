use Rattle.cpu_set.proofs.Bits.{bits_of_range}
use Rattle.cpu_set.proofs.word.bits_between.Goals as goal

pub returns : goal.returns
returns c i lt = bits_of_range _ _ i c.requires.0 c.requires.1 lt
