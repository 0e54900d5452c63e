use Rattle.std.proofs.Common.{arith}
use Rattle.cpu_set.proofs.OneWord.{one_bit_alone}
use Rattle.cpu_set.proofs.word_set.WordSet.of.Goals as goal

pub returns : goal.returns
returns c = λ q. one_bit_alone _ q (omega (arith, c.requires))
