use Rattle.std.proofs.Common.{arith}
use Rattle.cpu_set.proofs.Bits.{none_shifted, first_shifted}
use Rattle.cpu_set.proofs.word.first_bit.Goals as goal

pub returns-then-rest-eq0 : goal.returns-then-rest-eq0
returns-then-rest-eq0 c = none_shifted _ _ c.if-rest-eq0.true

pub returns-else-rest-eq0 : goal.returns-else-rest-eq0
returns-else-rest-eq0 c = first_shifted _ _ c.ranges.word.fits (omega arith)
