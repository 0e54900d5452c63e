use Rattle.std.proofs.Common.{arith, rules}
use Rattle.byte_output.specs.DigitsLemmas.{capped_more}
use Rattle.script.proofs.number.read_number.Goals as goal

pub loop-digit-preserved : goal.loop-digit-preserved
loop-digit-preserved c = capped_more _ _ _ _ _ (omega arith) c.loop-digit.invariant (search rules) (omega arith)
