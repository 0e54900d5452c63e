use Rattle.std.proofs.Common.{◌^◌}
use Rattle.byte_output.specs.DigitsLemmas.{IsCapped}
use Rattle.script.proofs.number.read_number.Given as goal

abbrev pub invariant-loop-digit : goal.invariant-loop-digit
invariant-loop-digit l = IsCapped l.word (2 ^ 32) l.digit-index l.number
