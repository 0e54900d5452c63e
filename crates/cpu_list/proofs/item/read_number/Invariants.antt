use Rattle.byte_output.specs.DigitsLemmas.{IsCapped}
use Rattle.cpu_list.proofs.item.read_number.Given as goal

abbrev pub invariant-loop-digit : goal.invariant-loop-digit
invariant-loop-digit l = IsCapped l.digits l.limit l.digit-index l.number
