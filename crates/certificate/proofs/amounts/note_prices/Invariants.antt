use Rattle.certificate.specs.AreAmounts.{AreAmounts}
use Rattle.std.proofs.Common.{take}
use Rattle.certificate.proofs.amounts.note_prices.Given as goal

abbrev pub invariant-loop-at : goal.invariant-loop-at
invariant-loop-at l = AreAmounts (take l.at l.prices) l.amounts
