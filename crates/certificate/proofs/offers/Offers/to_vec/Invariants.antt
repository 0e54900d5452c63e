use Rattle.std.proofs.Common.{take, ◌≡◌}
use Rattle.certificate.proofs.offers.Offers.to_vec.Given as goal

abbrev pub invariant-loop-at : goal.invariant-loop-at
invariant-loop-at l = l.list.items ≡ take l.at l.self
