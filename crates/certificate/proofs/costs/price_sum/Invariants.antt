use Rattle.std.proofs.Common.{◌≡◌, take}
use Rattle.certificate.specs.Price.{all_prices}
use Rattle.certificate.proofs.costs.price_sum.Given as goal

abbrev pub invariant-loop-at : goal.invariant-loop-at
invariant-loop-at l = l.sum ≡ all_prices (take l.at l.prices)
