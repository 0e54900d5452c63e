use Rattle.std.proofs.Common.{◌≡◌, take}
use Rattle.twins.specs.IsPriced.{class_prices}
use Rattle.twins.proofs.pricing.prices_of_body.Given as goal

abbrev pub invariant-loop-g : goal.invariant-loop-g
invariant-loop-g l = l.of_cpu ≡ class_prices (take l.g l.sets) (take l.g l.prices)
