use Rattle.std.proofs.Common.{◌≡◌, length}
use Rattle.transport.specs.Orders.{AreAllWeighted}
use Rattle.transport.proofs.arcs.weighted_offers.Given as goal

abbrev pub invariant-loop-at : goal.invariant-loop-at
invariant-loop-at l = AreAllWeighted l.offers l.weighted.items l.at × (length l.weighted.items ≡ l.at)
