use Rattle.std.proofs.Common.{◌≡◌, ℕ, Some, take}
use Rattle.std.specs.FinSet as set
use Rattle.certificate.specs.Weight.{weight_in}
use Rattle.twins.specs.IsPart.{is_same_weight}
use Rattle.twins.proofs.alike.cpus_of_offers.Given as goal

abbrev pub invariant-loop-at : goal.invariant-loop-at
invariant-loop-at l = (q : ℕ) → set.contains l.found q ≡ is_same_weight (Some l.weight) (weight_in (take l.at l.offers) q)
