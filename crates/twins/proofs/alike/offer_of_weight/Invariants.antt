use Rattle.std.proofs.Common.{◌≡◌, ℕ, Some, false, take}
use Rattle.certificate.specs.Weight.{weight_in}
use Rattle.twins.specs.IsPart.{is_same_weight}
use Rattle.twins.proofs.alike.offer_of_weight.Given as goal

abbrev pub invariant-loop-first : goal.invariant-loop-first
invariant-loop-first l = (q : ℕ) → is_same_weight (Some l.weight) (weight_in (take l.first l.offers) q) ≡ false
