use Rattle.certificate.specs.declared.limits.TheConstants.{MAX_WEIGHT}
use Rattle.certificate.specs.declared.rows.Offer.{Offer}
use Rattle.std.proofs.Common.{nat_le, take, true, ◌≡◌}
use Rattle.std.specs.List.{list_all}
use Rattle.certificate.proofs.limit_checks.weights_fit.Given as goal

abbrev pub invariant-loop-at : goal.invariant-loop-at
invariant-loop-at l = list_all (λ (o : Offer). nat_le o.weight MAX_WEIGHT) (take l.at l.offers) ≡ true
