use Rattle.certificate.specs.Scaled.{is_scaled}
use Rattle.std.proofs.Common.{take, true, ◌≡◌}
use Rattle.std.specs.List.{list_all}
use Rattle.certificate.proofs.scaled.offers_are_scaled.Given as goal

abbrev pub invariant-loop-at : goal.invariant-loop-at
invariant-loop-at l = list_all is_scaled (take l.at l.offers) ≡ true
