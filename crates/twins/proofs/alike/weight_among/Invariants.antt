use Rattle.std.proofs.Common.{◌≡◌, None, take}
use Rattle.certificate.specs.Weight.{weight_in}
use Rattle.twins.proofs.alike.weight_among.Given as goal

abbrev pub invariant-loop-at : goal.invariant-loop-at
invariant-loop-at l = weight_in (take l.at l.offers) l.cpu ≡ None
