use Rattle.std.proofs.Common.{◌≡◌, take, sum_by, unwrap_or}
use Rattle.cpu_set.specs.Members.{members}
use Rattle.certificate.specs.Weight.{weight_in}
use Rattle.certificate.proofs.costs.offers_cost.Given as goal

abbrev pub invariant-loop-at : goal.invariant-loop-at
invariant-loop-at l = l.cost ≡ sum_by (λ cpu. unwrap_or (weight_in (take l.at l.offers) cpu) 0) (members l.held)
