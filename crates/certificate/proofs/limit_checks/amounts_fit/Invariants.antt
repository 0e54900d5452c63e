use Rattle.certificate.specs.declared.limits.TheConstants.{MAX_AMOUNT}
use Rattle.certificate.specs.declared.price_lists.Price.{Price}
use Rattle.std.proofs.Common.{nat_le, take, true, ◌≡◌}
use Rattle.std.specs.List.{list_all}
use Rattle.certificate.proofs.limit_checks.amounts_fit.Given as goal

abbrev pub invariant-loop-at : goal.invariant-loop-at
invariant-loop-at l = list_all (λ (p : Price). nat_le p.amount MAX_AMOUNT) (take l.at l.prices) ≡ true
