use Rattle.certificate.specs.AreAmounts.{AreAmounts}
use Rattle.certificate.specs.IsOfferTooHigh.{is_offer_too_high}
use Rattle.certificate.specs.declared.price_lists.Price.{Price}
use Rattle.cpu_set.specs.Least.{least_that}
use Rattle.std.proofs.Common.{List, take, ◌≡◌}
use Rattle.std.specs.List.{list_any}
use Rattle.certificate.proofs.value_checks.first_in_offers.Given as goal

abbrev pub invariant-loop-at : goal.invariant-loop-at
invariant-loop-at l = (prices : List Price) → AreAmounts prices l.amounts → l.least ≡ least_that (λ q. list_any (λ o. is_offer_too_high prices l.value o q) (take l.at l.offers))
