use Rattle.std.proofs.Common.{rules, ◌∙◌}
use Rattle.std.proofs.lemmas.List.Sorted.{IsNonDecreasingBy-from_sort_by_key, length_permutation}
use Rattle.transport.specs.declared.arcs.WeightedOffer.{WeightedOffer}
use Rattle.transport.proofs.OrdersLemmas.{weighted_sorted, order_as_offered, order_by_weight}
use Rattle.transport.proofs.arcs.OfferOrder.new.Goals as goal

pub returns-then-are_rising : goal.returns-then-are_rising
returns-then-are_rising c = order_as_offered _ (c.are_rising.ensures.0 c.if-are_rising.true)

pub returns : goal.returns
returns c =
    order_by_weight _ _ (weighted_sorted _ _ _ _ c.in_ok-weighted.ensures.all c.in_ok-sort_by_key.ensures.permutation)
    (length_permutation _ _ c.in_ok-sort_by_key.ensures.permutation ∙ c.in_ok-weighted.ensures.long)
    (IsNonDecreasingBy-from_sort_by_key (λ (b : WeightedOffer). b.weight) _ c.in_ok-sort_by_key.ensures.sorted (λ a r q k. search rules))
