use Rattle.std.proofs.Common.{ℕ, List, Option, refl, ap, arith}
use Rattle.transport.specs.Orders.{weighted_in}
use Rattle.transport.specs.declared.arcs.WeightedOffer.{WeightedOffer}
use Rattle.transport.proofs.SortedArcsLemmas.{can_open, sorted_opened, weighted_within, offer_read}
use Rattle.transport.proofs.arcs.SortedArcs.open.Goals as goal

pub offer-offer-requires : goal.offer-offer-requires
offer-offer-requires c = weighted_within _ _ _ _ c.requires.sorted_arcs.2.order.weighted (omega (arith, c.requires.more, c.requires.sorted_arcs.2.order.long)) c.weighted_offer-weighted_offer.ensures

pub returns : goal.returns
returns c = record {
  sorted_arcs = λ (ws : ℕ → Option ℕ) (residual : List ℕ) h.
      let can =
      can_open ws _ _ residual c.args.self.now _ _ h c.requires.more
      (offer_read _ (weighted_in c.args.offers.now c.args.self.now.order) c.args.self.now.opened _ _ c.weighted_offer-weighted_offer.ensures (weighted_within _ _ _ _ h.order.weighted (omega (arith, c.requires.more, h.order.long)) c.weighted_offer-weighted_offer.ensures) c.offer-offer.ensures)
      (ap (λ (b : WeightedOffer). b.weight) c.weighted_offer-weighted_offer.ensures) in
      sorted_opened ws _ _ residual c.args.self.now _ h c.requires.more (c.in_ok-push_arcs.ensures ws _ _ _ can) refl refl refl refl refl;
  opened = refl;
  further =
      let h = c.requires.sorted_arcs.2 in
      let can =
      can_open c.requires.sorted_arcs.0 _ _ c.requires.sorted_arcs.1 c.args.self.now _ _ h c.requires.more
      (offer_read _ (weighted_in c.args.offers.now c.args.self.now.order) c.args.self.now.opened _ _ c.weighted_offer-weighted_offer.ensures (weighted_within _ _ _ _ h.order.weighted (omega (arith, c.requires.more, h.order.long)) c.weighted_offer-weighted_offer.ensures) c.offer-offer.ensures)
      (ap (λ (b : WeightedOffer). b.weight) c.weighted_offer-weighted_offer.ensures) in
      record { cursor = omega arith; arcs = λ i lt. (c.in_ok-push_arcs.ensures c.requires.sorted_arcs.0 _ _ _ can).kept i (omega (arith, lt, h.cursor_in)) };
}
