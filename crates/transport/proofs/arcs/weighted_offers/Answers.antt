use Rattle.std.proofs.Common.{◌≡◌, ◌+◌, ◌<◌, ◌++◌, [], ◌∷◌, ℕ, refl, sym, ap, subst, length, get_or, ◌∙◌, arith}
use Rattle.std.specs.FinSet as set
use Rattle.std.proofs.lemmas.List.{length_push, get_or_default}
use Rattle.std.proofs.lemmas.Option.{slice_get_read}
use Rattle.certificate.specs.declared.rows.Offer.{Offer}
use Rattle.transport.specs.Orders.{AreAllWeighted}
use Rattle.transport.specs.declared.arcs.WeightedOffer.{WeightedOffer}
use Rattle.transport.proofs.OrdersLemmas.{weighted_more}
use Rattle.transport.proofs.arcs.weighted_offers.Goals as goal

abbrev none : Offer
none = record { weight = 0; cpus = set.empty }

abbrev made : ℕ → ℕ → WeightedOffer
made w index = record { weight = w; offer = index }

pub loop-at-preserved : goal.loop-at-preserved
loop-at-preserved c =
    let lt : c.loop-at.at < length c.args.offers.now = omega (arith, c.len-at-end.ensures, c.loop-at-test.true) in
    let o : Offer = get_or c.args.offers.now c.loop-at.at none in
    let items : c.push.new.self.items ≡ c.loop-at.weighted.items ++ made o.weight c.loop-at.at ∷ [] =
    c.in_ok-push.ensures.items ∙ ap (λ w. c.loop-at.weighted.items ++ made w c.loop-at.at ∷ []) (c.weight.ensures none) in (
      subst (λ weighted. AreAllWeighted c.args.offers.now weighted (c.loop-at.at + 1)) (sym items)
          (weighted_more c.args.offers.now _ _ o (slice_get_read c.args.offers.now _ _ _ refl lt (get_or_default _ _ _ _ lt)) c.loop-at.invariant.0),
      omega (arith, ap length items, length_push c.loop-at.weighted.items (made o.weight c.loop-at.at), c.loop-at.invariant.1),
    )
