use Rattle.std.proofs.Common.{ℕ, get_or, ap, ◌∙◌}
use Rattle.std.specs.FinSet as set
use Rattle.std.proofs.lemmas.List.{get_or_default}
use Rattle.certificate.specs.declared.rows.Offer.{Offer}
use Rattle.transport.specs.declared.arcs.WeightedOffer.{WeightedOffer}
use Rattle.transport.proofs.OrdersLemmas.{weighted_as_offered}
use Rattle.transport.proofs.arcs.OfferOrder.weighted_offer.Goals as goal

abbrev none : Offer
none = record { weight = 0; cpus = set.empty }

abbrev made : ℕ → ℕ → WeightedOffer
made w index = record { weight = w; offer = index }

pub returns-in-AsOffered : goal.returns-in-AsOffered
returns-in-AsOffered c =
    rw c.in-AsOffered.is
    (ap (λ w. made w c.args.index) (c.weight.ensures none)
    ∙ weighted_as_offered c.args.offers.now c.args.index (get_or c.args.offers.now c.args.index none) c.requires.there (get_or_default _ _ _ _ c.requires.there))
