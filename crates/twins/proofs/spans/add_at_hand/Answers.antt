use Rattle.std.proofs.Common.{Some, ap, arith, get_or, ◌∙◌}
use Rattle.std.proofs.lemmas.List.{get_or_default}
use Rattle.std.specs.FinSet as set
use Rattle.certificate.specs.Weight.{weight_in}
use Rattle.certificate.specs.declared.rows.Offer.{Offer}
use Rattle.twins.specs.IsPart.{is_same_weight}
use Rattle.twins.proofs.Weights.{at_place, rising_same}
use Rattle.twins.proofs.spans.add_at_hand.Goals as goal

none : Offer
none = record { weight = 0; cpus = set.empty }

pub returns-in_ok-push-in-Some : goal.returns-in_ok-push-in-Some
returns-in_ok-push-in-Some c =
    let offers = c.args.offers.now in
    let at = c.args.at in
    record {
      cpus = c.in-Some.cpus.now;
      added = c.in_ok-push-in-Some.ensures.items;
      members = λ d q.
          ap (λ s. set.contains s q) (c.in-Some.ensures none)
          ∙ rising_same offers at (get_or offers at none) q c.requires.there (at_place offers at none c.requires.there) c.requires.fit (c.are_rising.ensures.0 c.if-not-are_rising.false)
          ∙ ap (λ (o : Offer). is_same_weight (Some o.weight) (weight_in offers q)) (get_or_default offers at none d c.requires.there);
      last = omega (arith, c.len-place.ensures);
    }
