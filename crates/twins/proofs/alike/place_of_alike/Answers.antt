use Rattle.std.proofs.Common.{Some, arith, sym, ap, ◌∙◌}
use Rattle.certificate.specs.Weight.{weight_in}
use Rattle.certificate.specs.declared.rows.Offer.{Offer}
use Rattle.std.specs.FinSet as set
use Rattle.twins.specs.IsPart.{is_same_weight}
use Rattle.twins.proofs.AtHand.{of_weight, weighs}
use Rattle.twins.proofs.alike.place_of_alike.Goals as goal

none : Offer
none = record { weight = 0; cpus = set.empty }

pub returns-in-Some-clause-place : goal.returns-in-Some-clause-place
returns-in-Some-clause-place c =
    let spans = c.args.spans.now in
    let offers = c.args.offers.now in
    let place = c.in-Some.place in
    let w = of_weight offers spans place c.requires.spans c.in-Some.ensures.within in
    let same = weighs offers _ w c.args.cpu c.in-Some.ensures.has in (
      omega (arith, c.in-Some.ensures.within, c.requires.spans.within),
      λ q. w.members q ∙ ap (λ v. is_same_weight v (weight_in offers q)) (sym same),
    )

pub returns-in_default-weight_of-clause-place : goal.returns-in_default-weight_of-clause-place
returns-in_default-weight_of-clause-place c = sym c.weight_of.ensures ∙ c.in_default-weight_of.is

pub returns-clause-place : goal.returns-clause-place
returns-clause-place c = (
  c.in_ok-place.ensures.made.there,
  λ q. c.in_ok-place.ensures.made.members none q
      ∙ ap (λ w. is_same_weight (Some w) (weight_in c.args.offers.now q)) (c.in-Some-offer_of_weight.ensures.weighs none)
      ∙ ap (λ w. is_same_weight w (weight_in c.args.offers.now q)) c.in-Some-weight_of.ensures,
)
