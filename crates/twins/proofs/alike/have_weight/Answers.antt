use Rattle.std.proofs.Common.{Some, sym, ap, ◌∙◌}
use Rattle.std.specs.FinSet as set
use Rattle.std.proofs.lemmas.List.{get_or_default}
use Rattle.cpu_set.specs.PointwiseLaws.{is_subset-contains}
use Rattle.certificate.specs.Weight.{weight_in}
use Rattle.certificate.specs.declared.rows.Offer.{Offer}
use Rattle.twins.specs.IsPart.{is_same_weight}
use Rattle.twins.proofs.Weights.{same_says}
use Rattle.twins.proofs.alike.have_weight.Goals as goal

none : Offer
none = record { weight = 0; cpus = set.empty }

pub returns-clause-weighs : goal.returns-clause-weighs
returns-clause-weighs c = λ have cpu on.
    sym (same_says (Some c.args.weight) (weight_in c.args.offers.now cpu)
    (ap (λ w. is_same_weight (Some w) (weight_in c.args.offers.now cpu)) (sym (c.in-Some.ensures.weighs none))
    ∙ sym (c.in_ok-place.ensures.made.members none cpu)
    ∙ ap (λ s. set.contains s cpu) (sym (c.index.ensures ∙ get_or_default c.place_of_set.new.spans.sets.items c.in_ok-place.place c.index.result.now set.empty c.in_ok-place.ensures.made.there))
    ∙ is_subset-contains _ _ (sym c.is_subset.ensures ∙ have) cpu on))
