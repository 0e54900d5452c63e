use Rattle.certificate.proofs.Offering.{AreTold, told_more}
use Rattle.certificate.proofs.OffersKept.{push_is}
use Rattle.certificate.specs.RisingOffers.{AreRising}
use Rattle.certificate.specs.declared.rows.Offer.{Offer}
use Rattle.std.proofs.Common.{◌≡◌, ◌↔◌, ◌≤◌, ◌∙◌, List, true, arith, subst, sym}
use Rattle.std.proofs.lemmas.Bool.{false≢true, leb-true, le-leb}
use Rattle.tagged_sets.specs.Tagged.{set_of_ranges}
use Rattle.certificate.proofs.offers.Offers.push_ranges.Goals as goal
use Rattle.certificate.proofs.offers.Offers.push_ranges.Goals.{then-self, else-self}

pub invariant_of-self-2 : goal.invariant_of-self-2
invariant_of-self-2 c =
    let o : Offer = record { weight = c.args.weight; cpus = set_of_ranges c.args.ranges.now } in
    let told : AreTold _ c.self.inside.is_rising c.least-least.result =
    subst (λ (offers : List Offer). AreTold offers c.self.inside.is_rising c.least-least.result) (sym c.self.view_is) (record {
      rising = subst (λ (offers : List Offer). (c.self.inside.is_rising ≡ true) ↔ AreRising offers) c.self.view_is c.self.invariant;
      none = c.least-least.ensures.none;
      last = c.least-least.ensures.last;
    }) in
    rw (c.in_ok-push_ranges.ensures.ok, push_is c.self.inside.sets o) (elim c.if-self.branch [
      | then-self w ↦
          told_more _ _ _ (c.if-self.self) _ told (λ on. (w.if-self.true, let fits : c.least-least.result ≤ w.from.result = leb-true _ _ (sym w.self-is ∙ on) in omega (arith, fits, w.from.ensures)))
          (λ on over. w.self-is ∙ le-leb _ _ (omega (arith, over, w.from.ensures)))
      | else-self w ↦
          told_more _ _ _ (c.if-self.self) _ told (λ on. absurd (false≢true (sym w.if-self.false ∙ (sym w.self-is ∙ on)))) (λ on over. w.self-is ∙ on)
    ])
