use Rattle.certificate.proofs.Offering.{AreTold, told_more}
use Rattle.certificate.proofs.OffersKept.{cpus_at, length-as_offers, push_is}
use Rattle.certificate.specs.OffersOf.{as_offers}
use Rattle.certificate.specs.RisingOffers.{AreRising}
use Rattle.certificate.specs.declared.rows.Offer.{Offer}
use Rattle.cpu_set.specs.Ids.{Ids}
use Rattle.std.proofs.Common.{◌≡◌, ◌↔◌, ◌≤◌, ◌++◌, ◌∙◌, ◌∷◌, [], ℕ, List, ap, true, arith, get_or, length, subst, sym}
use Rattle.std.proofs.lemmas.Bool.{false≢true, leb-true, le-leb}
use Rattle.std.specs.FinSet as set
use Rattle.certificate.proofs.offers.Offers.push_from.Goals as goal
use Rattle.certificate.proofs.offers.Offers.push_from.Goals.{then-self, else-self}

pub push_from-requires : goal.push_from-requires
push_from-requires c = omega (arith, length-as_offers c.other.inside.sets, ap length c.other.view_is)

pub invariant_of-self : goal.invariant_of-self
invariant_of-self c = rw c.in_err-push_from.ensures.err c.self.invariant

pub invariant_of-self-2 : goal.invariant_of-self-2
invariant_of-self-2 c =
    let e : ℕ × Ids = (0, set.empty) in
    let o : Offer = record { weight = c.args.weight; cpus = (get_or c.other.inside.sets c.args.at e).1 } in
    let told : AreTold _ c.self.inside.is_rising c.least.result =
    subst (λ (offers : List Offer). AreTold offers c.self.inside.is_rising c.least.result) (sym c.self.view_is) (record {
      rising = subst (λ (offers : List Offer). (c.self.inside.is_rising ≡ true) ↔ AreRising offers) c.self.view_is c.self.invariant;
      none = c.least.ensures.none;
      last = c.least.ensures.last;
    }) in
    rw (c.in_ok-push_from.ensures.ok e, push_is c.self.inside.sets o) (elim c.if-self.branch [
      | then-self w ↦
          told_more _ _ _ (c.if-self.self) _ told (λ on. (w.if-self.true, let fits : c.least.result ≤ c.from.result = leb-true _ _ (sym w.self-is ∙ on) in omega (arith, fits, c.from.ensures)))
          (λ on over. w.self-is ∙ le-leb _ _ (omega (arith, over, c.from.ensures)))
      | else-self w ↦
          told_more _ _ _ (c.if-self.self) _ told (λ on. absurd (false≢true (sym w.if-self.false ∙ (sym w.self-is ∙ on)))) (λ on over. w.self-is ∙ on)
    ])

pub returns-clause-ok : goal.returns-clause-ok
returns-clause-ok c = λ d.
    let e : ℕ × Ids = (0, set.empty) in
    let o : Offer = record { weight = c.args.weight; cpus = (get_or c.other.inside.sets c.args.at e).1 } in
    ap as_offers (c.in_ok-push_from.ensures.ok e) ∙ push_is c.self.inside.sets o
    ∙ ap (λ offers. offers ++ o ∷ []) c.self.view_is
    ∙ ap (λ (s : Ids). c.args.self.now ++ record { weight = c.args.weight; cpus = s } ∷ [])
    (cpus_at c.other.inside.sets c.args.at e d (omega (arith, length-as_offers c.other.inside.sets, ap length c.other.view_is))
    ∙ ap (λ offers. (get_or offers c.args.at d).cpus) c.other.view_is)
