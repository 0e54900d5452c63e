use Rattle.std.proofs.Common.{get_or, arith, sym, ap, ◌∙◌}
use Rattle.std.specs.FinSet as set
use Rattle.cpu_set.specs.PointwiseLaws.{contains-empty, contains-union}
use Rattle.certificate.specs.declared.rows.Offer.{Offer}
use Rattle.twins.proofs.Weights.{at_place, same_with, same_without}
use Rattle.twins.proofs.alike.cpus_of_offers.Goals as goal
use Rattle.twins.proofs.alike.cpus_of_offers.Goals.{then-weight, else-weight}

none : Offer
none = record { weight = 0; cpus = set.empty }

pub loop-at-init : goal.loop-at-init
loop-at-init c = rw c.empty-found.ensures contains-empty

pub loop-at-preserved : goal.loop-at-preserved
loop-at-preserved c =
    elim c.if-weight.branch [
      | then-weight w ↦ λ q.
          ap (λ s. set.contains s q) (w.found-is ∙ w.union-found.ensures) ∙ contains-union _ _ q
          ∙ same_with c.args.weight c.args.offers.now c.loop-at.at w.offer.result _ q
          (omega arith) w.offer.ensures c.requires (sym (c.weight.ensures w.offer.result ∙ ap (λ (o : Offer). o.weight) (sym w.offer.ensures)) ∙ w.if-weight.true) (c.loop-at.invariant q)
      | else-weight w ↦ λ q.
          ap (λ s. set.contains s q) w.found-is
          ∙ same_without c.args.weight c.args.offers.now c.loop-at.at (get_or c.args.offers.now c.loop-at.at none) _ q
          (omega arith) (at_place c.args.offers.now c.loop-at.at none (omega arith)) c.requires (λ e. w.if-weight.false (c.weight.ensures none ∙ e)) (c.loop-at.invariant q)
    ]
