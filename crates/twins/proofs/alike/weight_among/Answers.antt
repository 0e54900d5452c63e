use Rattle.std.proofs.Common.{Some, get_or, arith, sym, ap, ◌∙◌}
use Rattle.std.specs.FinSet as set
use Rattle.certificate.specs.declared.rows.Offer.{Offer}
use Rattle.twins.proofs.Weights.{at_place, none_more, in_offer}
use Rattle.twins.proofs.alike.weight_among.Goals as goal

none : Offer
none = record { weight = 0; cpus = set.empty }

pub returns-then-has : goal.returns-then-has
returns-then-has c =
    ap Some (c.weight.ensures none)
    ∙ sym (in_offer c.args.offers.now c.loop-at.at (get_or c.args.offers.now c.loop-at.at none) c.args.cpu (omega arith) (at_place c.args.offers.now c.loop-at.at none (omega arith))
    c.requires.fit (sym (c.ranges-in-loop-at.ensures.members none c.args.cpu) ∙ sym c.has.ensures ∙ c.if-has.true))

pub loop-at-preserved : goal.loop-at-preserved
loop-at-preserved c =
    none_more c.args.offers.now c.loop-at.at (get_or c.args.offers.now c.loop-at.at none) c.args.cpu (omega arith) (at_place c.args.offers.now c.loop-at.at none (omega arith))
    (sym (c.ranges-in-loop-at.ensures.members none c.args.cpu) ∙ sym c.has.ensures ∙ c.if-has.false) c.loop-at.invariant
