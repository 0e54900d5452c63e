use Rattle.std.proofs.Common.{Some, false, get_or, take_all, sym, ap, ◌∙◌, arith}
use Rattle.std.specs.FinSet as set
use Rattle.certificate.specs.Weight.{weight_in}
use Rattle.certificate.specs.declared.rows.Offer.{Offer}
use Rattle.twins.specs.IsPart.{is_same_weight}
use Rattle.twins.proofs.Weights.{at_place, same_without}
use Rattle.twins.proofs.alike.offer_of_weight.Goals as goal

none : Offer
none = record { weight = 0; cpus = set.empty }

pub loop-first-preserved : goal.loop-first-preserved
loop-first-preserved c = λ q.
    sym (same_without c.args.weight c.args.offers.now c.loop-first.first (get_or c.args.offers.now c.loop-first.first none) false q
    (omega arith) (at_place c.args.offers.now c.loop-first.first none (omega arith)) c.requires (λ e. c.if-weight-2.false (c.weight-in-loop-first.ensures none ∙ e)) (sym (c.loop-first.invariant q)))

pub returns-clause-none : goal.returns-clause-none
returns-clause-none c = λ q.
    ap (λ offers. is_same_weight (Some c.args.weight) (weight_in offers q)) (sym (take_all _ _ (omega arith))) ∙ c.loop-first.invariant q
