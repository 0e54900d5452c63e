use Rattle.certificate.proofs.TooHigh.{least_of_either, least_same}
use Rattle.certificate.specs.IsOfferTooHigh.{is_offer_too_high}
use Rattle.certificate.specs.Lesser.{lesser}
use Rattle.certificate.specs.declared.rows.Offer.{Offer}
use Rattle.cpu_set.specs.Least.{least_that}
use Rattle.cpu_set.specs.LeastLaws.{least-none}
use Rattle.std.proofs.Common.{ap, arith, get_or, refl, sym, ◌∙◌}
use Rattle.std.proofs.lemmas.List.{take_all}
use Rattle.std.proofs.lemmas.List.Folds.{list_any_more}
use Rattle.std.specs.List.{list_any}
use Rattle.std.specs.FinSet as set
use Rattle.certificate.proofs.value_checks.first_in_offers.Goals as goal

pub loop-at-init : goal.loop-at-init
loop-at-init c = λ prices are. sym (least-none _ (λ q is_cpu. refl))

pub loop-at-preserved : goal.loop-at-preserved
loop-at-preserved c = λ prices are.
    let none : Offer = record { weight = 0; cpus = set.empty } in
    c.lesser-least.ensures
    ∙ ap (λ m. lesser m c.first_in_offer.result) (c.loop-at.invariant prices are)
    ∙ ap (lesser _) (c.first_in_offer.ensures prices none are)
    ∙ sym (least_of_either _ (is_offer_too_high prices c.args.value (get_or c.args.offers.now c.loop-at.at none)))
    ∙ least_same _ _ (λ q. sym (list_any_more (λ (o : Offer). is_offer_too_high prices c.args.value o q) c.args.offers.now c.loop-at.at none (omega (arith, c.len-at-end.ensures, c.loop-at-test.true))))

pub returns : goal.returns
returns c = λ prices are.
    c.loop-at.invariant prices are
    ∙ ap (λ offers. least_that (λ q. list_any (λ (o : Offer). is_offer_too_high prices c.args.value o q) offers))
    (take_all c.loop-at.at c.args.offers.now (omega (arith, c.len-at-end.ensures, c.loop-at-test.false)))
