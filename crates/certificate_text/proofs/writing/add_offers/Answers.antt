use Rattle.std.proofs.Common.{arith}
use Rattle.std.specs.FinSet as set
use Rattle.std.proofs.lemmas.Result.{err_from_is_err_and}
use Rattle.byte_output.specs.GatheringLemmas.{fails_part}
use Rattle.certificate.specs.declared.rows.Offer.{Offer}
use Rattle.byte_output.specs.GatheringLemmas.{gathers_part}
use Rattle.certificate_text.specs.Written.{offer_text, IsOfferHeld}
use Rattle.certificate_text.proofs.HeldItems.{hold_at}
use Rattle.certificate_text.proofs.writing.add_offers.Goals as goal

no_offer : Offer
no_offer = record { weight = 0; cpus = set.empty }

pub returns-in_err-add_offer-clause-written : goal.returns-in_err-add_offer-clause-written
returns-in_err-add_offer-clause-written g c =
    let p = err_from_is_err_and c.from_residual.result c.from_residual.ensures.1 in
    rw p.1 (fails_part offer_text _ _ _ _ _ c.args.offers.now c.loop-at.at no_offer (omega (arith, c.len-at-end.ensures, c.loop-at-test.true)) c.loop-at.invariant.sent (c.in_err-add_offer.ensures.written no_offer))

pub loop-at-preserved : goal.loop-at-preserved
loop-at-preserved g c = record {
  sent = gathers_part offer_text _ _ _ _ _ _ c.args.offers.now c.loop-at.at no_offer (omega (arith, c.len-at-end.ensures, c.loop-at-test.true)) c.loop-at.invariant.sent (c.in_ok-add_offer.ensures.written no_offer);
  held = hold_at IsOfferHeld c.args.offers.now c.loop-at.at c.add_offer.ensures.held c.loop-at.invariant.held;
}

pub returns-clause-held : goal.returns-clause-held
returns-clause-held g c = λ k d lt. c.loop-at.invariant.held k d (omega (arith, lt, c.len-at-end.ensures, c.loop-at-test.false))
