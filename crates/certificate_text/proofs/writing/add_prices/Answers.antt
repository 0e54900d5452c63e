use Rattle.std.proofs.Common.{arith}
use Rattle.std.specs.FinSet as set
use Rattle.std.proofs.lemmas.Result.{err_from_is_err_and}
use Rattle.byte_output.specs.GatheringLemmas.{fails_part}
use Rattle.certificate.specs.declared.price_lists.Price.{Price}
use Rattle.byte_output.specs.GatheringLemmas.{gathers_part}
use Rattle.certificate_text.specs.Line.{PriceLine}
use Rattle.certificate_text.specs.Written.{line_text, IsPriceHeld}
use Rattle.certificate_text.proofs.HeldItems.{hold_at}
use Rattle.certificate_text.proofs.writing.add_prices.Goals as goal

no_price : Price
no_price = record { amount = 0; cpus = set.empty }

pub returns-in_err-add_price-clause-written : goal.returns-in_err-add_price-clause-written
returns-in_err-add_price-clause-written g c =
    let p = err_from_is_err_and c.from_residual.result c.from_residual.ensures.1 in
    rw p.1 (fails_part (λ (price : Price). line_text (PriceLine price)) _ _ _ _ _ c.args.prices.now c.loop-at.at no_price (omega (arith, c.len-at-end.ensures, c.loop-at-test.true)) c.loop-at.invariant.sent (c.in_err-add_price.ensures.written no_price))

pub loop-at-preserved : goal.loop-at-preserved
loop-at-preserved g c = record {
  sent = gathers_part (λ (price : Price). line_text (PriceLine price)) _ _ _ _ _ _ c.args.prices.now c.loop-at.at no_price (omega (arith, c.len-at-end.ensures, c.loop-at-test.true)) c.loop-at.invariant.sent (c.in_ok-add_price.ensures.written no_price);
  held = hold_at IsPriceHeld c.args.prices.now c.loop-at.at c.add_price.ensures.held c.loop-at.invariant.held;
}

pub returns-clause-held : goal.returns-clause-held
returns-clause-held g c = λ k d lt. c.loop-at.invariant.held k d (omega (arith, lt, c.len-at-end.ensures, c.loop-at-test.false))
