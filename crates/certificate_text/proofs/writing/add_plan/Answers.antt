use Rattle.std.proofs.lemmas.Result.{err_from_is_err_and}
use Rattle.byte_output.specs.GatheringLemmas.{fails_more, fails_then, gathers_then}
use Rattle.certificate_text.proofs.Texts.{text_of-plan}
use Rattle.std.proofs.Common.{rules}
use Rattle.certificate_text.proofs.HeldItems.{on_ok}
use Rattle.certificate_text.proofs.writing.add_plan.Goals as goal

pub returns-in_err-add_head-clause-written : goal.returns-in_err-add_head-clause-written
returns-in_err-add_head-clause-written g c =
    let p = err_from_is_err_and c.from_residual.result c.from_residual.ensures.1 in
    rw (p.1, text_of-plan c.args.rows.now c.args.sets.now c.args.prices.now c.args.total c.args.weights) (fails_more _ _ _ _ _ c.in_err-add_head.ensures.written)

pub returns-in_err-add_holds-clause-written : goal.returns-in_err-add_holds-clause-written
returns-in_err-add_holds-clause-written g c =
    let p = err_from_is_err_and c.from_residual-in_err-add_holds.result c.from_residual-in_err-add_holds.ensures.1 in
    rw (p.1, text_of-plan c.args.rows.now c.args.sets.now c.args.prices.now c.args.total c.args.weights, ← c.prices.view_is)
    (fails_then _ _ _ _ _ _ _ c.in_ok-add_head.ensures.written (fails_more _ _ _ _ _ (rw c.as_slice.ensures.value at c.in_err-add_holds.ensures.written)))

pub returns-in_err-add_prices-clause-written : goal.returns-in_err-add_prices-clause-written
returns-in_err-add_prices-clause-written g c =
    let p = err_from_is_err_and c.from_residual-in_err-add_prices.result c.from_residual-in_err-add_prices.ensures.1 in
    rw (p.1, text_of-plan c.args.rows.now c.args.sets.now c.args.prices.now c.args.total c.args.weights, ← c.prices.view_is)
    (fails_then _ _ _ _ _ _ _ c.in_ok-add_head.ensures.written (fails_then _ _ _ _ _ _ _ (rw c.as_slice.ensures.value at c.in_ok-add_holds.ensures.written)
    (fails_more _ _ _ _ _ (c.in_err-add_prices.ensures.written))))

pub returns-clause-written : goal.returns-clause-written
returns-clause-written g c =
    rw (text_of-plan c.args.rows.now c.args.sets.now c.args.prices.now c.args.total c.args.weights, ← c.prices.view_is)
    (gathers_then _ _ _ _ _ _ c.add_total.result _ _ c.in_ok-add_head.ensures.written (gathers_then _ _ _ _ _ _ c.add_total.result _ _ (rw c.as_slice.ensures.value at c.in_ok-add_holds.ensures.written)
    (gathers_then _ _ _ _ _ _ c.add_total.result _ _ (c.in_ok-add_prices.ensures.written) c.add_total.ensures)))

pub returns-clause-held : goal.returns-clause-held
returns-clause-held g c =
    on_ok _ c.add_total.result
    (rw (← c.prices.view_is) (
      c.in_ok-add_head.ensures.held,
      c.in_ok-add_holds.ensures.held.0,
      rw c.as_slice.ensures.value at c.in_ok-add_holds.ensures.held.1,
      c.in_ok-add_prices.ensures.held,
      search rules,
    ))
