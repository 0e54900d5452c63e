use Rattle.std.proofs.lemmas.Result.{err_from_is_err_and}
use Rattle.byte_output.specs.GatheringLemmas.{fails_more, fails_then, gathers_then}
use Rattle.std.proofs.Common.{append-nil, decimal, rules}
use Rattle.std.specs.Prelude.{string_bytes}
use Rattle.byte_output.specs.GatheringLemmas.{gathers_both}
use Rattle.certificate_text.proofs.HeldItems.{on_ok}
use Rattle.certificate_text.proofs.writing.add_row.Goals as goal

pub returns-in_err-add_all-clause-written : goal.returns-in_err-add_all-clause-written
returns-in_err-add_all-clause-written g c =
    let p = err_from_is_err_and c.from_residual.result c.from_residual.ensures.1 in
    let id = rw (c.as_slice.ensures, c.as_bytes.ensures.value, append-nil (string_bytes c.row.inside.id)) at c.in_err-add_all.ensures in
    rw (p.1, ← c.row.view_is) (fails_more _ _ _ _ _ (fails_more _ _ _ _ _ id))

pub returns-in_err-add_number_between-clause-written : goal.returns-in_err-add_number_between-clause-written
returns-in_err-add_number_between-clause-written g c =
    let p = err_from_is_err_and c.from_residual-in_err-add_number_between.result c.from_residual-in_err-add_number_between.ensures.1 in
    let id = rw (c.as_slice.ensures, c.as_bytes.ensures.value, append-nil (string_bytes c.row.inside.id)) at c.in_ok-add_all.ensures in
    let demand = rw (c.from.ensures, append-nil (decimal c.row.inside.demand)) at c.in_err-add_number_between.ensures in
    rw (p.1, ← c.row.view_is) (fails_more _ _ _ _ _ (fails_then _ _ _ _ _ _ _ id demand))

pub returns-in_err-add_offers-clause-written : goal.returns-in_err-add_offers-clause-written
returns-in_err-add_offers-clause-written g c =
    let p = err_from_is_err_and c.from_residual-in_err-add_offers.result c.from_residual-in_err-add_offers.ensures.1 in
    let id = rw (c.as_slice.ensures, c.as_bytes.ensures.value, append-nil (string_bytes c.row.inside.id)) at c.in_ok-add_all.ensures in
    let demand = rw (c.from.ensures, append-nil (decimal c.row.inside.demand)) at c.in_ok-add_number_between.ensures in
    rw (p.1, ← c.row.view_is) (fails_then _ _ _ _ _ _ _ (gathers_both _ _ _ _ _ _ _ _ id demand) (fails_more _ _ _ _ _ c.in_err-add_offers.ensures.written))

pub returns-clause-written : goal.returns-clause-written
returns-clause-written g c =
    let id = rw (c.as_slice.ensures, c.as_bytes.ensures.value, append-nil (string_bytes c.row.inside.id)) at c.in_ok-add_all.ensures in
    let demand = rw (c.from.ensures, append-nil (decimal c.row.inside.demand)) at c.in_ok-add_number_between.ensures in
    rw (← c.row.view_is) (gathers_then _ _ _ _ _ _ c.add.result _ _ (gathers_both _ _ _ _ _ _ _ _ id demand)
    (gathers_then _ _ _ _ _ _ c.add.result _ _ c.in_ok-add_offers.ensures.written c.add.ensures))

pub returns-clause-held : goal.returns-clause-held
returns-clause-held g c =
    on_ok _ c.add.result
    (rw (← c.row.view_is) (record { demand = search rules; offers = c.in_ok-add_offers.ensures.held }))
