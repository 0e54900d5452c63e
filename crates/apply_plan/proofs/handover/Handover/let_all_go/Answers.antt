use Rattle.std.proofs.lemmas.Result.{err_from_is_err_and}
use Rattle.apply_plan.proofs.WalkLemmas.{released_one, release_stops}
use Rattle.apply_plan.proofs.handover.Handover.let_all_go.Goals as goal

pub returns-in_err-let_go-clause-lets_go : goal.returns-in_err-let_go-clause-lets_go
returns-in_err-let_go-clause-lets_go g c =
    let p = err_from_is_err_and c.from_residual.result c.from_residual.ensures.1 in
    let all = c.entries-entry-items.ensures in
    rw (p.1, p.2)
    (release_stops _ all.valid _ _ _ all.entries c.loop-entry.entry-index c.entry-item.result c.loop-entry-test.true c.entry-item.is c.loop-entry.invariant _ _
    c.in_err-let_go.ensures)

pub loop-entry-preserved : goal.loop-entry-preserved
loop-entry-preserved g c =
    let all = c.entries-entry-items.ensures in
    released_one _ all.valid _ _ _ all.entries c.loop-entry.entry-index c.entry-item.result c.loop-entry-test.true c.entry-item.is c.loop-entry.invariant _
    c.in_ok-let_go.ensures
