use Rattle.std.proofs.lemmas.Result.{err_from_is_err_and}
use Rattle.apply_plan.proofs.WalkLemmas.{moved_one, move_stops}
use Rattle.apply_plan.proofs.handover.Handover.take_all_targets.Goals as goal

pub returns-in_err-take_target : goal.returns-in_err-take_target
returns-in_err-take_target g c =
    let p = err_from_is_err_and c.from_residual.result c.from_residual.ensures.1 in
    let all = c.entries-entry-items.ensures in
    rw (p.1, p.2)
    (move_stops _ all.valid _ _ _ all.entries c.loop-entry.entry-index c.entry-item.result c.loop-entry-test.true c.entry-item.is c.loop-entry.invariant _ _
    c.in_err-take_target.ensures)

pub loop-entry-preserved : goal.loop-entry-preserved
loop-entry-preserved g c =
    let all = c.entries-entry-items.ensures in
    moved_one _ all.valid _ _ _ all.entries c.loop-entry.entry-index c.entry-item.result c.loop-entry-test.true c.entry-item.is c.loop-entry.invariant _
    c.in_ok-take_target.ensures
