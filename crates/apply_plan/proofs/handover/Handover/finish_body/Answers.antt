use Rattle.std.proofs.lemmas.Result.{err_from_is_err_and}
use Rattle.apply_plan.proofs.FinishLemmas.{stopped, walked}
use Rattle.apply_plan.proofs.handover.Handover.finish_body.Goals as goal

pub returns-in_err-let_all_go-clause-finishes : goal.returns-in_err-let_all_go-clause-finishes
returns-in_err-let_all_go-clause-finishes g c =
    let p = err_from_is_err_and c.from_residual.result c.from_residual.ensures.1 in
    rw (p.1, p.2) (stopped _ _ _ _ c.in_err-let_all_go.ensures.lets_go)

pub returns-clause-finishes : goal.returns-clause-finishes
returns-clause-finishes g c = walked _ _ _ _ c.take_all_targets.result c.in_ok-let_all_go.ensures.lets_go c.take_all_targets.ensures
