-- The bytes are taken line by line.
use Rattle.std.proofs.lemmas.List.{take_rest}
use Rattle.std.proofs.lemmas.Result.{err_from_is_err_and}
use Rattle.script.proofs.Feeds.{has_feed, no_feed}
use Rattle.script.proofs.Lines.{HasFed-all, HasFed-line, HasFed-none, HasFed-stops}
use Rattle.script.proofs.running.feed.Goals as goal

pub loop-end-init : goal.loop-end-init
loop-end-init g c = HasFed-none _ _ _ _ _

pub returns-in_err-answer_line : goal.returns-in_err-answer_line
returns-in_err-answer_line g c =
    let fault = err_from_is_err_and c.from_residual.result c.from_residual.ensures.1 in
    rw fault.1 (HasFed-stops g.T.Target.answers _ _ _ _ _ _ _ _ _ _ _ _ _ c.loop-end.invariant (has_feed _ _ c.in-Some.ensures.0 c.in-Some.ensures.1) c.push.ensures c.in_err-answer_line.ensures.answers c.in_err-answer_line.ensures.written)

pub loop-end-preserved : goal.loop-end-preserved
loop-end-preserved g c =
    rw take_rest (HasFed-line g.T.Target.answers _ _ _ _ _ _ _ _ _ _ _ _ _ _ c.loop-end.invariant (has_feed _ _ c.in-Some.ensures.0 c.in-Some.ensures.1) c.push.ensures c.in_ok-answer_line.ensures.answers c.in_ok-answer_line.ensures.written c.clear.ensures)

pub returns : goal.returns
returns g c = HasFed-all g.T.Target.answers _ _ _ _ _ _ _ _ _ c.loop-end.invariant (no_feed _ c.in_default.ensures) c.push-2.ensures
