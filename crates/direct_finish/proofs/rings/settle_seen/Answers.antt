use Rattle.std.proofs.lemmas.Result.{err_from_is_err_and}
use Rattle.apply_plan.specs.Targets.{Targets}
use Rattle.direct_finish.specs.FinishesDirectly.{TakesFree}
use Rattle.direct_finish.specs.FollowLemmas.{written_then, stops_then, falls_then}
use Rattle.direct_finish.specs.SettledLemmas.{since_if}
use Rattle.direct_finish.proofs.rings.settle_seen.Goals as goal

pub loop-turn-preserved : goal.loop-turn-preserved
loop-turn-preserved g c =
    let h : Targets = record { entries = c.args.entries.now; reserved = c.args.reserved.now } in
    let first = g.K.Kernel.state c.args.kernel.now in
    let old = g.K.Kernel.state c.loop-turn.kernel in
    let new = g.K.Kernel.state c.take_seen.new.kernel in
    record {
      made = written_then (TakesFree h) first old new c.loop-turn.invariant.made c.in_ok-took.ensures.leaves;
      falls = rw c.either-moved.ensures (falls_then h first old new c.loop-turn.moved c.in_ok-took.took c.loop-turn.invariant.falls c.in_ok-took.ensures.falls);
      under_way = c.in_ok-took.ensures.under_way;
      since = since_if c.args.nexts.now _ _ _ _ _ _ c.in_ok-took.ensures.put c.note_if.ensures c.loop-turn.invariant.since;
    }

pub returns-in_err-took-clause-leaves : goal.returns-in_err-took-clause-leaves
returns-in_err-took-clause-leaves g c =
    let h : Targets = record { entries = c.args.entries.now; reserved = c.args.reserved.now } in
    let p = err_from_is_err_and c.from_residual.result c.from_residual.ensures.1 in
    rw (p.1, p.2) (stops_then (TakesFree h) _ _ _ _ c.loop-turn.invariant.made c.in_err-took.ensures.leaves)
