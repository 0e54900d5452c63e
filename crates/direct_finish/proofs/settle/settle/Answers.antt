use Rattle.std.proofs.Common.{refl}
use Rattle.std.proofs.lemmas.Result.{err_from_is_err_and}
use Rattle.apply_plan.specs.Targets.{Targets}
use Rattle.direct_finish.specs.FinishesDirectly.{TakesFree}
use Rattle.direct_finish.specs.FollowLemmas.{none_written, written_then, stops_then, falls_then}
use Rattle.direct_finish.proofs.settle.settle.Goals as goal

pub loop-turn-init : goal.loop-turn-init
loop-turn-init g c =
    let h : Targets = record { entries = c.args.entries.now; reserved = c.args.reserved.now } in
    record { made = none_written (TakesFree h) (g.K.Kernel.state c.args.kernel.now); falls = refl; ready = c.requires.ready }

pub next_place-requires : goal.next_place-requires
next_place-requires g c = c.loop-turn.invariant.ready.placed

pub loop-turn-preserved : goal.loop-turn-preserved
loop-turn-preserved g c =
    let h : Targets = record { entries = c.args.entries.now; reserved = c.args.reserved.now } in
    let first = g.K.Kernel.state c.args.kernel.now in
    let old = g.K.Kernel.state c.loop-turn.kernel in
    let new = g.K.Kernel.state c.take_at.new.kernel in
    record {
      made = written_then (TakesFree h) first old new c.loop-turn.invariant.made c.in_ok-took.ensures.leaves;
      falls = rw c.either-moved.ensures (falls_then h first old new c.loop-turn.moved c.in_ok-took.took c.loop-turn.invariant.falls c.in_ok-took.ensures.falls);
      ready = c.in_ok-took.ensures.ready;
    }

pub returns-in_err-took-clause-leaves : goal.returns-in_err-took-clause-leaves
returns-in_err-took-clause-leaves g c =
    let h : Targets = record { entries = c.args.entries.now; reserved = c.args.reserved.now } in
    let p = err_from_is_err_and c.from_residual.result c.from_residual.ensures.1 in
    rw (p.1, p.2) (stops_then (TakesFree h) _ _ _ _ c.loop-turn.invariant.made c.in_err-took.ensures.leaves)
