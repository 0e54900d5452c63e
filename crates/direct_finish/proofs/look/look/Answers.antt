use Rattle.std.proofs.Common.{refl, arith}
use Rattle.direct_finish.specs.BoundLemmas.{one_more_bounded, all_bounded, none_moves_on, none_moves_at_end}
use Rattle.direct_finish.proofs.look.look.Goals as goal

pub loop-place-init : goal.loop-place-init
loop-place-init g c = record { bounded = λ j d less is. absurd (omega (arith, less)); arrived = refl }

pub loop-place-preserved : goal.loop-place-preserved
loop-place-preserved g c =
    let k = g.K.Kernel.state c.args.kernel.now in
    let e = c.index-entries-place.result in
    record {
      bounded = one_more_bounded k c.args.reserved.now c.args.entries.now c.loop-place.bounds _ c.loop-place.place e c.loop-place-test.true c.index-entries-place.is
          c.look_at.ensures.within c.look_at.ensures.here c.loop-place.invariant.bounded;
      arrived = none_moves_on k c.args.entries.now c.loop-place.place e c.loop-place.arrived _ c.loop-place-test.true c.index-entries-place.is c.look_at.ensures.arrived
          c.loop-place.invariant.arrived;
    }

pub returns-clause-bounded : goal.returns-clause-bounded
returns-clause-bounded g c =
    all_bounded (g.K.Kernel.state c.args.kernel.now) c.args.reserved.now c.args.entries.now c.loop-place.bounds _ c.loop-place.place c.loop-place-test.false
    c.outside.ensures.held c.outside.ensures.own c.loop-place.invariant.bounded

pub returns-clause-arrived : goal.returns-clause-arrived
returns-clause-arrived g c =
    none_moves_at_end (g.K.Kernel.state c.args.kernel.now) c.args.entries.now c.loop-place.place c.loop-place.arrived c.loop-place-test.false c.loop-place.invariant.arrived
