use Rattle.std.proofs.Common.{◌≡◌, ◌<◌, length, true, sym, ap, ◌∙◌, subst, arith}
use Rattle.std.specs.Prelude.{Some}
use Rattle.std.proofs.lemmas.Result.{err_from_is_err_and}
use Rattle.kernel_model.specs.KernelState.{KernelState}
use Rattle.apply_plan.specs.declared.Entry.{Entry}
use Rattle.apply_plan.specs.Targets.{Targets}
use Rattle.apply_plan.specs.DueWrite.{must_move, written}
use Rattle.apply_plan.specs.DirectWords.{are_free}
use Rattle.apply_plan.specs.DirectLemmas.{both_of}
use Rattle.apply_plan.specs.FirstHolderLemmas.{same_here}
use Rattle.apply_plan.specs.MayWrite.{write_of}
use Rattle.apply_plan.specs.DirectedLemmas.{found_at}
use Rattle.direct_finish.specs.FinishesDirectly.{TakesFree}
use Rattle.direct_finish.specs.Follows.{HasWritten, Falls, IsReady}
use Rattle.direct_finish.specs.FollowLemmas.{none_written, one_written}
use Rattle.direct_finish.specs.TakeLemmas.{takes_free, lowers, ready_after}
use Rattle.direct_finish.proofs.take.take_at.Goals as goal

pub returns-then-place-entries-clause-leaves : goal.returns-then-place-entries-clause-leaves
returns-then-place-entries-clause-leaves g c = none_written _ (g.K.Kernel.state c.args.kernel.now)

pub returns-then-not-may_take-clause-leaves : goal.returns-then-not-may_take-clause-leaves
returns-then-not-may_take-clause-leaves g c = none_written _ (g.K.Kernel.state c.args.kernel.now)

pub may_take-requires-clause-at : goal.may_take-requires-clause-at
may_take-requires-clause-at g c =
    let inside : c.args.place < length c.args.entries.now = omega arith in
    found_at c.args.entries.now c.args.place c.index-entries-place.result c.requires.valid.groups inside c.index-entries-place.is

pub returns-in_err-write-clause-leaves : goal.returns-in_err-write-clause-leaves
returns-in_err-write-clause-leaves g c =
    let h : Targets = record { entries = c.args.entries.now; reserved = c.args.reserved.now } in
    let old = g.K.Kernel.state c.args.kernel.now in
    let e = c.index-entries-place.result in
    let inside : c.args.place < length c.args.entries.now = omega arith in
    let p = err_from_is_err_and c.from_residual.result c.from_residual.ensures.1 in
    rw (p.1, p.2)
    (record {
      mid = old;
      made = none_written (TakesFree h) old;
      fault_is = c.in_err-write.ensures.0;
      tried = write_of e e.target;
      wanted = takes_free h c.requires.valid old c.args.place e inside c.index-entries-place.is (c.may_take.ensures c.if-not-may_take.false);
      is = c.in_err-write.ensures.1;
    })

pub returns-clause-leaves : goal.returns-clause-leaves
returns-clause-leaves g c =
    let h : Targets = record { entries = c.args.entries.now; reserved = c.args.reserved.now } in
    let old = g.K.Kernel.state c.args.kernel.now in
    let e = c.index-entries-place.result in
    let inside : c.args.place < length c.args.entries.now = omega arith in
    subst (λ (k : KernelState). HasWritten (TakesFree h) old k) (sym c.in_ok-write.ensures)
    (one_written (TakesFree h) old (write_of e e.target) (takes_free h c.requires.valid old c.args.place e inside c.index-entries-place.is (c.may_take.ensures c.if-not-may_take.false)))

pub returns-clause-ready : goal.returns-clause-ready
returns-clause-ready g c =
    let h : Targets = record { entries = c.args.entries.now; reserved = c.args.reserved.now } in
    let old = g.K.Kernel.state c.args.kernel.now in
    let e = c.index-entries-place.result in
    let inside : c.args.place < length c.args.entries.now = omega arith in
    subst (λ (k : KernelState). IsReady h k c.drop_held.new.self) (sym c.in_ok-write.ensures)
    (ready_after h c.requires.valid old c.args.place e inside c.index-entries-place.is (c.may_take.ensures c.if-not-may_take.false)
    c.args.bounds.now _ c.has_movers.result c.requires.ready c.requested.result.now c.requested.ensures c.drop_held.ensures.held c.drop_held.ensures.own)

pub returns-clause-falls : goal.returns-clause-falls
returns-clause-falls g c =
    let h : Targets = record { entries = c.args.entries.now; reserved = c.args.reserved.now } in
    let old = g.K.Kernel.state c.args.kernel.now in
    let e = c.index-entries-place.result in
    let inside : c.args.place < length c.args.entries.now = omega arith in
    subst (λ (k : KernelState). Falls h old k true) (sym c.in_ok-write.ensures)
    (lowers h c.requires.valid old c.args.place e inside c.index-entries-place.is (c.may_take.ensures c.if-not-may_take.false)
    c.args.bounds.now c.drop_held.new.self c.has_movers.result c.requires.ready c.requested.result.now c.requested.ensures c.drop_held.ensures.held c.drop_held.ensures.own)

pub returns-clause-takes : goal.returns-clause-takes
returns-clause-takes g c =
    let old = g.K.Kernel.state c.args.kernel.now in
    let e = c.index-entries-place.result in
    let inside : c.args.place < length c.args.entries.now = omega arith in
    let may = c.may_take.ensures c.if-not-may_take.false in (
      inside,
      (λ a at. let same : a ≡ e = same_here c.args.entries.now c.args.place a e inside at c.index-entries-place.is in (
        c.in_ok-write.ensures ∙ ap (λ (z : Entry). written old (Some (write_of z z.target))) (sym same),
        ap (must_move old) same ∙ (both_of (must_move old e) (are_free old c.args.reserved.now c.args.entries.now e e.target) may).0,
      )),
    )
