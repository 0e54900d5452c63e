use Rattle.std.proofs.Common.{Bool, Option, sym, subst}
use Rattle.std.specs.Prelude.{Some}
use Rattle.cpu_set.specs.Ids.{Ids}
use Rattle.kernel_model.specs.KernelState.{KernelState}
use Rattle.apply_plan.specs.DueWrite.{written}
use Rattle.apply_plan.specs.MayWrite.{write_of}
use Rattle.apply_plan.specs.Directed.{Directed}
use Rattle.direct_finish.specs.Follows.{IsReady}
use Rattle.direct_finish.specs.Seen.{IsUnderWay, TakesAt, directed}
use Rattle.direct_finish.specs.GiveLemmas.{taken_under_way}
use Rattle.direct_finish.proofs.rings.take_seen.Goals as goal

pub returns-then-took-clause-under_way : goal.returns-then-took-clause-under_way
returns-then-took-clause-under_way g c =
    let d : Directed = directed c.args.entries.now c.args.reserved.now c.args.allowed.now in
    let least = g.C.Cores.least_of c.args.cores.now in
    let old = g.K.Kernel.state c.args.kernel.now in
    let new = g.K.Kernel.state c.take_at.new.kernel in
    let e = c.index-entries-place.result in
    let t = subst (λ (b : Bool). TakesAt d.targets c.args.place old new b) c.if-took.true c.in_ok-took.ensures.takes in
    let it = t.1 e c.index-entries-place.is in
    subst (λ (k : KernelState). IsUnderWay d least k c.args.seen.now c.args.nexts.now c.put.new.standings c.held_now.result c.take_at.new.bounds) (sym it.0)
    (subst (λ (x : Option Ids). IsUnderWay d least (written old (Some (write_of e e.target))) c.args.seen.now c.args.nexts.now c.put.new.standings x c.take_at.new.bounds) (sym c.held_now.ensures)
    (taken_under_way d c.requires.valid least old c.args.seen.now c.args.nexts.now c.args.standings.now c.put.new.standings c.args.now.now c.args.bounds.now c.take_at.new.bounds
    c.requires.under_way c.args.place e t.0 c.index-entries-place.is it.1 c.requested.result.now c.requested.ensures
    (subst (λ (k : KernelState). IsReady d.targets k c.take_at.new.bounds) it.0 c.in_ok-took.ensures.ready) c.put.ensures))
