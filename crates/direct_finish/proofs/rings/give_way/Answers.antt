use Rattle.std.proofs.Common.{◌≡◌, ◌+◌, ◌<◌, ◌≤◌, length, Option, sym, ◌∙◌, subst, arith, inr}
use Rattle.std.proofs.lemmas.Result.{err_from_is_err_and}
use Rattle.std.specs.Prelude.{Some}
use Rattle.cpu_set.specs.Ids.{Ids}
use Rattle.kernel_model.specs.KernelState.{KernelState}
use Rattle.apply_plan.specs.DueWrite.{written}
use Rattle.apply_plan.specs.MayWrite.{write_of, left_directly}
use Rattle.apply_plan.specs.Directed.{Directed, allowed_in}
use Rattle.apply_plan.specs.DirectedLemmas.{allowed_here}
use Rattle.apply_plan.specs.TurnLemmas.{gets_alike}
use Rattle.direct_finish.specs.FinishesDirectly.{MayFollow}
use Rattle.direct_finish.specs.Follows.{HasWritten}
use Rattle.direct_finish.specs.FollowLemmas.{none_written, one_written}
use Rattle.direct_finish.specs.Seen.{IsUnderWay, directed}
use Rattle.direct_finish.specs.SeenLemmas.{giving_within, given_way}
use Rattle.direct_finish.specs.GiveLemmas.{given_due, way_falls, way_given}
use Rattle.direct_finish.proofs.rings.give_way.Goals as goal

pub gets-cpus-requires-clause-tells : goal.gets-cpus-requires-clause-tells
gets-cpus-requires-clause-tells g c =
    let d : Directed = directed c.args.entries.now c.args.reserved.now c.args.allowed.now in
    let u = c.requires.under_way in
    let room : length c.args.standings.now ≡ length c.args.entries.now = u.seen.room in
    let inside : c.args.place < length c.args.standings.now = giving_within c.args.standings.now c.args.place c.args.giving c.requires.turn in
    (given_way d c.requires.valid (g.C.Cores.least_of c.args.cores.now) (g.K.Kernel.state c.args.kernel.now) u.ready.safe u.ready.placed c.args.seen.now c.args.nexts.now
    c.args.standings.now c.args.now.now u.seen u.held c.requires.calm c.args.place c.index-entries-place.result c.args.giving (omega (arith, room, inside)) c.index-entries-place.is
    c.requires.turn).tells

pub returns-in_err-write-clause-leaves : goal.returns-in_err-write-clause-leaves
returns-in_err-write-clause-leaves g c =
    let d : Directed = directed c.args.entries.now c.args.reserved.now c.args.allowed.now in
    let least = g.C.Cores.least_of c.args.cores.now in
    let old = g.K.Kernel.state c.args.kernel.now in
    let e = c.index-entries-place.result in
    let u = c.requires.under_way in
    let room : length c.args.standings.now ≡ length c.args.entries.now = u.seen.room in
    let inside : c.args.place < length c.args.standings.now = giving_within c.args.standings.now c.args.place c.args.giving c.requires.turn in
    let within : c.args.place < length c.args.entries.now = omega (arith, room, inside) in
    let is_cpus = c.gets-cpus.ensures
    ∙ gets_alike old c.args.reserved.now c.args.entries.now (λ _. c.allowed_at-own.result) (allowed_in c.args.entries.now c.args.allowed.now) e
    (c.allowed_at-own.ensures ∙ sym (allowed_here c.args.entries.now c.args.allowed.now c.args.place e c.requires.valid.groups within c.index-entries-place.is)) least c.args.giving in
    let due = given_due d c.requires.valid least c.requires.serves old c.args.seen.now c.args.nexts.now c.args.standings.now c.args.now.now c.args.bounds.now u c.requires.calm c.args.place e within
    c.index-entries-place.is c.args.giving c.requires.turn c.gets-cpus.result is_cpus in
    let p = err_from_is_err_and c.from_residual.result c.from_residual.ensures.1 in
    rw (p.1, p.2)
    (record {
      mid = old;
      made = none_written (MayFollow d least) old;
      fault_is = c.in_err-write.ensures.0;
      tried = write_of e c.gets-cpus.result;
      wanted = inr due;
      is = c.in_err-write.ensures.1;
    })

pub returns-clause-leaves : goal.returns-clause-leaves
returns-clause-leaves g c =
    let d : Directed = directed c.args.entries.now c.args.reserved.now c.args.allowed.now in
    let least = g.C.Cores.least_of c.args.cores.now in
    let old = g.K.Kernel.state c.args.kernel.now in
    let e = c.index-entries-place.result in
    let u = c.requires.under_way in
    let room : length c.args.standings.now ≡ length c.args.entries.now = u.seen.room in
    let inside : c.args.place < length c.args.standings.now = giving_within c.args.standings.now c.args.place c.args.giving c.requires.turn in
    let within : c.args.place < length c.args.entries.now = omega (arith, room, inside) in
    let is_cpus = c.gets-cpus.ensures
    ∙ gets_alike old c.args.reserved.now c.args.entries.now (λ _. c.allowed_at-own.result) (allowed_in c.args.entries.now c.args.allowed.now) e
    (c.allowed_at-own.ensures ∙ sym (allowed_here c.args.entries.now c.args.allowed.now c.args.place e c.requires.valid.groups within c.index-entries-place.is)) least c.args.giving in
    let due = given_due d c.requires.valid least c.requires.serves old c.args.seen.now c.args.nexts.now c.args.standings.now c.args.now.now c.args.bounds.now u c.requires.calm c.args.place e within
    c.index-entries-place.is c.args.giving c.requires.turn c.gets-cpus.result is_cpus in
    subst (λ (k : KernelState). HasWritten (MayFollow d least) old k) (sym c.in_ok-write.ensures) (one_written (MayFollow d least) old (write_of e c.gets-cpus.result) (inr due))

pub returns-clause-falls : goal.returns-clause-falls
returns-clause-falls g c =
    let d : Directed = directed c.args.entries.now c.args.reserved.now c.args.allowed.now in
    let least = g.C.Cores.least_of c.args.cores.now in
    let old = g.K.Kernel.state c.args.kernel.now in
    let e = c.index-entries-place.result in
    let u = c.requires.under_way in
    let room : length c.args.standings.now ≡ length c.args.entries.now = u.seen.room in
    let inside : c.args.place < length c.args.standings.now = giving_within c.args.standings.now c.args.place c.args.giving c.requires.turn in
    let within : c.args.place < length c.args.entries.now = omega (arith, room, inside) in
    let is_cpus = c.gets-cpus.ensures
    ∙ gets_alike old c.args.reserved.now c.args.entries.now (λ _. c.allowed_at-own.result) (allowed_in c.args.entries.now c.args.allowed.now) e
    (c.allowed_at-own.ensures ∙ sym (allowed_here c.args.entries.now c.args.allowed.now c.args.place e c.requires.valid.groups within c.index-entries-place.is)) least c.args.giving in
    subst (λ (k : KernelState). left_directly d.targets k + 1 ≤ left_directly d.targets old) (sym c.in_ok-write.ensures)
    (way_falls d c.requires.valid least c.requires.serves old c.args.seen.now c.args.nexts.now c.args.standings.now c.args.now.now c.args.bounds.now u c.requires.calm c.args.place e within
    c.index-entries-place.is c.args.giving c.requires.turn c.gets-cpus.result is_cpus)

pub returns-clause-under_way : goal.returns-clause-under_way
returns-clause-under_way g c =
    let d : Directed = directed c.args.entries.now c.args.reserved.now c.args.allowed.now in
    let least = g.C.Cores.least_of c.args.cores.now in
    let old = g.K.Kernel.state c.args.kernel.now in
    let e = c.index-entries-place.result in
    let u = c.requires.under_way in
    let room : length c.args.standings.now ≡ length c.args.entries.now = u.seen.room in
    let inside : c.args.place < length c.args.standings.now = giving_within c.args.standings.now c.args.place c.args.giving c.requires.turn in
    let within : c.args.place < length c.args.entries.now = omega (arith, room, inside) in
    let is_cpus = c.gets-cpus.ensures
    ∙ gets_alike old c.args.reserved.now c.args.entries.now (λ _. c.allowed_at-own.result) (allowed_in c.args.entries.now c.args.allowed.now) e
    (c.allowed_at-own.ensures ∙ sym (allowed_here c.args.entries.now c.args.allowed.now c.args.place e c.requires.valid.groups within c.index-entries-place.is)) least c.args.giving in
    subst (λ (k : KernelState). IsUnderWay d least k c.args.seen.now c.args.nexts.now c.put.new.standings c.held_now.result c.exchange.new.self) (sym c.in_ok-write.ensures)
    (subst (λ (x : Option Ids). IsUnderWay d least (written old (Some (write_of e c.gets-cpus.result))) c.args.seen.now c.args.nexts.now c.put.new.standings x c.exchange.new.self) (sym c.held_now.ensures)
    (way_given d c.requires.valid least c.requires.serves old c.args.seen.now c.args.nexts.now c.args.standings.now c.args.now.now c.args.bounds.now u c.requires.calm c.args.place e within
    c.index-entries-place.is c.args.giving c.requires.turn c.gets-cpus.result is_cpus c.exchange.new.self c.put.new.standings c.requested.result.now c.minus.result c.requested.ensures c.minus.ensures
    c.exchange.ensures.held c.exchange.ensures.own c.put.ensures))
