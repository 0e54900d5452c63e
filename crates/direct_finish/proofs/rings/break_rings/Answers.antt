use Rattle.std.proofs.Common.{Bool, ◌||◌, refl, sym, ap, ◌∙◌, subst}
use Rattle.std.proofs.lemmas.Result.{err_from_is_err_and}
use Rattle.apply_plan.specs.Targets.{Targets}
use Rattle.apply_plan.specs.Directed.{Directed}
use Rattle.direct_finish.specs.FinishesDirectly.{MayFollow}
use Rattle.direct_finish.specs.Follows.{Falls}
use Rattle.direct_finish.specs.FollowLemmas.{none_written, written_then, stops_then, falls_then}
use Rattle.direct_finish.specs.TurnLemmas.{taken_follow, stopped_follow}
use Rattle.direct_finish.specs.Seen.{directed}
use Rattle.direct_finish.specs.SettledLemmas.{since_nothing}
use Rattle.direct_finish.proofs.rings.break_rings.Goals as goal

pub loop-turn-init : goal.loop-turn-init
loop-turn-init g c =
    let d : Directed = directed c.args.entries.now c.args.reserved.now c.args.allowed.now in
    record {
      made = none_written (MayFollow d (g.C.Cores.least_of c.args.cores.now)) (g.K.Kernel.state c.args.kernel.now);
      falls = refl;
      under_way = record { ready = c.requires.ready; seen = c.see-seen.ensures.seen; held = c.see-seen.ensures.held };
      since = since_nothing _ _ _ c.nothing-since.ensures.roomy c.nothing-since.ensures.full c.nothing-since.ensures.all;
    }

pub returns-in_err-settled-clause-leaves : goal.returns-in_err-settled-clause-leaves
returns-in_err-settled-clause-leaves g c =
    let d : Directed = directed c.args.entries.now c.args.reserved.now c.args.allowed.now in
    let least = g.C.Cores.least_of c.args.cores.now in
    let p = err_from_is_err_and c.from_residual.result c.from_residual.ensures.1 in
    rw (p.1, p.2) (stops_then (MayFollow d least) _ _ _ _ c.loop-turn.invariant.made (stopped_follow d least _ _ _ c.in_err-settled.ensures.leaves))

pub returns-in_err-gave-clause-leaves : goal.returns-in_err-gave-clause-leaves
returns-in_err-gave-clause-leaves g c =
    let d : Directed = directed c.args.entries.now c.args.reserved.now c.args.allowed.now in
    let least = g.C.Cores.least_of c.args.cores.now in
    let first = g.K.Kernel.state c.args.kernel.now in
    let old = g.K.Kernel.state c.loop-turn.kernel in
    let mid = g.K.Kernel.state c.settle_seen.new.kernel in
    let made = written_then (MayFollow d least) first old mid c.loop-turn.invariant.made (taken_follow d least old mid c.in_ok-settled.ensures.leaves) in
    let p = err_from_is_err_and c.from_residual-in_err-gave.result c.from_residual-in_err-gave.ensures.1 in
    rw (p.1, p.2) (stops_then (MayFollow d least) first mid _ _ made c.in_err-gave.ensures.leaves)

pub returns-then-not-gave-clause-leaves : goal.returns-then-not-gave-clause-leaves
returns-then-not-gave-clause-leaves g c =
    let d : Directed = directed c.args.entries.now c.args.reserved.now c.args.allowed.now in
    let least = g.C.Cores.least_of c.args.cores.now in
    let first = g.K.Kernel.state c.args.kernel.now in
    let old = g.K.Kernel.state c.loop-turn.kernel in
    let mid = g.K.Kernel.state c.settle_seen.new.kernel in
    let new = g.K.Kernel.state c.give_next.new.kernel in
    let made = written_then (MayFollow d least) first old mid c.loop-turn.invariant.made (taken_follow d least old mid c.in_ok-settled.ensures.leaves) in
    written_then (MayFollow d least) first mid new made c.in_ok-gave.ensures.leaves

pub returns-then-not-gave-clause-falls : goal.returns-then-not-gave-clause-falls
returns-then-not-gave-clause-falls g c =
    let h : Targets = record { entries = c.args.entries.now; reserved = c.args.reserved.now } in
    let first = g.K.Kernel.state c.args.kernel.now in
    let old = g.K.Kernel.state c.loop-turn.kernel in
    let mid = g.K.Kernel.state c.settle_seen.new.kernel in
    let new = g.K.Kernel.state c.give_next.new.kernel in
    subst (λ (b : Bool). Falls h first new b) (sym (c.either-moved.ensures ∙ ap (λ x. c.loop-turn.moved || x) c.either.ensures))
    (falls_then h first old new c.loop-turn.moved (c.in_ok-settled.settled || c.in_ok-gave.gave) c.loop-turn.invariant.falls
    (falls_then h old mid new c.in_ok-settled.settled c.in_ok-gave.gave c.in_ok-settled.ensures.falls c.in_ok-gave.ensures.falls))

pub loop-turn-preserved : goal.loop-turn-preserved
loop-turn-preserved g c =
    let d : Directed = directed c.args.entries.now c.args.reserved.now c.args.allowed.now in
    let h : Targets = record { entries = c.args.entries.now; reserved = c.args.reserved.now } in
    let least = g.C.Cores.least_of c.args.cores.now in
    let first = g.K.Kernel.state c.args.kernel.now in
    let old = g.K.Kernel.state c.loop-turn.kernel in
    let mid = g.K.Kernel.state c.settle_seen.new.kernel in
    let new = g.K.Kernel.state c.give_next.new.kernel in
    let made = written_then (MayFollow d least) first old mid c.loop-turn.invariant.made (taken_follow d least old mid c.in_ok-settled.ensures.leaves) in
    record {
      made = written_then (MayFollow d least) first mid new made c.in_ok-gave.ensures.leaves;
      falls = subst (λ (b : Bool). Falls h first new b) (sym (c.either-moved.ensures ∙ ap (λ x. c.loop-turn.moved || x) c.either.ensures))
          (falls_then h first old new c.loop-turn.moved (c.in_ok-settled.settled || c.in_ok-gave.gave) c.loop-turn.invariant.falls
          (falls_then h old mid new c.in_ok-settled.settled c.in_ok-gave.gave c.in_ok-settled.ensures.falls c.in_ok-gave.ensures.falls));
      under_way = c.in_ok-gave.ensures.under_way;
      since = c.in_ok-gave.ensures.since;
    }

pub note_befores-requires : goal.note_befores-requires
note_befores-requires g c = record { room = c.see-seen.ensures.marks ∙ sym c.see-seen.ensures.seen.waits_for.room }

pub give_next-requires-clause-behind : goal.give_next-requires-clause-behind
give_next-requires-clause-behind g c = c.note_befores.ensures.room ∙ c.see-seen.ensures.seen.waits_for.room
