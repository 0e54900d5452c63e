use Rattle.std.proofs.Common.{Bool, ◌≡◌, ◌+◌, ◌≤◌, true, refl, sym, ap, ◌∙◌, subst, arith}
use Rattle.std.proofs.lemmas.Result.{err_from_is_err_and}
use Rattle.apply_plan.specs.Holders.{IsSafe}
use Rattle.apply_plan.specs.Targets.{holders_of, ArePlaced}
use Rattle.apply_plan.specs.MayWrite.{left_directly}
use Rattle.apply_plan.specs.Directed.{Directed, Serves, IsDirected}
use Rattle.direct_finish.specs.FinishesDirectly.{MayFollow}
use Rattle.direct_finish.specs.Follows.{HasWritten, Stops, Turns}
use Rattle.direct_finish.specs.FollowLemmas.{none_written, written_then, stops_then}
use Rattle.direct_finish.specs.FinishLemmas.{written_safe}
use Rattle.direct_finish.specs.TurnLemmas.{finished, stopped}
use Rattle.direct_finish.proofs.finish.finish_body.Goals as goal

pub turns-init : goal.turns-init
turns-init g c = record {
  same = refl;
  made = none_written (MayFollow c.args.handover.now (g.C.Cores.least_of c.args.cores.now)) (g.K.Kernel.state c.args.kernel.now);
  placed = c.requires.placed;
  safe = c.requires.safe;
}

pub turns-preserved : goal.turns-preserved
turns-preserved g c =
    let d = c.args.handover.now in
    let least = g.C.Cores.least_of c.args.cores.now in
    let first = g.K.Kernel.state c.args.kernel.now in
    let old = g.K.Kernel.state c.turns.kernel in
    let new = g.K.Kernel.state c.turn.new.kernel in
    let i = c.turns.invariant in
    let t = c.in_ok-arrived.ensures in
    let u = c.turn.ensures in
    let valid = (subst IsDirected i.same u.valid).handover in
    let serves = subst (λ (x : Directed). Serves x least) i.same u.serves in
    let leaves = subst (λ (x : Directed). HasWritten (MayFollow x least) old new) i.same t.leaves in
    let after = written_safe d valid least serves old new leaves
    (subst (λ (x : Directed). ArePlaced old x.targets.entries) i.same i.placed)
    (subst (λ (x : Directed). IsSafe old x.targets.reserved (holders_of x.targets.entries)) i.same i.safe) in
    let same = u.same ∙ i.same in
    record {
      same = same;
      made = written_then (MayFollow d least) first old new i.made leaves;
      placed = subst (λ (x : Directed). ArePlaced new x.targets.entries) (sym same) after.0;
      safe = subst (λ (x : Directed). IsSafe new x.targets.reserved (holders_of x.targets.entries)) (sym same) after.1;
    }

pub turns-smaller : goal.turns-smaller
turns-smaller g c =
    let old = g.K.Kernel.state c.turns.kernel in
    let new = g.K.Kernel.state c.turn.new.kernel in
    let t = c.in_ok-arrived.ensures in
    let u = c.turn.ensures in
    let falls : left_directly c.turns.handover.targets new + 1 ≤ left_directly c.turns.handover.targets old =
    subst (λ (b : Bool). Turns c.turns.handover.targets old new b) c.if-arrived.false t.turns in
    let same : left_directly c.turn.new.handover.targets new ≡ left_directly c.turns.handover.targets new =
    ap (λ (x : Directed). left_directly x.targets new) u.same in
    omega (arith, falls, same)

pub returns-then-arrived : goal.returns-then-arrived
returns-then-arrived g c =
    let d = c.args.handover.now in
    let least = g.C.Cores.least_of c.args.cores.now in
    let first = g.K.Kernel.state c.args.kernel.now in
    let old = g.K.Kernel.state c.turns.kernel in
    let new = g.K.Kernel.state c.turn.new.kernel in
    let i = c.turns.invariant in
    let t = c.in_ok-arrived.ensures in
    let u = c.turn.ensures in
    let leaves = subst (λ (x : Directed). HasWritten (MayFollow x least) old new) i.same t.leaves in
    let none = subst (λ (x : Directed). Turns x.targets old new true) i.same (subst (λ (b : Bool). Turns c.turns.handover.targets old new b) c.if-arrived.true t.turns) in
    record {
      same = u.same ∙ i.same;
      finishes = finished d least first new (written_then (MayFollow d least) first old new i.made leaves) none;
      valid = subst IsDirected i.same u.valid;
      serves = subst (λ (x : Directed). Serves x least) i.same u.serves;
    }

pub returns-in_err-arrived : goal.returns-in_err-arrived
returns-in_err-arrived g c =
    let d = c.args.handover.now in
    let least = g.C.Cores.least_of c.args.cores.now in
    let first = g.K.Kernel.state c.args.kernel.now in
    let old = g.K.Kernel.state c.turns.kernel in
    let new = g.K.Kernel.state c.turn.new.kernel in
    let i = c.turns.invariant in
    let t = c.in_err-arrived.ensures in
    let u = c.turn.ensures in
    let p = err_from_is_err_and c.from_residual.result c.from_residual.ensures.1 in
    record {
      same = u.same ∙ i.same;
      finishes = rw (p.1, p.2)
          (stopped d least first new c.in_err-arrived.field-0.0
          (stops_then (MayFollow d least) first old new c.in_err-arrived.field-0.0 i.made
          (subst (λ (x : Directed). Stops (MayFollow x least) old c.in_err-arrived.field-0.0 new) i.same t.leaves)));
      valid = subst IsDirected i.same u.valid;
      serves = subst (λ (x : Directed). Serves x least) i.same u.serves;
    }
