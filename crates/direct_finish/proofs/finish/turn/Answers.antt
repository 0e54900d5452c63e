use Rattle.std.proofs.Common.{◌≡◌, ◌+◌, ◌≤◌, Bool, true, false, List, refl, sym, ap, ◌∙◌, subst}
use Rattle.std.proofs.lemmas.Result.{err_from_is_err_and}
use Rattle.std.specs.Prelude.{find, is_none}
use Rattle.kernel_model.specs.KernelState.{KernelState}
use Rattle.apply_plan.specs.declared.Entry.{Entry}
use Rattle.apply_plan.specs.Holders.{IsSafe}
use Rattle.apply_plan.specs.Targets.{Targets, holders_of, IsHandover, ArePlaced}
use Rattle.apply_plan.specs.DueWrite.{must_move}
use Rattle.apply_plan.specs.MayWrite.{left_directly}
use Rattle.apply_plan.specs.Directed.{Directed, Serves}
use Rattle.direct_finish.specs.FinishesDirectly.{TakesFree, MayFollow}
use Rattle.direct_finish.specs.Follows.{HasWritten, Stops, Falls}
use Rattle.direct_finish.specs.FollowLemmas.{none_written, written_then, stops_then, same_written}
use Rattle.direct_finish.specs.TurnLemmas.{taken_follow, stopped_follow, step_follows, step_stops, step_falls}
use Rattle.direct_finish.specs.Seen.{directed}
use Rattle.direct_finish.proofs.finish.turn.Goals as goal

pub look-bounds-requires : goal.look-bounds-requires
look-bounds-requires g c = subst (λ (es : List Entry). ArePlaced (g.K.Kernel.state c.args.kernel.now) es) (sym c.entries-entries.ensures.entries) c.requires.placed

pub settle-requires : goal.settle-requires
settle-requires g c =
    let old = g.K.Kernel.state c.args.kernel.now in
    let here : Targets = record { entries = c.entries-entries.result.now; reserved = c.reserved.result.now } in
    let is : here ≡ c.args.handover.now.targets = λ i. record { entries = c.entries-entries.ensures.entries i; reserved = c.reserved.ensures i } in
    record {
      valid = subst IsHandover (sym is) c.entries-entries.ensures.valid.handover;
      ready = record {
        placed = subst (λ (h : Targets). ArePlaced old h.entries) (sym is) c.requires.placed;
        safe = subst (λ (h : Targets). IsSafe old h.reserved (holders_of h.entries)) (sym is) c.requires.safe;
        bounded = c.look-bounds.ensures.bounded;
      };
    }

pub returns-then-arrived : goal.returns-then-arrived
returns-then-arrived g c =
    let old = g.K.Kernel.state c.args.kernel.now in
    record {
      same = refl;
      leaves = none_written (MayFollow c.args.handover.now (g.C.Cores.least_of c.args.cores.now)) old;
      turns = ap (λ (es : List Entry). is_none (find (must_move old) es)) (sym c.entries-entries.ensures.entries) ∙ sym c.look-bounds.ensures.arrived ∙ c.if-arrived.true;
      valid = c.entries-entries.ensures.valid;
      serves = record { told = c.gives_least.ensures; ranged = c.entries-entries.ensures.valid.ranged };
    }

pub returns-in_err-moved-clause-leaves : goal.returns-in_err-moved-clause-leaves
returns-in_err-moved-clause-leaves g c =
    let d = c.args.handover.now in
    let old = g.K.Kernel.state c.args.kernel.now in
    let new = g.K.Kernel.state c.settle.new.kernel in
    let here : Targets = record { entries = c.entries-entries.result.now; reserved = c.reserved.result.now } in
    let is : here ≡ d.targets = λ i. record { entries = c.entries-entries.ensures.entries i; reserved = c.reserved.ensures i } in
    let p = err_from_is_err_and c.from_residual.result c.from_residual.ensures.1 in
    rw (p.1, p.2)
    (stopped_follow d (g.C.Cores.least_of c.args.cores.now) old new c.in_err-moved.field-0.0
    (subst (λ (h : Targets). Stops (TakesFree h) old c.in_err-moved.field-0.0 new) is c.in_err-moved.ensures.leaves))

pub returns-in_err-moved-clause-serves : goal.returns-in_err-moved-clause-serves
returns-in_err-moved-clause-serves g c = record { told = c.gives_least.ensures; ranged = c.entries-entries.ensures.valid.ranged }

pub returns-then-moved : goal.returns-then-moved
returns-then-moved g c =
    let d = c.args.handover.now in
    let old = g.K.Kernel.state c.args.kernel.now in
    let new = g.K.Kernel.state c.settle.new.kernel in
    let here : Targets = record { entries = c.entries-entries.result.now; reserved = c.reserved.result.now } in
    let is : here ≡ d.targets = λ i. record { entries = c.entries-entries.ensures.entries i; reserved = c.reserved.ensures i } in
    record {
      same = refl;
      leaves = taken_follow d (g.C.Cores.least_of c.args.cores.now) old new (subst (λ (h : Targets). HasWritten (TakesFree h) old new) is c.in_ok-moved.ensures.leaves);
      turns = subst (λ (h : Targets). Falls h old new true) is (subst (λ (b : Bool). Falls here old new b) c.if-moved.true c.in_ok-moved.ensures.falls);
      valid = c.entries-entries.ensures.valid;
      serves = record { told = c.gives_least.ensures; ranged = c.entries-entries.ensures.valid.ranged };
    }

-- where nobody got its target, nothing was written
pub break_if_room-requires : goal.break_if_room-requires
break_if_room-requires g c =
    let d' : Directed = directed c.entries-entries.result.now c.reserved.result.now c.allowed.result.now in
    let is : d' ≡ c.args.handover.now = λ i. record {
      targets = record { entries = c.entries-entries.ensures.entries i; reserved = c.reserved.ensures i };
      allowed = c.allowed.ensures i;
    } in
    record {
      valid = subst (λ (x : Directed). IsHandover x.targets) (sym is) c.entries-entries.ensures.valid.handover;
      serves = subst (λ (x : Directed). Serves x (g.C.Cores.least_of c.args.cores.now)) (sym is) (record { told = c.gives_least.ensures; ranged = c.entries-entries.ensures.valid.ranged });
      ready = c.in_ok-moved.ensures.ready;
    }

pub returns-in_err-broke-clause-leaves : goal.returns-in_err-broke-clause-leaves
returns-in_err-broke-clause-leaves g c =
    let d = c.args.handover.now in
    let least = g.C.Cores.least_of c.args.cores.now in
    let old = g.K.Kernel.state c.args.kernel.now in
    let mid = g.K.Kernel.state c.settle.new.kernel in
    let new = g.K.Kernel.state c.break_if_room.new.kernel in
    let d' : Directed = directed c.entries-entries.result.now c.reserved.result.now c.allowed.result.now in
    let is : d' ≡ d = λ i. record {
      targets = record { entries = c.entries-entries.ensures.entries i; reserved = c.reserved.ensures i };
      allowed = c.allowed.ensures i;
    } in
    let taken = subst (λ (x : Directed). HasWritten (MayFollow x least) old mid) is (taken_follow d' least old mid c.in_ok-moved.ensures.leaves) in
    let p = err_from_is_err_and c.from_residual-in_err-broke.result c.from_residual-in_err-broke.ensures.1 in
    rw (p.1, p.2)
    (stops_then (MayFollow d least) old mid new c.in_err-broke.field-0.0 taken
    (subst (λ (x : Directed). Stops (MayFollow x least) mid c.in_err-broke.field-0.0 new) is c.in_err-broke.ensures.leaves))

pub returns-in_err-broke-clause-serves : goal.returns-in_err-broke-clause-serves
returns-in_err-broke-clause-serves g c = record { told = c.gives_least.ensures; ranged = c.entries-entries.ensures.valid.ranged }

pub returns-then-broke : goal.returns-then-broke
returns-then-broke g c =
    let d = c.args.handover.now in
    let least = g.C.Cores.least_of c.args.cores.now in
    let old = g.K.Kernel.state c.args.kernel.now in
    let mid = g.K.Kernel.state c.settle.new.kernel in
    let new = g.K.Kernel.state c.break_if_room.new.kernel in
    let here : Targets = record { entries = c.entries-entries.result.now; reserved = c.reserved.result.now } in
    let d' : Directed = directed c.entries-entries.result.now c.reserved.result.now c.allowed.result.now in
    let is : d' ≡ d = λ i. record {
      targets = record { entries = c.entries-entries.ensures.entries i; reserved = c.reserved.ensures i };
      allowed = c.allowed.ensures i;
    } in
    let stays : mid ≡ old = subst (λ (b : Bool). Falls here old mid b) c.if-moved.false c.in_ok-moved.ensures.falls in
    let taken = taken_follow d' least old mid c.in_ok-moved.ensures.leaves in
    let falls : left_directly here new + 1 ≤ left_directly here mid = subst (λ (b : Bool). Falls here mid new b) c.if-broke.true c.in_ok-broke.ensures.falls in
    record {
      same = refl;
      leaves = subst (λ (x : Directed). HasWritten (MayFollow x least) old new) is (written_then (MayFollow d' least) old mid new taken c.in_ok-broke.ensures.leaves);
      turns = subst (λ (x : Directed). left_directly x.targets new + 1 ≤ left_directly x.targets old) is
          (subst (λ (k : KernelState). left_directly here new + 1 ≤ left_directly here k) stays falls);
      valid = c.entries-entries.ensures.valid;
      serves = record { told = c.gives_least.ensures; ranged = c.entries-entries.ensures.valid.ranged };
    }

pub step-requires : goal.step-requires
step-requires g c =
    let old = g.K.Kernel.state c.args.kernel.now in
    let mid = g.K.Kernel.state c.settle.new.kernel in
    let last = g.K.Kernel.state c.break_if_room.new.kernel in
    let here : Targets = record { entries = c.entries-entries.result.now; reserved = c.reserved.result.now } in
    let stays : mid ≡ old = subst (λ (b : Bool). Falls here old mid b) c.if-moved.false c.in_ok-moved.ensures.falls in
    let rests : last ≡ mid = subst (λ (b : Bool). Falls here mid last b) c.if-broke.false c.in_ok-broke.ensures.falls in
    subst (λ (k : KernelState). ArePlaced k c.args.handover.now.targets.entries) (sym (rests ∙ stays)) c.requires.placed

pub returns-in_err-step-clause-leaves : goal.returns-in_err-step-clause-leaves
returns-in_err-step-clause-leaves g c =
    let d = c.args.handover.now in
    let least = g.C.Cores.least_of c.args.cores.now in
    let old = g.K.Kernel.state c.args.kernel.now in
    let mid = g.K.Kernel.state c.settle.new.kernel in
    let last = g.K.Kernel.state c.break_if_room.new.kernel in
    let new = g.K.Kernel.state c.step.new.kernel in
    let here : Targets = record { entries = c.entries-entries.result.now; reserved = c.reserved.result.now } in
    let stays : mid ≡ old = subst (λ (b : Bool). Falls here old mid b) c.if-moved.false c.in_ok-moved.ensures.falls in
    let rests : last ≡ mid = subst (λ (b : Bool). Falls here mid last b) c.if-broke.false c.in_ok-broke.ensures.falls in
    let none = same_written (MayFollow d least) old last (rests ∙ stays) in
    let p = err_from_is_err_and c.from_residual-in_err-step.result c.from_residual-in_err-step.ensures.1 in
    rw (p.1, p.2) (stops_then (MayFollow d least) old last new c.in_err-step.field-0.0 none (step_stops d least last new c.in_err-step.field-0.0 c.in_err-step.ensures.step))

pub returns-in_err-step-clause-serves : goal.returns-in_err-step-clause-serves
returns-in_err-step-clause-serves g c = record { told = c.gives_least.ensures; ranged = c.entries-entries.ensures.valid.ranged }

pub returns : goal.returns
returns g c =
    let d = c.args.handover.now in
    let least = g.C.Cores.least_of c.args.cores.now in
    let old = g.K.Kernel.state c.args.kernel.now in
    let mid = g.K.Kernel.state c.settle.new.kernel in
    let last = g.K.Kernel.state c.break_if_room.new.kernel in
    let new = g.K.Kernel.state c.step.new.kernel in
    let here : Targets = record { entries = c.entries-entries.result.now; reserved = c.reserved.result.now } in
    let stays : mid ≡ old = subst (λ (b : Bool). Falls here old mid b) c.if-moved.false c.in_ok-moved.ensures.falls in
    let rests : last ≡ mid = subst (λ (b : Bool). Falls here mid last b) c.if-broke.false c.in_ok-broke.ensures.falls in
    let same : last ≡ old = rests ∙ stays in
    let none = same_written (MayFollow d least) old last same in
    let valid = c.entries-entries.ensures.valid in
    let serves : Serves d least = record { told = c.gives_least.ensures; ranged = valid.ranged } in
    let moves : is_none (find (must_move last) d.targets.entries) ≡ false =
    ap (λ (k : KernelState). is_none (find (must_move k) d.targets.entries)) same
    ∙ ap (λ (es : List Entry). is_none (find (must_move old) es)) (sym c.entries-entries.ensures.entries) ∙ sym c.look-bounds.ensures.arrived ∙ c.if-arrived.false in
    let placed = subst (λ (k : KernelState). ArePlaced k d.targets.entries) (sym same) c.requires.placed in
    let falls : left_directly d.targets new + 1 ≤ left_directly d.targets last =
    step_falls d least valid.handover serves last new c.in_ok-step.field-0 placed moves c.in_ok-step.ensures.lowers in
    record {
      same = c.step.ensures.same;
      leaves = written_then (MayFollow d least) old last new none (step_follows d least last new c.in_ok-step.field-0 c.in_ok-step.ensures.step);
      turns = subst (λ (k : KernelState). left_directly d.targets new + 1 ≤ left_directly d.targets k) same falls;
      valid = valid;
      serves = serves;
    }
