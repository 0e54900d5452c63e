use Rattle.std.proofs.Common.{Bool, true, false, not, ◌&&◌, ◌≡◌, refl, sym, ap, ◌∙◌}
use Rattle.std.specs.FinSet as set
use Rattle.apply_plan.specs.DirectWords.{has_own}
use Rattle.direct_finish.specs.BoundLemmas.{rests_bounded, rests_if_arrived, rests_if_grows, within_itself, added_within, added_bounded}
use Rattle.direct_finish.proofs.look.look_at.Goals as goal

and_true : (x : Bool) → x ≡ (x && true)
and_true true = refl
and_true false = refl

and_false : (x : Bool) → false ≡ (x && false)
and_false true = refl
and_false false = refl

pub returns-then-not-must_move : goal.returns-then-not-must_move
returns-then-not-must_move g c =
    let stays = sym c.must_move.ensures ∙ c.if-not-must_move.true in
    record {
      within = within_itself c.args.bounds.now c.args.bounds.now refl;
      here = rests_bounded (g.K.Kernel.state c.args.kernel.now) c.args.reserved.now c.args.bounds.now c.args.entry.now
          (rests_if_arrived (g.K.Kernel.state c.args.kernel.now) c.args.reserved.now c.args.entry.now stays);
      arrived = and_true c.args.arrived.now ∙ ap (λ b. c.args.arrived.now && not b) (sym stays);
    }

pub returns-then-not-holds_more : goal.returns-then-not-holds_more
returns-then-not-holds_more g c =
    let moves = sym c.must_move.ensures ∙ c.if-not-must_move.false in
    record {
      within = within_itself c.args.bounds.now c.args.bounds.now refl;
      here = rests_bounded (g.K.Kernel.state c.args.kernel.now) c.args.reserved.now c.args.bounds.now c.args.entry.now
          (rests_if_grows (g.K.Kernel.state c.args.kernel.now) c.args.reserved.now c.args.entry.now
          (ap (λ s. has_own c.args.reserved.now (set.difference s c.args.entry.now.target)) (sym c.requested-held.ensures) ∙ sym c.holds_more.ensures ∙ c.if-not-holds_more.true));
      arrived = and_false c.args.arrived.now ∙ ap (λ b. c.args.arrived.now && not b) (sym moves);
    }

pub returns : goal.returns
returns g c =
    let moves = sym c.must_move.ensures ∙ c.if-not-must_move.false in
    record {
      within = added_within (g.K.Kernel.state c.args.kernel.now) c.args.reserved.now c.args.bounds.now _ c.args.entry.now c.requested-held.result.now c.requested-held.ensures c.add.ensures.held c.add.ensures.own;
      here = added_bounded (g.K.Kernel.state c.args.kernel.now) c.args.reserved.now c.args.bounds.now _ c.args.entry.now c.requested-held.result.now c.requested-held.ensures c.add.ensures.held c.add.ensures.own;
      arrived = and_false c.args.arrived.now ∙ ap (λ b. c.args.arrived.now && not b) (sym moves);
    }
