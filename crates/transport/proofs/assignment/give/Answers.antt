use Rattle.std.proofs.Common.{◌+◌, ◌<◌, OnOk, length, set, refl, sym, ap, ◌∙◌, subst, arith, below_more}
use Rattle.twins.specs.Holdings.{share_of}
use Rattle.transport.specs.Shares.{IsShareGiven}
use Rattle.transport.proofs.ReachedRowsLemmas.{amount_le}
use Rattle.transport.proofs.Holders.{holder_at, none_seen}
use Rattle.transport.proofs.Sharing.{given_at}
use Rattle.transport.proofs.assignment.give.Goals as goal
use Rattle.transport.proofs.assignment.give.Goals.{After-index-share}

here : (c : After-index-share) → c.loop-at.at < length c.loop-at.shares.items
here c = omega (arith, c.loop-at-test.true, c.len-at-end.ensures, c.args.shares.now.ok.0, ap length c.loop-at.invariant.same)

pub overflow_add-share : goal.overflow_add-share
overflow_add-share c =
    let i = (goal.at.overflow_add-share c).After-index-share in
    let a = amount_le c.loop-at.shares.items c.loop-at.at c.index-share.result.now c.index-share.result.now (here i) c.index-share.ensures in
    let b = ap (λ k. share_of k c.loop-at.shares.items) c.if-share-row.true in
    let d = ap (λ xs. share_of c.args.row xs) c.loop-at.invariant.same in
    omega (arith, a, b, d, c.requires.fits)

pub returns-then-share-row : goal.returns-then-share-row
returns-then-share-row c =
    let i = (goal.at.returns-then-share-row c).After-index-share in
    let new = set c.loop-at.shares.items c.loop-at.at (record { row = c.args.row; amount = c.index-share.result.now.amount + c.args.amount }) in
    subst (λ xs. IsShareGiven xs new c.args.row c.args.amount) c.loop-at.invariant.same
    (given_at c.loop-at.shares.items new c.loop-at.at c.args.row c.args.amount c.index-share.result.now c.index-share.result.now (here i) c.index-share.ensures c.if-share-row.true refl)

pub returns : goal.returns
returns c =
    subst (λ xs. OnOk c.add-2.result (IsShareGiven xs c.add-2.new.shares.items c.args.row c.args.amount)) c.loop-at.invariant.same c.add-2.ensures

pub loop-at-preserved : goal.loop-at-preserved
loop-at-preserved c = record {
  same = c.loop-at.invariant.same;
  seen = below_more _ _ c.loop-at.invariant.seen
      (λ e. c.if-share-row.false (sym (holder_at c.loop-at.shares.items c.loop-at.at c.index-share.result.now c.index-share.result.now (here (goal.at.loop-at-preserved c).After-index-share) c.index-share.ensures) ∙ e));
}

pub add-requires-2 : goal.add-requires-2
add-requires-2 c =
    none_seen _ _ c.loop-at.shares.items c.loop-at.invariant.seen (omega (arith, c.loop-at-test.false, c.len-at-end.ensures, c.args.shares.now.ok.0, ap length c.loop-at.invariant.same))
