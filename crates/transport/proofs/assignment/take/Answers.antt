use Rattle.std.proofs.Common.{◌+◌, ◌<◌, Vec, Global, length, sym, ap, subst, arith}
use Rattle.twins.specs.declared.holders.Share.{Share}
use Rattle.transport.specs.Shares.{IsTaking}
use Rattle.transport.proofs.Sharing.{taking_none, taking_skip, taking_some, taking_all}
use Rattle.transport.proofs.assignment.take.Goals as goal
use Rattle.transport.proofs.assignment.take.Goals.{then-share-row, else-share-row}

pub loop-at-init : goal.loop-at-init
loop-at-init c = taking_none _ _ _

pub loop-at-preserved : goal.loop-at-preserved
loop-at-preserved c =
    let lt : c.loop-at.at < length c.loop-at.shares.items = omega (arith, c.loop-at-test.true, c.len-at-end.ensures, c.args.shares.now.ok.0, c.loop-at.invariant.long) in
    elim c.if-share-row.branch [
      | then-share-row w ↦
          subst (λ n. IsTaking c.args.shares.now.items c.if-share-row.shares.items c.args.row c.args.amount n (c.loop-at.at + 1)) (sym w.left-is)
          (taking_some c.args.shares.now.items c.loop-at.shares.items c.if-share-row.shares.items c.args.row c.args.amount c.loop-at.left c.loop-at.at w.min-taken.result c.index-share.result.now c.index-share.result.now
          c.loop-at.invariant lt c.index-share.ensures w.if-share-row.true w.min-taken.ensures (ap (λ (v : Vec Share Global). v.items) w.shares-is))
      | else-share-row w ↦
          subst (λ n. IsTaking c.args.shares.now.items c.if-share-row.shares.items c.args.row c.args.amount n (c.loop-at.at + 1)) (sym w.left-is)
          (subst (λ (v : Vec Share Global). IsTaking c.args.shares.now.items v.items c.args.row c.args.amount c.loop-at.left (c.loop-at.at + 1)) (sym w.shares-is)
          (taking_skip c.args.shares.now.items c.loop-at.shares.items c.args.row c.args.amount c.loop-at.left c.loop-at.at c.index-share.result.now c.index-share.result.now c.loop-at.invariant lt c.index-share.ensures w.if-share-row.false))
    ]

pub returns : goal.returns
returns c =
    taking_all c.args.shares.now.items c.loop-at.shares.items c.args.row c.args.amount c.loop-at.left c.loop-at.at c.loop-at.invariant
    (omega (arith, c.loop-at-test.false, c.len-at-end.ensures, c.args.shares.now.ok.0, c.loop-at.invariant.long)) c.requires
