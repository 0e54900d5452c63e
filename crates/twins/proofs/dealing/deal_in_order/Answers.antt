use Rattle.std.proofs.Common.{arith, take_all}
use Rattle.twins.proofs.Deals.{no_share, share_left, dealing_start, dealing_moved, dealing_end}
use Rattle.twins.proofs.dealing.deal_in_order.Goals as goal

pub loop-share-init : goal.loop-share-init
loop-share-init c = record {
  dealing = dealing_start c.args.class.now c.args.shares.now c.args.sets.now c.requires.free;
  first = c.first-next.ensures.first;
  in_range = c.first-next.ensures.in_range;
}

pub move_lowest-next-requires : goal.move_lowest-next-requires
move_lowest-next-requires c = record {
  count = share_left _ _ _ _ _ _ _ c.loop-share.invariant.dealing c.loop-share-test.true c.requires.room;
  first = c.loop-share.invariant.first;
  in_range = c.loop-share.invariant.in_range;
}

pub loop-share-preserved : goal.loop-share-preserved
loop-share-preserved c = record {
  dealing =
      dealing_moved c.args.class.now c.args.shares.now _ _ _ _ _ _ _ c.requires.in_range c.loop-share.invariant.dealing c.requires.rising c.loop-share-test.true
      (omega (arith, c.requires.rows c.loop-share.share-index no_share c.loop-share-test.true, c.loop-share.auto.sets)) c.move_lowest-next.ensures.moved;
  first = c.move_lowest-next.ensures.first;
  in_range = c.move_lowest-next.ensures.in_range;
}

pub returns : goal.returns
returns c = dealing_end _ _ _ _ _ _ _ c.loop-share.invariant.dealing (take_all _ _ c.loop-share-test.false)
