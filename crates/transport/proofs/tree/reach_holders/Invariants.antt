use Rattle.std.proofs.Common.{length, take}
use Rattle.transport.specs.ReachedRows.{IsReachedRows, IsGrown}
use Rattle.transport.proofs.tree.reach_holders.Given as goal

abbrev pub invariant-loop-share : goal.invariant-loop-share
invariant-loop-share l = record {
  reached_rows : IsReachedRows (length l.initial.reached_rows.reached.items) l.reached_rows;
  grown : IsGrown l.initial.reached_rows l.reached_rows l.class l.bottleneck (take l.share-index l.shares) l.shares;
}
