use Rattle.std.proofs.Common.{◌<◌, arith}
use Rattle.std.proofs.lemmas.List.Elements.{All-more}
use Rattle.std.proofs.lemmas.List.Sums.{sum_by_more}
use Rattle.twins.specs.declared.holders.Share.{Share}
use Rattle.network_simplex.proofs.room.fit.Goals as goal

abbrev none : Share
none = record { row = 0; amount = 0 }

pub loop-k-preserved : goal.loop-k-preserved
loop-k-preserved c = record {
  rows_in = All-more (λ (s : Share). s.row < c.args.rows) c.args.shares.now c.loop-k.k none c.loop-k-test.true c.loop-k.invariant.rows_in (omega (arith, c.if-share-rows.false));
  room = omega (arith, c.loop-k.invariant.room, c.if-share-left.false, sum_by_more (λ (s : Share). s.amount) c.args.shares.now c.loop-k.k none c.loop-k-test.true);
}
