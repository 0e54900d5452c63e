use Rattle.std.proofs.Common.{◌<◌}
use Rattle.std.proofs.lemmas.List.Elements.{All-more}
use Rattle.tagged_sets.proofs.cuts.count_below.Goals as goal

pub loop-at-preserved : goal.loop-at-preserved
loop-at-preserved c = All-more (λ r. r.1 < c.args.number) _ _ (0, 0) c.loop-at-test.true c.loop-at.invariant c.if-range-number.false
