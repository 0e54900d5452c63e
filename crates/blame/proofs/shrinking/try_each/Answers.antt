use Rattle.std.proofs.Common.{below_more, arith}
use Rattle.blame.specs.Shrinking.{IsSettled}
use Rattle.blame.proofs.ShrinkingLemmas.{all_needed}
use Rattle.blame.proofs.shrinking.try_each.Goals as goal

pub loop-row-preserved : goal.loop-row-preserved
loop-row-preserved c = record {
  marked = c.in_ok-try_one.ensures.marked;
  settled =
      below_more (IsSettled c.try_one.new.marked) c.loop-row.row (λ k lt. c.in_ok-try_one.ensures.kept k (c.loop-row.invariant.settled k lt))
      c.in_ok-try_one.ensures.tried;
}

pub returns-clause-needed : goal.returns-clause-needed
returns-clause-needed c =
    all_needed c.args.rows.now c.loop-row.marked.members.items c.loop-row.marked.known.items c.loop-row.invariant.marked.shortage c.loop-row.invariant.marked.needed
    (λ k lt here. c.loop-row.invariant.settled k (omega (arith, lt, c.loop-row-test.false, c.loop-row.auto.row-end)) here)
