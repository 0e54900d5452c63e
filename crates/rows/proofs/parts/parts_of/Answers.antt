use Rattle.std.proofs.Common.{arith}
use Rattle.rows.proofs.HeldLemmas.{parted_more}
use Rattle.rows.proofs.parts.parts_of.Goals as goal

pub loop-at-preserved : goal.loop-at-preserved
loop-at-preserved c = parted_more _ _ _ _ _ (omega (arith, c.loop-at-test.true, c.loop-at.auto.at-end, c.len-at-end.ensures)) c.loop-at.invariant c.in_ok-push_parts.ensures
