use Rattle.std.proofs.Common.{arith}
use Rattle.transport.proofs.Blocks.{passed_inserted}
use Rattle.transport.proofs.search.pass_if_at_0.Goals as goal

pub returns-then-reach-scan : goal.returns-then-reach-scan
returns-then-reach-scan c = passed_inserted _ _ _ _ _ c.insert.ensures (omega (arith, c.if-reach-scan.true))
