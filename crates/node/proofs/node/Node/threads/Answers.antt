use Rattle.std.proofs.Common.{arith}
use Rattle.node.proofs.NeedLemmas.{threads_few}
use Rattle.node.proofs.node.Node.threads.Goals as goal

pub returns-clause-few : goal.returns-clause-few
returns-clause-few g c = omega (arith, c.threads.ensures.is, threads_few _ c.self.invariant.node.layout)
